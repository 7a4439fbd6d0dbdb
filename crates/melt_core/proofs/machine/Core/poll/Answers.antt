use Rattle.std.proofs.Common.{sym, subst}
use Rattle.melt_core.specs.Advances.{AdvancesOver}
use Rattle.melt_core.specs.declared.answer.StepResult.TheVariants.{Going}
use Rattle.melt_core.specs.Views.{View, view}
use Rattle.melt_core.proofs.Asked.{asks_over}
use Rattle.melt_core.proofs.Going.{poll_advances}
use Rattle.melt_core.proofs.machine.Core.poll.Goals as goal

pub returns : goal.returns
returns c = record {
  over = λ disk stands.
      let asks = asks_over (view c.args.self.now) c.args.thread c.args.op c.requires.asks disk stands in
      let v : View = view c.args.self.now in
      subst (λ (w : View). AdvancesOver disk v w c.args.thread c.args.op Going) (sym c.set_call.ensures)
      (poll_advances disk v c.args.thread c.args.op c.args.task asks c.requires.first c.requires.shares
      (cc));
}
