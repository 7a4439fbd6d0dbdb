use Rattle.std.proofs.Common.{sym, subst}
use Rattle.melt_core.specs.Advances.{AdvancesOver}
use Rattle.melt_core.specs.declared.answer.Pause.TheVariants.{Forward}
use Rattle.melt_core.specs.declared.answer.Refusal.TheVariants.{Pause}
use Rattle.melt_core.specs.declared.answer.StepResult.TheVariants.{Refused}
use Rattle.melt_core.specs.Views.{View, view}
use Rattle.melt_core.proofs.Asked.{asks_over}
use Rattle.melt_core.proofs.Searching.{full_advances}
use Rattle.melt_core.proofs.machine.Core.pause_full.Goals as goal

pub returns : goal.returns
returns c = record {
  over = λ disk stands.
      let asks = asks_over (view c.args.self.now) c.args.thread c.args.op c.requires.asks disk stands in
      let v : View = view c.args.self.now in
      subst (λ (w : View). AdvancesOver disk v w c.args.thread c.args.op (Refused (Pause Forward)))
      (sym c.set_call.ensures)
      (full_advances disk v c.args.thread c.args.op c.args.search asks c.requires.stage c.requires.all);
}
