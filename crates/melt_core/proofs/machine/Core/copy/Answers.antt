use Rattle.std.proofs.Common.{sym, subst}
use Rattle.melt_model.specs.declared.operations.Op.TheVariants as op
use Rattle.melt_model.specs.declared.operations.Reply.TheVariants as reply
use Rattle.melt_core.specs.Advances.{AdvancesOver}
use Rattle.melt_core.specs.declared.answer.StepResult.TheVariants.{Answered}
use Rattle.melt_core.specs.Views.{View, view}
use Rattle.melt_core.proofs.Asked.{asks_over}
use Rattle.melt_core.proofs.Answered.{copy_advances}
use Rattle.melt_core.proofs.machine.Core.copy.Goals as goal

pub returns : goal.returns
returns c = record {
  over = λ disk stands.
      let asks = asks_over (view c.args.self.now) c.args.thread (op.Copy c.args.dst c.args.src) c.requires.asks disk
      stands in
      subst (λ (w : View). AdvancesOver disk (view c.args.self.now) w c.args.thread (op.Copy c.args.dst c.args.src)
      (Answered reply.Done)) (sym c.set_register.ensures)
      (copy_advances disk (view c.args.self.now) c.args.thread c.args.dst c.args.src c.register-address.result asks
      c.requires.first c.register-address.ensures);
}
