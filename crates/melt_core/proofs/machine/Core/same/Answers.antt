use Rattle.melt_model.specs.declared.operations.Op.TheVariants as op
use Rattle.std.proofs.Common.{sym, ◌∙◌}
use Rattle.melt_core.specs.Views.{View, view}
use Rattle.melt_core.proofs.Asked.{asks_over}
use Rattle.melt_core.proofs.Answered.{differ_advances}
use Rattle.melt_core.proofs.machine.Core.same.Goals as goal

pub returns-else-register : goal.returns-else-register
returns-else-register c = record {
  over = λ disk stands.
      let asks = asks_over (view c.args.self.now) c.args.thread (op.Same c.args.a c.args.b) c.requires.asks disk stands
      in
      let v : View = view c.args.self.now in
      differ_advances disk v c.args.thread c.args.a c.args.b asks c.requires.first
      (λ e. c.if-register.false (c.register.ensures ∙ (e ∙ sym c.register-2.ensures)));
}
