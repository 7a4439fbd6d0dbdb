use Rattle.std.proofs.Common.{sym, ◌∙◌}
use Rattle.melt_core.specs.Views.{View, view}
use Rattle.melt_core.proofs.Asked.{asks_over}
use Rattle.melt_core.proofs.Answered.{nil_advances}
use Rattle.melt_core.proofs.machine.Core.poll_object.Goals as goal

pub returns-then-register-eq0 : goal.returns-then-register-eq0
returns-then-register-eq0 c = record {
  over = λ disk stands.
      let asks = asks_over (view c.args.self.now) c.args.thread c.args.op c.requires.asks disk stands in
      let v : View = view c.args.self.now in
      nil_advances disk v c.args.thread c.args.op c.args.r c.args.access asks c.requires.first c.requires.task
      (sym c.register.ensures ∙ c.if-register-eq0.true);
}
