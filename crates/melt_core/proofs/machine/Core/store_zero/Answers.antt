use Rattle.std.proofs.Common.{sym, subst, ◌≡◌, ◌+◌}
use Rattle.std.specs.Prelude.{Some}
use Rattle.melt_core.specs.Advances.{AdvancesOver}
use Rattle.melt_core.specs.declared.answer.StepResult.TheVariants.{Going}
use Rattle.melt_core.specs.declared.call.Stage.{Stage}
use Rattle.melt_core.specs.declared.call.Stage.TheVariants.{Claimed}
use Rattle.melt_core.specs.Changed.{with_call}
use Rattle.melt_core.specs.Views.{View, call_of, view}
use Rattle.melt_core.proofs.Asked.{asks_over, call_at}
use Rattle.melt_core.proofs.Making.{store_zero_advances}
use Rattle.melt_core.proofs.machine.Core.store_zero.Goals as goal

pub set_stage-requires-clause-call : goal.set_stage-requires-clause-call
set_stage-requires-clause-call c =
    let disk = c.requires.asks.disk in
    let stage : Stage = Claimed c.args.claim.address c.args.claim.shape c.args.claim.stored c.args.claim.dst in (
      stage,
      subst (λ (m : View). call_of m c.args.thread ≡ Some (record { op = c.args.op; stage = stage }))
          (sym c.set_word.ensures.only)
          (call_at disk (view c.args.self.now) c.args.thread c.args.op stage c.requires.asks.asks c.requires.stage),
    )

pub returns-clause-moves : goal.returns-clause-moves
returns-clause-moves c = record {
  over = λ disk stands.
      let asks = asks_over (view c.args.self.now) c.args.thread c.args.op c.requires.asks disk stands in
      let v : View = view c.args.self.now in
      let next : Stage = Claimed c.args.claim.address c.args.claim.shape (c.args.claim.stored + 1) c.args.claim.dst in
      subst (λ (w : View). AdvancesOver disk v w c.args.thread c.args.op Going) (sym c.set_stage.ensures)
      (subst (λ (m : View). AdvancesOver disk v (with_call m c.args.thread
      (Some (record { op = c.args.op; stage = next }))) c.args.thread c.args.op Going) (sym c.set_word.ensures.only)
      (store_zero_advances asks c.requires.stage c.requires.few c.set_word.ensures.sets));
}
