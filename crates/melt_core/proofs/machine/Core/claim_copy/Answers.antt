use Rattle.std.proofs.Common.{sym, ap, subst, arith, ◌∙◌, ◌≡◌, ℕ}
use Rattle.std.specs.Prelude.{Some}
use Rattle.melt_core.specs.Advances.{AdvancesOver}
use Rattle.melt_core.specs.Changed.{with_call}
use Rattle.melt_core.specs.declared.answer.StepResult.TheVariants.{Going}
use Rattle.melt_core.specs.declared.call.Stage.{Stage}
use Rattle.melt_core.specs.declared.call.Stage.TheVariants.{BodyRead, Copying}
use Rattle.melt_core.specs.Views.{View, call_of, view}
use Rattle.melt_core.proofs.Asked.{asks_over, call_at}
use Rattle.melt_core.proofs.Bodies.{around_copy}
use Rattle.melt_core.proofs.Making.{claim_advances}
use Rattle.melt_core.proofs.machine.Core.claim_copy.Goals.{in-Some, in-None}
use Rattle.melt_core.proofs.machine.Core.claim_copy.Goals as goal

pub set_stage-requires-clause-call : goal.set_stage-requires-clause-call
set_stage-requires-clause-call c =
    let disk = c.requires.asks.disk in
    let stage : Stage = BodyRead c.args.search c.args.shape in (
      stage,
      subst (λ (m : View). call_of m c.args.thread ≡ Some (record { op = c.args.op; stage = stage }))
          (sym c.claim_words.ensures.moves)
          (call_at disk (view c.args.self.now) c.args.thread c.args.op stage c.requires.asks.asks c.requires.stage),
    )

pub returns : goal.returns
returns c = record {
  over = λ disk stands.
      let asks = asks_over (view c.args.self.now) c.args.thread c.args.op c.requires.asks disk stands in
      let v : View = view c.args.self.now in
      subst (λ (w : View). AdvancesOver disk v w c.args.thread c.args.op Going) (sym c.set_stage.ensures)
      (subst (λ (m : View). AdvancesOver disk v
      (with_call m c.args.thread (Some (record { op = c.args.op; stage = c.match-claim_words.stage }))) c.args.thread
      c.args.op Going) (sym c.claim_words.ensures.moves)
      (claim_advances disk (record {
        around = around_copy disk v c.args.thread c.args.op c.args.search c.args.shape asks c.requires.stage;
        needed = c.cost.ensures;
        fits = λ below. elim c.match-claim_words.branch [
          | in-Some w ↦ w.stage-is
              ∙ ap (λ (a : ℕ). Copying (record { search = c.args.search; address = a; shape = c.args.shape }) 0)
              w.in-Some.ensures.room.0
          | in-None w ↦ absurd (omega (arith, below, w.in-None.ensures.room))
        ];
        lacks = λ above. elim c.match-claim_words.branch [
          | in-Some w ↦ absurd (omega (arith, above, w.in-Some.ensures.room.1))
          | in-None w ↦ w.stage-is
        ];
      })));
}
