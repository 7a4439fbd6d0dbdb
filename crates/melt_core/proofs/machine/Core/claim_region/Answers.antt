-- The words that were claimed end before the last one of the heap, or past it.
use Rattle.std.proofs.Common.{sym, ap, subst, arith, ◌≡◌, ℕ}
use Rattle.std.specs.Prelude.{Some}
use Rattle.melt_core.specs.Advances.{AdvancesOver}
use Rattle.melt_core.specs.Changed.{with_call}
use Rattle.melt_core.specs.declared.answer.StepResult.TheVariants.{Going}
use Rattle.melt_core.specs.declared.call.Stage.{Stage}
use Rattle.melt_core.specs.declared.call.Stage.TheVariants.{Polled, Claimed, Lacking}
use Rattle.melt_core.specs.declared.call.Task.TheVariants.{Make}
use Rattle.melt_core.specs.Views.{View, call_of, view}
use Rattle.melt_core.proofs.Asked.{asks_over, call_at}
use Rattle.melt_core.proofs.Making.{around_make, claim_advances}
use Rattle.melt_core.proofs.machine.Core.claim_region.Goals as goal
use Rattle.melt_core.proofs.machine.Core.claim_region.Goals.{After-claim_words}

-- the call as it stood before
polled : (c : After-claim_words) → (stage : Stage)
    × (call_of (view c.claim_words.new.self) c.args.thread ≡ Some (record { op = c.args.op; stage = stage }))
polled c =
    let disk = c.requires.asks.disk in
    let stage : Stage = Polled (Make c.args.dst c.args.shape) in (
      stage,
      subst (λ (m : View). call_of m c.args.thread ≡ Some (record { op = c.args.op; stage = stage }))
          (sym c.claim_words.ensures.moves)
          (call_at disk (view c.args.self.now) c.args.thread c.args.op stage c.requires.asks.asks c.requires.stage),
    )

pub set_stage-requires-clause-call : goal.set_stage-requires-clause-call
set_stage-requires-clause-call c = polled (goal.at.set_stage-requires-clause-call c).After-claim_words

pub set_stage-requires-in-None-clause-call : goal.set_stage-requires-in-None-clause-call
set_stage-requires-in-None-clause-call c =
    polled (goal.at.set_stage-requires-in-None-clause-call c).After-claim_words

pub returns-in-Some-clause-moves : goal.returns-in-Some-clause-moves
returns-in-Some-clause-moves c = record {
  over = λ disk stands.
      let asks = asks_over (view c.args.self.now) c.args.thread c.args.op c.requires.asks disk stands in
      let v : View = view c.args.self.now in
      subst (λ (w : View). AdvancesOver disk v w c.args.thread c.args.op Going) (sym c.set_stage.ensures)
      (subst (λ (m : View). AdvancesOver disk v
      (with_call m c.args.thread (Some (record {
        op = c.args.op;
        stage = Claimed c.in-Some.address c.args.shape 0 c.args.dst;
      }))) c.args.thread c.args.op Going)
      (sym c.claim_words.ensures.moves)
      (claim_advances disk (record {
        around = around_make disk v c.args.thread c.args.op c.args.dst c.args.shape asks c.requires.stage;
        needed = c.cost-need.ensures;
        fits = λ below. ap (λ (a : ℕ). Claimed a c.args.shape 0 c.args.dst) c.in-Some.ensures.room.0;
        lacks = λ above. absurd (omega (arith, above, c.in-Some.ensures.room.1));
      })));
}

pub returns-in-None-clause-moves : goal.returns-in-None-clause-moves
returns-in-None-clause-moves c = record {
  over = λ disk stands.
      let asks = asks_over (view c.args.self.now) c.args.thread c.args.op c.requires.asks disk stands in
      let v : View = view c.args.self.now in
      subst (λ (w : View). AdvancesOver disk v w c.args.thread c.args.op Going) (sym c.set_stage-in-None.ensures)
      (subst (λ (m : View). AdvancesOver disk v
      (with_call m c.args.thread (Some (record { op = c.args.op; stage = Lacking c.cost-need.result })))
      c.args.thread c.args.op Going) (sym c.claim_words.ensures.moves)
      (claim_advances disk (record {
        around = around_make disk v c.args.thread c.args.op c.args.dst c.args.shape asks c.requires.stage;
        needed = c.cost-need.ensures;
        fits = λ below. absurd (omega (arith, below, c.in-None.ensures.room));
        lacks = λ above. ap Lacking c.cost-need.ensures;
      })));
}
