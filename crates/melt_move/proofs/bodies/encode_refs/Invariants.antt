use Rattle.std.proofs.Common.{◌≡◌, ℕ, ◌+◌, ◌<◌, ◌≤◌, ◌^◌}
use Rattle.std.specs.Prelude.{slice_index}
use Rattle.melt_record.specs.Records.{IsSlotWord}
use Rattle.melt_scion.specs.State.{State}
use Rattle.melt_move.specs.Bodies.{AreLeavingRefs, BecomesHome}
use Rattle.melt_move.proofs.bodies.encode_refs.Given as goal

abbrev pub invariant-loop-word : goal.invariant-loop-word
invariant-loop-word g l = record {
  slots : (i : ℕ) → i < l.word-index → IsSlotWord (2 ^ 32) (slice_index l.words i);
  becomes : (s : State) → AreLeavingRefs l.space s l.decision l.fn.words → (i : ℕ) → i < l.word-index
      → BecomesHome s l.decision (slice_index l.fn.words i) (slice_index l.words i);
  rest : (i : ℕ) → l.word-index ≤ i → slice_index l.words i ≡ slice_index l.fn.words i;
  visits : l.steps ≡ l.fn.steps + l.word-index;
}
