use Rattle.std.proofs.Common.{ℕ, ◌+◌, ◌<◌, ◌≤◌, length}
use Rattle.std.specs.Prelude.{slice_index}
use Rattle.std.specs.Vec.{vec_capacity}
use Rattle.melt_scion.specs.State.{State}
use Rattle.melt_copy.specs.Tracking.{Extends}
use Rattle.melt_move.specs.Staying.{AreSources, StaysAs}
use Rattle.melt_move.proofs.staying.append_words.Given as goal

abbrev pub invariant-loop-word : goal.invariant-loop-word
invariant-loop-word g l = record {
  extends : Extends l.fn.out.items l.out.items l.word-index;
  capacity : vec_capacity l.fn.out ≤ vec_capacity l.out;
  stay : (s : State) → AreSources l.space s l.decision l.words → (i : ℕ) → i < l.word-index
      → StaysAs s l.decision (slice_index l.words i) (slice_index l.out.items (length l.fn.out.items + i));
  visits : l.steps ≤ l.fn.steps + l.word-index;
}
