use Rattle.std.proofs.Common.{◌≢◌, ℕ, ◌+◌, ◌<◌, ◌≤◌}
use Rattle.std.specs.Prelude.{slice_index}
use Rattle.melt_scion.specs.State.{State, RefersTo}
use Rattle.melt_copy.specs.Tracking.{Grows, Tracks, TracksIn, goes}
use Rattle.melt_copy.proofs.live.find_words.Given as goal

abbrev pub invariant-loop-word : goal.invariant-loop-word
invariant-loop-word g l = record {
  finds : (i address : ℕ) → i < l.word-index → RefersTo (slice_index l.words i) address
      → goes l.forwarding address ≢ 0;
  grows : Grows l.fn.forwarding l.forwarding;
  tracks : (s : State) → TracksIn l.space s l.fn.forwarding l.words → Tracks l.space s l.forwarding;
  visits : l.steps ≤ l.fn.steps + l.word-index;
}
