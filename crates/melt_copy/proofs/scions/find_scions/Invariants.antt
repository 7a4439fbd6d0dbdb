use Rattle.std.proofs.Common.{◌+◌, ◌≤◌}
use Rattle.melt_scion.specs.State.{State}
use Rattle.melt_copy.specs.Tracking.{Grows, Tracks, TracksScions}
use Rattle.melt_copy.proofs.Walking.{FindsFirst}
use Rattle.melt_copy.proofs.scions.find_scions.Given as goal

abbrev pub invariant-loop-scion : goal.invariant-loop-scion
invariant-loop-scion g l = record {
  finds : FindsFirst l.forwarding l.scions l.live l.scion-index;
  grows : Grows l.fn.forwarding l.forwarding;
  tracks : (s : State) → TracksScions l.space s l.fn.forwarding l.scions → Tracks l.space s l.forwarding;
  visits : l.steps ≤ l.fn.steps + l.scion-index;
}
