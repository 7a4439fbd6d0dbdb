use Rattle.std.proofs.Common.{◌+◌, ◌≤◌}
use Rattle.melt_scion.specs.State.{State}
use Rattle.melt_copy.specs.Reaching.{IsLiveSet}
use Rattle.melt_move.specs.Plans.{IsSeen}
use Rattle.melt_move.proofs.Choosing.{HasChosen}
use Rattle.melt_move.proofs.choice.choose.Given as goal

abbrev pub invariant-loop-k : goal.invariant-loop-k
invariant-loop-k g l = record {
  chosen : (s : State) → IsSeen l.space s → IsLiveSet s l.live
      → HasChosen l.space s l.live l.stay l.leaving.items l.k;
  visits : l.steps ≤ l.fn.steps + l.k;
}
