use Rattle.std.proofs.Common.{◌+◌, ◌≤◌, take}
use Rattle.melt_scion.specs.State.{State}
use Rattle.melt_move.specs.Plans.{IsSeen, AreDepartures}
use Rattle.melt_move.specs.Visits.{leaving_words}
use Rattle.melt_move.proofs.Marking.{HasMarked}
use Rattle.melt_move.proofs.homes.mark_named.Given as goal

abbrev pub invariant-loop-d : goal.invariant-loop-d
invariant-loop-d g l = record {
  marks : (s : State) → IsSeen l.space s → AreDepartures s l.leaving → HasMarked s l.leaving l.d-index l.marks.items;
  visits : l.steps ≤ l.fn.steps + leaving_words (take l.d-index l.leaving);
}
