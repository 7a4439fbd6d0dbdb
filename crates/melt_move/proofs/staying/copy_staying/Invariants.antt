use Rattle.std.proofs.Common.{◌+◌, ◌*◌, ◌≤◌, take}
use Rattle.std.specs.Vec.{vec_capacity}
use Rattle.melt_scion.specs.State.{State}
use Rattle.melt_copy.specs.Moving.{words_in}
use Rattle.melt_move.specs.Plans.{IsDecision}
use Rattle.melt_move.proofs.KeptObjects.{StandSoFar}
use Rattle.melt_move.proofs.staying.copy_staying.Given as goal

abbrev pub invariant-loop-k : goal.invariant-loop-k
invariant-loop-k g l = record {
  stand : (s : State) → IsDecision l.space s l.decision → StandSoFar s l.decision l.out.items l.k;
  capacity : vec_capacity l.fn.out ≤ vec_capacity l.out;
  visits : l.steps ≤ l.fn.steps + 2 * words_in (take l.k l.decision.choice.stay.moves.items);
}
