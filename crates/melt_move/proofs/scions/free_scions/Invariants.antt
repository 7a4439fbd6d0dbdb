use Rattle.std.proofs.Common.{◌≡◌, ◌+◌}
use Rattle.melt_space.specs.Space.{word_at}
use Rattle.melt_move.proofs.Freeing.{FreesFirst}
use Rattle.melt_move.proofs.scions.free_scions.Given as goal

abbrev pub invariant-loop-d : goal.invariant-loop-d
invariant-loop-d g l = record {
  frees : FreesFirst (word_at l.space) l.decision.choice.leaving.items l.d-index l.fn.scions l.scions;
  visits : l.steps ≡ l.fn.steps + l.d-index;
}
