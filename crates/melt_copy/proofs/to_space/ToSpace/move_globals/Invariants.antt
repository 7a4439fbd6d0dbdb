use Rattle.std.proofs.Common.{◌+◌, ◌≤◌}
use Rattle.melt_copy.proofs.Gathered.{GlobalsSoFar}
use Rattle.melt_copy.proofs.to_space.ToSpace.move_globals.Given as goal

abbrev pub invariant-loop-word : goal.invariant-loop-word
invariant-loop-word g l = record {
  so_far : GlobalsSoFar l.phase l.fn.space l.space l.fn.self l.self l.fn.globals l.globals l.word-index;
  visits : l.steps + l.fn.self.next ≤ l.fn.steps + l.self.next + l.word-index;
}
