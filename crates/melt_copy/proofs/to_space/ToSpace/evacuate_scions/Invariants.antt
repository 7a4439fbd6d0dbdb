use Rattle.std.proofs.Common.{◌+◌, ◌≤◌}
use Rattle.melt_copy.proofs.Gathered.{ScionsSoFar}
use Rattle.melt_copy.proofs.to_space.ToSpace.evacuate_scions.Given as goal

abbrev pub invariant-loop-scion : goal.invariant-loop-scion
invariant-loop-scion g l = record {
  so_far : ScionsSoFar l.fn.space l.space l.fn.self l.self l.fn.scions l.scions l.live l.scion-index;
  visits : l.steps + l.fn.self.next ≤ l.fn.steps + l.self.next + l.scion-index;
}
