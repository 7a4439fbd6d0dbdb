use Rattle.std.proofs.Common.{◌+◌, ◌*◌, ◌≤◌}
use Rattle.melt_copy.proofs.Gathered.{ThreadsSoFar}
use Rattle.melt_copy.proofs.to_space.ToSpace.evacuate_held.Given as goal

abbrev pub invariant-loop-registers : goal.invariant-loop-registers
invariant-loop-registers g l = record {
  so_far : ThreadsSoFar l.fn.space l.space l.fn.self l.self l.fn.held l.held l.registers-index;
  visits : l.steps + l.fn.self.next
      ≤ l.fn.steps + l.self.next + 17 * l.registers-index;
}
