use Rattle.std.proofs.Common.{◌+◌, ◌≤◌, slice_index}
use Rattle.melt_copy.proofs.Gathered.{ThreadSoFar}
use Rattle.melt_copy.proofs.to_space.ToSpace.evacuate_thread.Given as goal

abbrev pub invariant-loop-address : goal.invariant-loop-address
invariant-loop-address g l = record {
  so_far :
      ThreadSoFar l.fn.space l.space l.fn.self l.self (slice_index l.fn.registers.regs) l.address-items
      l.address-index;
  visits : l.steps + l.fn.self.next ≤ l.fn.steps + l.self.next + l.address-index;
}
