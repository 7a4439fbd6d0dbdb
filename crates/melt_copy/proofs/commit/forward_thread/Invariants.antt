use Rattle.std.proofs.Common.{◌≡◌, ℕ, ◌+◌, ◌<◌, ◌≤◌, slice_index}
use Rattle.melt_copy.specs.Tracking.{goes}
use Rattle.melt_copy.proofs.commit.forward_thread.Given as goal

abbrev pub invariant-loop-address : goal.invariant-loop-address
invariant-loop-address g l = record {
  done : (r : ℕ) → r < l.address-index
      → slice_index l.address-items r ≡ goes l.forwarding (slice_index l.fn.registers.regs r);
  rest : (r : ℕ) → l.address-index ≤ r → slice_index l.address-items r ≡ slice_index l.fn.registers.regs r;
  visits : l.steps ≡ l.fn.steps + l.address-index;
}
