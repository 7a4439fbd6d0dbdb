use Rattle.std.proofs.Common.{◌≡◌, ◌≢◌, ℕ, ◌+◌, ◌<◌, ◌≤◌}
use Rattle.std.specs.Prelude.{slice_index, slice_get, Some, ◌⊎◌}
use Rattle.melt_scion.specs.State.{State}
use Rattle.melt_copy.specs.declared.forwarding.Relocation.{Relocation}
use Rattle.melt_copy.specs.Tracking.{Grows, Tracks, TracksHeld, goes}
use Rattle.melt_copy.proofs.live.find_held.Given as goal

abbrev pub invariant-loop-address : goal.invariant-loop-address
invariant-loop-address g l = record {
  all : (r : ℕ) → r < l.address-index → slice_index l.registers.regs r ≢ 0
      → goes l.forwarding (slice_index l.registers.regs r) ≢ 0;
  each : (k : ℕ) (m : Relocation) → slice_get l.forwarding.moves.items k ≡ Some m
      → (slice_get l.fn.forwarding.moves.items k ≡ Some m) ⊎ ((r : ℕ) × (slice_index l.registers.regs r ≡ m.from));
  grows : Grows l.fn.forwarding l.forwarding;
  tracks : (s : State) → TracksHeld l.space s l.fn.forwarding (slice_index l.registers.regs)
      → Tracks l.space s l.forwarding;
  visits : l.steps ≤ l.fn.steps + l.address-index;
}
