use Rattle.std.proofs.Common.{◌≡◌, ◌≢◌, ℕ, ◌+◌, ◌*◌, ◌<◌, ◌≤◌}
use Rattle.std.specs.Prelude.{slice_get, Some, ◌⊎◌}
use Rattle.melt_scion.specs.State.{State}
use Rattle.melt_scion.specs.Heaps.{register_in}
use Rattle.melt_copy.specs.declared.forwarding.Relocation.{Relocation}
use Rattle.melt_copy.specs.Tracking.{Grows, Tracks, TracksThreads, goes}
use Rattle.melt_copy.proofs.live.find_all_held.Given as goal

abbrev pub invariant-loop-registers : goal.invariant-loop-registers
invariant-loop-registers g l = record {
  all : (t r : ℕ) → t < l.registers-index → register_in l.held t r ≢ 0 → goes l.forwarding (register_in l.held t r) ≢ 0;
  each : (k : ℕ) (m : Relocation) → slice_get l.forwarding.moves.items k ≡ Some m
      → (slice_get l.fn.forwarding.moves.items k ≡ Some m) ⊎ ((t : ℕ) × (r : ℕ) × (register_in l.held t r ≡ m.from));
  grows : Grows l.fn.forwarding l.forwarding;
  tracks : (s : State) → TracksThreads l.space s l.fn.forwarding l.held → Tracks l.space s l.forwarding;
  visits : l.steps ≤ l.fn.steps + 17 * l.registers-index;
}
