-- No thread before this one waits for room.
use Rattle.std.proofs.Common.{◌≡◌, ◌<◌, ℕ, slice_get, Some}
use Rattle.melt_safepoint.specs.declared.thread.Mode.TheVariants.{Lacking}
use Rattle.melt_safepoint.specs.declared.thread.ThreadState.{ThreadState}
use Rattle.melt_safepoint.proofs.run.Run.lacking.Given as goal

abbrev pub invariant-loop-t : goal.invariant-loop-t
invariant-loop-t g l = (k : ℕ) (s : ThreadState) → k < l.t → slice_get l.self.states.items k ≡ Some s → s.mode ≡ Lacking
    → ⊥
