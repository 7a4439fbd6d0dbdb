-- No thread before this one can go on.
use Rattle.std.proofs.Common.{◌≡◌, ◌<◌, ◌≤◌, ℕ, slice_get, Some}
use Rattle.melt_safepoint.specs.declared.thread.ThreadState.{ThreadState}
use Rattle.melt_safepoint.specs.Modes.{MayGo}
use Rattle.melt_step.proofs.turns.first_from.Given as goal

abbrev pub invariant-loop-t : goal.invariant-loop-t
invariant-loop-t l = (k : ℕ) (s : ThreadState) → l.start ≤ k → k < l.t → slice_get l.states k ≡ Some s → MayGo s.mode
    → ⊥
