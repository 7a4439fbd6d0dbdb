-- The threads before this one have ended.
use Rattle.std.proofs.Common.{◌≡◌, ℕ, ◌<◌, slice_get, Some}
use Rattle.melt_safepoint.specs.declared.thread.ThreadState.{ThreadState}
use Rattle.melt_safepoint.specs.Modes.{IsEnded}
use Rattle.melt_safepoint.proofs.run.Run.has_ended.Given as goal

abbrev pub invariant-loop-state : goal.invariant-loop-state
invariant-loop-state g l = (t : ℕ) (s : ThreadState) → t < l.state-index → slice_get l.state-items t ≡ Some s
    → IsEnded s.mode
