-- How many threads could not read the disk, as faults are counted.
use Rattle.std.specs.Prelude.{ℕ, ◌+◌, ◌-◌, ◌^◌, ◌≤◌, List, map, sum, Option, None, Some, ◌⊎◌}
use Rattle.melt_safepoint.specs.declared.thread.ThreadState.{ThreadState}
use Rattle.melt_safepoint.specs.Run.{HasRisen}
use Rattle.melt_safepoint.specs.Modes.{lost}

-- how many threads have ended as they could not read the disk
abbrev pub losses : List ThreadState → ℕ
losses states = sum (map (λ (s : ThreadState). lost s.mode) states)

-- A thread that was lost in this event was counted: so many faults a reader had before and after.
pub record CountsLoss (s after : ThreadState) (faults faults_after : ℕ) : Type 0 where
  pub counted : (lost after.mode + faults ≤ lost s.mode + faults_after) ⊎ (2 ^ 64 - 1 ≤ faults_after)
  pub rises : faults ≤ faults_after

-- and so all threads that were lost meanwhile
pub record CountsLosses (states after : List ThreadState) (faults faults_after : ℕ) : Type 0 where
  pub counted : (losses after + faults ≤ losses states + faults_after) ⊎ (2 ^ 64 - 1 ≤ faults_after)
  pub rises : HasRisen faults faults_after

-- the faults of a reader that is lent still, if one is
abbrev pub open_faults : {Reader : Type 0} → (Reader → ℕ) → Option Reader → ℕ
open_faults faults None = 0
open_faults faults (Some reader) = faults reader
