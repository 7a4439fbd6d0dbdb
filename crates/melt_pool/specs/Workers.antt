-- What the mutators of a run bring into an epoch, and what they bring back.
use Rattle.std.specs.Prelude.{◌≡◌, ℕ, List, length, Option, Some}
use Rattle.melt_trace.specs.Script.{Script}
use Rattle.melt_rule.specs.Seats.{EpochWords}
use Rattle.melt_epoch.specs.declared.mutator.Mutator.{Mutator}
use Rattle.melt_safepoint.specs.Modes.{IsEnded, MayGo}
use Rattle.melt_safepoint.specs.declared.thread.ThreadState.{ThreadState}
use Rattle.melt_pool.specs.Programs.{EndsWell, ThreadWentOn, WaitsByCause, Works, made_again}
use Rattle.melt_pool.specs.declared.worker.Worker.{Worker}

-- the image that a worker's reader tells, and its count of faults
abbrev pub image_of : {R : Type 0} → (R → Option (List ℕ)) → Worker R → Option (List ℕ)
image_of image worker = image worker.reader

abbrev pub faults_of : {R : Type 0} → (R → ℕ) → Worker R → ℕ
faults_of faults worker = faults worker.reader

-- The mutator has a worker with the operations and replies of its thread.
pub record Brings {R : Type 0} (m : Mutator (Worker R)) (s : ThreadState) : Type 0 where
  pub worker : Worker R
  pub there : m.reader ≡ Some worker
  pub state : worker.state ≡ Some s

-- and the thread may go on from there in an epoch
pub record MayRun {R : Type 0} (script : Script) (words : EpochWords) (m : Mutator (Worker R)) : Type 0 where
  pub state : ThreadState
  pub brings : Brings m state
  pub works : Works script words m (made_again state)

-- A thread ran in an epoch until it waits or has ended. One that had ended before is as it was. A silent collection
-- came due after each reply that brings one. If it waits, it has a cause to stop, or waited for a collection before.
pub record HasRun {R : Type 0} (faults : R → ℕ) (finish every : ℕ) (script : Script) (words : EpochWords)
    (s : ThreadState) (m n : Mutator (Worker R)) : Type 0 where
  pub after : ThreadState
  pub brings : Brings n after
  pub works : Works script words n after
  pub waits : MayGo after.mode → ⊥
  pub ended : IsEnded s.mode → after ≡ s
  pub kept : IsEnded s.mode → n ≡ m
  pub ends : (IsEnded s.mode → ⊥) → EndsWell words.start.began.told finish script n.thread (length after.replies.items)
      (faults brings.worker.reader) after.mode
  pub goes : ThreadWentOn every script m n s after
  pub caused : WaitsByCause s.mode after.mode n

-- so for each script and state with which it was brought along; and the mutator is that of its thread still
pub record Runs {R : Type 0} (faults : R → ℕ) (finish every : ℕ) (words : EpochWords) (m n : Mutator (Worker R))
    : Type 0 where
  pub thread : n.thread ≡ m.thread
  pub has_run : (script : Script) (s : ThreadState) → Brings m s → Works script words m (made_again s)
      → HasRun faults finish every script words s m n
