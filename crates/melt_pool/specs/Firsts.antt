-- What the call comes to that is made first in an epoch, before any other thread runs.
use Rattle.std.specs.Prelude.{◌≡◌, ◌≢◌, ◌⊎◌, ℕ, ◌<◌, true, List, length, Option, None, Some, Result, Ok, Err, slice_get}
use Rattle.melt_model.specs.declared.operations.Op.{Op}
use Rattle.melt_model.specs.declared.operations.Op.TheVariants.{Collect}
use Rattle.melt_model.specs.declared.operations.Reply.{Reply}
use Rattle.melt_trace.specs.Script.{Script}
use Rattle.melt_core.specs.declared.answer.Pause.TheVariants as pause
use Rattle.melt_core.specs.declared.answer.Refusal.{Refusal}
use Rattle.melt_core.specs.declared.answer.Refusal.TheVariants as refusal
use Rattle.melt_rule.specs.Seats.{EpochWords}
use Rattle.melt_rule.specs.Tells.{Sees}
use Rattle.melt_epoch.specs.Ends.{view_of}
use Rattle.melt_epoch.specs.Loading.{KeepsCount}
use Rattle.melt_epoch.specs.Mutators.{IsSeated}
use Rattle.melt_epoch.specs.declared.mutator.Mutator.{Mutator}
use Rattle.melt_safepoint.specs.Modes.{IsPaused}
use Rattle.melt_safepoint.specs.Threads.{jobs_of}
use Rattle.melt_safepoint.specs.declared.thread.Mode.TheVariants as mode
use Rattle.melt_safepoint.specs.declared.thread.ThreadState.{ThreadState}
use Rattle.melt_pool.specs.Calling.{NeedsIn, SameCauses, WasForwarded, WasSpaced}
use Rattle.melt_pool.specs.Programs.{ThreadWentOn, HasEndedWell, Works, made_again}
use Rattle.melt_pool.specs.Workers.{Brings, HasRun, faults_of}
use Rattle.melt_pool.specs.declared.first.First.{First}
use Rattle.melt_pool.specs.declared.first.First.TheVariants.{Went, Lacked, Stopped}
use Rattle.melt_pool.specs.declared.worker.Worker.{Worker}

-- The thread of a mutator lacks room.
pub record ThreadLacksRoom {R : Type 0} (m : Mutator (Worker R)) : Type 0 where
  pub state : ThreadState
  pub brings : Brings m state
  pub lacks : state.mode ≡ mode.Lacking

-- and so that of the one at this place
abbrev pub LacksAt : {R : Type 0} → List (Mutator (Worker R)) → ℕ → Type 0
LacksAt {R} ms t = (m : Mutator (Worker R)) × (slice_get ms t ≡ Some m) × ThreadLacksRoom m

-- Its next operation is a call.
pub record MayCall {R : Type 0} (m : Mutator (Worker R)) : Type 0 where
  pub state : ThreadState
  pub brings : Brings m state
  pub lacks : state.mode ≡ mode.Lacking
  pub calls : state.op ≢ Some Collect

abbrev pub MayCallAt : {R : Type 0} → List (Mutator (Worker R)) → ℕ → Type 0
MayCallAt {R} ms t = (m : Mutator (Worker R)) × (slice_get ms t ≡ Some m) × MayCall m

-- whether all go on after the answer, or why they do not
abbrev pub first_for : Result Reply Refusal → First
first_for (Ok reply) = Went
first_for (Err (refusal.Pause pause.Asked)) = Stopped
first_for (Err (refusal.Pause (pause.Space need))) = Lacked need
first_for (Err (refusal.Pause pause.Forward)) = Stopped
first_for (Err refusal.DiskFault) = Went
first_for (Err (refusal.Damaged damaged)) = Went

-- The call was answered, or its thread has ended. The thread has less to do, and does not wait.
pub record HasGone {R : Type 0} (faults : R → ℕ) (finish every : ℕ) (script : Script) (words : EpochWords)
    (m n : Mutator R) (s after : ThreadState) : Type 0 where
  pub works : Works script words n after
  pub ends : HasEndedWell faults words.start.began.told finish script n after
  pub goes : ThreadWentOn every script m n s after
  pub less : jobs_of after < jobs_of s
  pub goes_on : IsPaused after.mode → ⊥

-- The call claimed so many words, which end past the last one. Its mutator is as it was, but for the seat and the
-- reader.
pub record HasLackedIn {R : Type 0} (faults : R → ℕ) (words : EpochWords) (m n : Mutator R) (need : ℕ) : Type 0 where
  pub seated : IsSeated words n
  pub same : n ≡ record m { seat = n.seat; reader = n.reader }
  pub count : KeepsCount faults m n
  pub sees : Sees (view_of m) (view_of n).seen
  pub spaced : WasSpaced (view_of m) (view_of n) need

-- The call found the stop word set, or no empty forwarding word.
pub record WasStopped {R : Type 0} (words : EpochWords) (m n : Mutator R) : Type 0 where
  pub seated : IsSeated words n
  pub why : (SameCauses (view_of m) (view_of n) × ((view_of n).stopped ≡ true))
      ⊎ WasForwarded (view_of m) (view_of n)

-- what the call of a thread comes to that has not ended, and what is left of the thread
abbrev pub CameTo : {R : Type 0} → (R → ℕ) → (finish every : ℕ) → EpochWords → (m n : Mutator R)
    → (s after : ThreadState) → First → Type 0
CameTo faults finish every words m n s after Went =
    (script : Script) → Works script words m (made_again s) → HasGone faults finish every script words m n s after
CameTo faults finish every words m n s after (Lacked need) =
    (after ≡ s) × HasLackedIn faults words m n need
    × ((o : Op) → s.op ≡ Some o → NeedsIn (view_of m) (view_of n) m.values o need)
CameTo faults finish every words m n s after Stopped = WasStopped words m n

-- The same of a thread that its mutator brought along: it went on,
pub record WentFirst {R : Type 0} (faults : R → ℕ) (finish every : ℕ) (script : Script) (words : EpochWords)
    (s : ThreadState) (m n : Mutator (Worker R)) : Type 0 where
  pub after : ThreadState
  pub brings : Brings n after
  pub gone : HasGone (faults_of faults) finish every script words m n s after

-- or lacked so many words, for its operation.
pub record LackedFirst {R : Type 0} (faults : R → ℕ) (words : EpochWords) (m n : Mutator (Worker R)) (need : ℕ)
    : Type 0 where
  pub lacked : HasLackedIn (faults_of faults) words m n need
  pub brings : (s : ThreadState) → Brings m s → Brings n s
  pub needs : (s : ThreadState) (o : Op) → Brings m s → s.op ≡ Some o
      → NeedsIn (view_of m) (view_of n) m.values o need

abbrev pub CameFirst : {R : Type 0} → (R → ℕ) → (finish every : ℕ) → EpochWords → (m n : Mutator (Worker R)) → First
    → Type 0
CameFirst faults finish every words m n Went =
    (script : Script) (s : ThreadState) → Brings m s → Works script words m (made_again s)
    → WentFirst faults finish every script words s m n
CameFirst faults finish every words m n (Lacked need) = LackedFirst faults words m n need
CameFirst faults finish every words m n Stopped = WasStopped words m n

-- The mutator at this place alone was changed, so.
pub record ChangedAt {R : Type 0} (t : ℕ) (ms ns : List (Mutator R)) (Is : Mutator R → Mutator R → Type 0) : Type 0
  where
    pub before : Mutator R
    pub after : Mutator R
    pub was : slice_get ms t ≡ Some before
    pub now : slice_get ns t ≡ Some after
    pub count : length ns ≡ length ms
    pub others : (k : ℕ) → k ≢ t → slice_get ns k ≡ slice_get ms k
    pub is : Is before after

-- A thread ran in an epoch until it waits or has ended. The one whose call was made first has less to do.
pub record RunsFrom {R : Type 0} (faults : R → ℕ) (finish every : ℕ) (first : Option ℕ) (k : ℕ) (words : EpochWords)
    (m n : Mutator (Worker R)) : Type 0 where
  pub thread : n.thread ≡ m.thread
  pub has_run : (script : Script) (s : ThreadState) → Brings m s → Works script words m (made_again s)
      → (run : HasRun faults finish every script words s m n) × (first ≡ Some k → jobs_of run.after < jobs_of s)

-- and so each
pub record AllRunFrom {R : Type 0} (faults : R → ℕ) (finish every : ℕ) (first : Option ℕ) (words : EpochWords)
    (ms ns : List (Mutator (Worker R))) : Type 0 where
  pub count : length ns ≡ length ms
  pub each : (k : ℕ) (m n : Mutator (Worker R)) → slice_get ms k ≡ Some m → slice_get ns k ≡ Some n
      → RunsFrom faults finish every first k words m n

-- how the threads of an epoch have run: all, after the call that was made first, or that call alone
abbrev pub AllCame : {R : Type 0} → (R → ℕ) → (finish every : ℕ) → Option ℕ → EpochWords
    → (ms ns : List (Mutator (Worker R))) → First → Type 0
AllCame faults finish every first words ms ns Went = AllRunFrom faults finish every first words ms ns
AllCame faults finish every None words ms ns (Lacked need) = ⊥
AllCame {R} faults finish every (Some t) words ms ns (Lacked need) =
    ChangedAt t ms ns (λ (m n : Mutator (Worker R)). LackedFirst faults words m n need)
AllCame faults finish every None words ms ns Stopped = ⊥
AllCame {R} faults finish every (Some t) words ms ns Stopped =
    ChangedAt t ms ns (λ (m n : Mutator (Worker R)). WasStopped words m n)
