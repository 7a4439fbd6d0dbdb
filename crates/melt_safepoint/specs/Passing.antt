-- What a safepoint does to the threads.
use Rattle.std.specs.Prelude.{◌≡◌, ℕ, suc, ◌<◌, ◌≤◌, true, List, length, slice_get, slice_set, Some}
use Rattle.melt_model.specs.declared.operations.Op.TheVariants.{Collect}
use Rattle.melt_safepoint.specs.declared.thread.Mode.TheVariants.{Lacking}
use Rattle.melt_safepoint.specs.declared.thread.ThreadState.{ThreadState}
use Rattle.melt_safepoint.specs.Modes.{ForCollection, IsPaused, owes_silent, Waits}
use Rattle.melt_safepoint.specs.Threads.{jobs_of, NoneWaits}

-- The collection of a thread was made, if it waited for one, and it waits no longer. A silent collection is due then
-- only after the `collect` that was answered.
pub record CollectedFor (s after : ThreadState) : Type 0 where
  pub fewer : ForCollection s.mode → jobs_of after < jobs_of s
  pub goes : ForCollection s.mode → IsPaused after.mode → ⊥
  pub owes : ForCollection s.mode → owes_silent after.mode ≡ true → (s.op ≡ Some Collect)
      × (length after.replies.items ≡ suc (length s.replies.items))
  pub same : (ForCollection s.mode → ⊥) → after ≡ s

-- at most this thread changed, for whose collection it was
abbrev pub CollectedAt : List ThreadState → List ThreadState → ℕ → Type 0
CollectedAt states after t = (s : ThreadState) → slice_get states t ≡ Some s
    → (x : ThreadState) × (after ≡ slice_set states t x) × CollectedFor s x

-- and so all threads
pub record CollectedAll (states after : List ThreadState) : Type 0 where
  pub count : length after ≡ length states
  pub each : (t : ℕ) (s : ThreadState) → slice_get states t ≡ Some s → (x : ThreadState) × (slice_get after t ≡ Some x)
      × CollectedFor s x

-- the thread waits for room
abbrev pub WaitsForRoom : List ThreadState → ℕ → Type 0
WaitsForRoom states t = (s : ThreadState) × (slice_get states t ≡ Some s) × (s.mode ≡ Lacking)

-- only this thread changed, has less to do, and does not wait
abbrev pub CalledAt : List ThreadState → List ThreadState → ℕ → Type 0
CalledAt states after t = (s : ThreadState) → slice_get states t ≡ Some s
    → (x : ThreadState) × (after ≡ slice_set states t x) × (jobs_of x < jobs_of s) × (IsPaused x.mode → ⊥)

-- The state of the thread that waits for room.
pub record IsLacking (states : List ThreadState) (t : ℕ) (s : ThreadState) : Type 0 where
  pub at : slice_get states t ≡ Some s
  pub lacking : s.mode ≡ Lacking

-- no thread waits for room
abbrev pub NoneLacks : List ThreadState → Type 0
NoneLacks states = (t : ℕ) (s : ThreadState) → slice_get states t ≡ Some s → s.mode ≡ Lacking → ⊥

-- each thread has as much to do as before, and none waits
pub record Resumed (states after : List ThreadState) : Type 0 where
  pub goes : NoneWaits after
  pub count : length after ≡ length states
  pub each : (t : ℕ) (s : ThreadState) → slice_get states t ≡ Some s → (x : ThreadState) × (slice_get after t ≡ Some x)
      × (jobs_of x ≡ jobs_of s)

-- A safepoint: no thread waits after it, none has more to do than before, and one has less.
pub record Passed (states after : List ThreadState) : Type 0 where
  pub goes : NoneWaits after
  pub count : length after ≡ length states
  pub each : (t : ℕ) (s : ThreadState) → slice_get states t ≡ Some s → (x : ThreadState) × (slice_get after t ≡ Some x)
      × (jobs_of x ≤ jobs_of s)
  pub one : (t : ℕ) × ((s : ThreadState)
      × ((x : ThreadState) × (slice_get states t ≡ Some s) × (slice_get after t ≡ Some x) × (jobs_of x < jobs_of s)))

-- no thread waits for a collection of its own
abbrev pub NoneOwn : List ThreadState → Type 0
NoneOwn states = (t : ℕ) (s : ThreadState) → slice_get states t ≡ Some s → ForCollection s.mode → ⊥

-- some thread waits for a collection, or for room
abbrev pub OneWaits : List ThreadState → Type 0
OneWaits states = (t : ℕ) × ((s : ThreadState) × (slice_get states t ≡ Some s) × Waits s.mode)
