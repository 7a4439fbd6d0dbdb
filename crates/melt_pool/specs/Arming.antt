-- How mutators are made ready for an epoch one by one, and what is taken from them after it.
use Rattle.std.specs.Prelude.{◌≡◌, ℕ, ◌+◌, ◌-◌, ◌^◌, ◌≤◌, List, length, map, sum, slice_get, ◌⊎◌}
use Rattle.std.specs.Prelude.{Option, None, Some}
use Rattle.melt_scion.specs.declared.registers.Registers.{Registers}
use Rattle.melt_epoch.specs.declared.mutator.Mutator.{Mutator}
use Rattle.melt_safepoint.specs.Losses.{open_faults}
use Rattle.melt_safepoint.specs.Run.{HasRisen}
use Rattle.melt_safepoint.specs.declared.thread.ThreadState.{ThreadState}
use Rattle.melt_pool.specs.Workers.{Brings, faults_of}
use Rattle.melt_pool.specs.declared.worker.Worker.{Worker}

-- A mutator got these 16 registers, and a reader of these words, no read of which has failed.
pub record IsLent {R : Type 0} (image : R → Option (List ℕ)) (faults : R → ℕ) (words : Option (List ℕ)) (r : Registers)
    (m n : Mutator (Worker R)) : Type 0 where
  pub reader : R
  pub is : n ≡ record m { registers = r; reader = Some (record { reader = reader; state = None }) }
  pub size : length r.regs ≡ 16
  pub tells : image reader ≡ words
  pub unfailed : faults reader ≡ 0

-- and so each of these, with the registers of its thread
pub record AreLent {R : Type 0} (image : R → Option (List ℕ)) (faults : R → ℕ) (words : Option (List ℕ))
    (registers : List Registers) (ms ns : List (Mutator (Worker R))) : Type 0 where
  pub count : length ns ≡ length ms
  pub each : (t : ℕ) (r : Registers) (m n : Mutator (Worker R)) → slice_get registers t ≡ Some r
      → slice_get ms t ≡ Some m → slice_get ns t ≡ Some n → IsLent image faults words r m n

-- A mutator that has a worker has these operations now.
pub record IsHanded {R : Type 0} (s : ThreadState) (m n : Mutator (Worker R)) : Type 0 where
  pub worker : Worker R
  pub there : m.reader ≡ Some worker
  pub is : n ≡ record m { reader = Some (record worker { state = Some s }) }

-- and so each of these, with those of its thread
pub record AreHanded {R : Type 0} (states : List ThreadState) (ms ns : List (Mutator (Worker R))) : Type 0 where
  pub count : length ns ≡ length ms
  pub each : (t : ℕ) (s : ThreadState) (m n : Mutator (Worker R)) → slice_get states t ≡ Some s
      → slice_get ms t ≡ Some m → slice_get ns t ≡ Some n → IsHanded s m n

-- none takes part in an epoch
abbrev pub NoneSeated : {R : Type 0} → List (Mutator R) → Type 0
NoneSeated {R} ms = (t : ℕ) (m : Mutator R) → slice_get ms t ≡ Some m → m.seat ≡ None

-- each has a worker
abbrev pub AllWork : {R : Type 0} → List (Mutator (Worker R)) → Type 0
AllWork {R} ms = (t : ℕ) (m : Mutator (Worker R)) → slice_get ms t ≡ Some m
    → (worker : Worker R) × (m.reader ≡ Some worker)

-- each brings the operations of its thread
abbrev pub AllBring : {R : Type 0} → List (Mutator (Worker R)) → Type 0
AllBring {R} ms = (t : ℕ) (m : Mutator (Worker R)) → slice_get ms t ≡ Some m → (s : ThreadState) × Brings m s

-- how many reads have failed on the readers of these
abbrev pub faults_in : {R : Type 0} → (R → ℕ) → List (Mutator (Worker R)) → ℕ
faults_in {R} faults ms = sum (map (λ (m : Mutator (Worker R)). open_faults (faults_of faults) m.reader) ms)

-- They are counted, or the count stands at its end.
pub record CountsReaders {R : Type 0} (faults : R → ℕ) (ms : List (Mutator (Worker R))) (before after : ℕ) : Type 0
  where
    pub counted : (faults_in faults ms + before ≤ after) ⊎ (2 ^ 64 - 1 ≤ after)
    pub rises : HasRisen before after
