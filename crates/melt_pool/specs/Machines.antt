-- The machine of a run of real threads, on its way into an epoch and out of it.
use Rattle.std.specs.Prelude.{◌≡◌, ℕ, Bool, List, length, slice_get, Option, None, Some}
use Rattle.melt_model.specs.declared.history.Entry.{Entry}
use Rattle.melt_scion.specs.declared.heap.Heap.{Heap}
use Rattle.melt_scion.specs.declared.registers.Registers.{Registers}
use Rattle.melt_core.specs.Views.{View, values_of}
use Rattle.melt_epoch.specs.declared.mutator.Mutator.{Mutator}
use Rattle.melt_safepoint.specs.Epochs.{EndsEpoch, SomeMayRun}
use Rattle.melt_safepoint.specs.Rows.{Row}
use Rattle.melt_safepoint.specs.Shown.{Shown}
use Rattle.melt_safepoint.specs.declared.collector.Collector.{Collector}
use Rattle.melt_safepoint.specs.declared.thread.ThreadState.{ThreadState}
use Rattle.melt_pool.specs.Arming.{AreLent}
use Rattle.melt_pool.specs.Parts.{AreAway, parts_view}
use Rattle.melt_pool.specs.Workers.{Brings}
use Rattle.melt_pool.specs.declared.machine.Parallel.{Parallel}
use Rattle.melt_pool.specs.declared.worker.Worker.{Worker}

-- what the machine shows
abbrev pub parallel_view : {R : Type 0} → Parallel R → View
parallel_view p = parts_view p.heap p.pass p.registers.items

-- the run of a machine by its parts
abbrev pub machine_row : Heap → List Entry → List Registers → List ThreadState → Collector → (words every : ℕ) → Bool
    → Row
machine_row heap h registers states collector words every told = record {
  view = parts_view heap h registers;
  states = states;
  collector = collector;
  words = words;
  every = every;
  told = told;
}

-- in a run with some collector and some room it may go through an epoch
abbrev pub SomeMachineMayRun : Shown → Option ℕ → Heap → List Entry → List Registers → List ThreadState → (every : ℕ)
    → Bool → Type 0
SomeMachineMayRun shown first heap h registers states every told =
    (collector : Collector) × (room : ℕ)
    × SomeMayRun shown first (machine_row heap h registers states collector room every told)

-- and so it has ended, in each run in which it might begin
abbrev pub MachineEnds : Shown → Option ℕ → (every : ℕ) → (old new : Heap) → (h k : List Entry)
    → (registers after : List Registers) → (states later : List ThreadState) → (told told_after : Bool) → Option ℕ
    → Type 0
MachineEnds shown first every old new h k registers after states later told told_after lacks =
    (collector : Collector) (room : ℕ)
    → SomeMayRun shown first (machine_row old h registers states collector room every told)
    → EndsEpoch shown first (machine_row old h registers states collector room every told)
    (machine_row new k after later collector room every told_after) lacks

-- Mutators that were away were lent readers of these words, and have the registers of their threads.
pub record AreReady {R : Type 0} (image : R → Option (List ℕ)) (faults : R → ℕ) (words : Option (List ℕ)) (v : View)
    (registers : List Registers) (ms : List (Mutator (Worker R))) : Type 0 where
  pub before : List (Mutator (Worker R))
  pub away : AreAway v registers before
  pub lent : AreLent image faults words registers before ms

-- A mutator is armed for an epoch: it holds the registers of its thread and has its operations, and a reader of these
-- words, no read of which has failed.
pub record IsArmed {R : Type 0} (image : R → Option (List ℕ)) (faults : R → ℕ) (words : Option (List ℕ)) (v : View)
    (t : ℕ) (s : ThreadState) (registers : Registers) (m : Mutator (Worker R)) : Type 0 where
  pub thread : m.thread ≡ t
  pub no_seat : m.seat ≡ None
  pub size : length m.values ≡ 16
  pub values : m.values ≡ values_of v t
  pub holds : m.registers ≡ registers
  pub brings : Brings m s
  pub tells : image brings.worker.reader ≡ words
  pub unfailed : faults brings.worker.reader ≡ 0

-- and so all of them
pub record AreArmed {R : Type 0} (image : R → Option (List ℕ)) (faults : R → ℕ) (words : Option (List ℕ)) (v : View)
    (states : List ThreadState) (registers : List Registers) (ms : List (Mutator (Worker R))) : Type 0 where
  pub count : length ms ≡ length states
  pub as_many : length registers ≡ length states
  pub each : (t : ℕ) (s : ThreadState) (r : Registers) (m : Mutator (Worker R)) → slice_get states t ≡ Some s
      → slice_get registers t ≡ Some r → slice_get ms t ≡ Some m → IsArmed image faults words v t s r m

-- What a mutator brought back was taken from it: its operations and its 16 registers.
pub record IsDisarmed {R : Type 0} (n : Mutator (Worker R)) (s : ThreadState) (r : Registers) (m : Mutator (Worker R))
    : Type 0 where
  pub brings : Brings n s
  pub registers : r ≡ n.registers
  pub size : length r.regs ≡ 16
  pub left : m ≡ record n { reader = None }

pub record AreDisarmed {R : Type 0} (ns : List (Mutator (Worker R))) (states : List ThreadState)
    (registers : List Registers) (ms : List (Mutator (Worker R))) : Type 0 where
  pub count : length ms ≡ length ns
  pub as_many : length states ≡ length ns
  pub too : length registers ≡ length ns
  pub each : (t : ℕ) (n : Mutator (Worker R)) (s : ThreadState) (r : Registers) (m : Mutator (Worker R))
      → slice_get ns t ≡ Some n → slice_get states t ≡ Some s → slice_get registers t ≡ Some r
      → slice_get ms t ≡ Some m → IsDisarmed n s r m
