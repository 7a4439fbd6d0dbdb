-- How an epoch of a machine of real threads has ended, as a run sees it.
use Rattle.std.proofs.Common.{◌≡◌, ℕ, ◌≤◌, List, length}
use Rattle.std.specs.Prelude.{Bool, None, Option, Some, slice_get}
use Rattle.melt_model.specs.declared.history.Entry.{Entry}
use Rattle.melt_scion.specs.declared.heap.Heap.{Heap}
use Rattle.melt_scion.specs.declared.registers.Registers.{Registers}
use Rattle.melt_epoch.specs.declared.mutator.Mutator.{Mutator}
use Rattle.melt_safepoint.specs.Epochs.{EndsEpoch, SomeMayRun}
use Rattle.melt_safepoint.specs.Shown.{Shown}
use Rattle.melt_safepoint.specs.declared.collector.Collector.{Collector}
use Rattle.melt_safepoint.specs.declared.thread.ThreadState.{ThreadState}
use Rattle.melt_pool.specs.Beginning.{start_of}
use Rattle.melt_pool.specs.Epochs.{Ended}
use Rattle.melt_pool.specs.Machines.{AreArmed, AreDisarmed, machine_row}
use Rattle.melt_pool.specs.Parts.{IsNameless, parts_view}
use Rattle.melt_pool.specs.Workers.{image_of}
use Rattle.melt_pool.specs.declared.worker.Worker.{Worker}
use Rattle.melt_pool.proofs.MachineLacks.{machine_lacks}
use Rattle.melt_pool.proofs.MachineRuns.{AreSized, machine_runs}

module _ {R : Type 0} (image : R → Option (List ℕ)) (faults : R → ℕ) (words : Option (List ℕ)) (shown : Shown)
    (told : Bool) (heap : Heap) (h : List Entry) (registers : List Registers) (states : List ThreadState)
    (ms : List (Mutator (Worker R))) (nameless : IsNameless heap)
    (armed : AreArmed image faults words (parts_view heap h registers) states registers ms) (some : 1 ≤ length ms)
    (finish every : ℕ) (ends : shown.end ≡ finish) (shows : shown.image ≡ words) (new : Heap) (k : List Entry)
    (ns : List (Mutator (Worker R)))
    (sized : (u : ℕ) (r : Registers) → slice_get registers u ≡ Some r → length r.regs ≡ 16) (sized_after : AreSized ns)
    (after : List ThreadState) (registers_after : List Registers) (ms_after : List (Mutator (Worker R)))
    (disarmed : AreDisarmed ns after registers_after ms_after) (collector : Collector) (room : ℕ) where
  -- all went on, or the call that was made first lacked words
  pub machine_ends : (first lacks : Option ℕ)
      → SomeMayRun shown first (machine_row heap h registers states collector room every told)
      → Ended image faults finish every first (start_of (image_of image) told heap h finish ms).began ms ns new k lacks
      → EndsEpoch shown first (machine_row heap h registers states collector room every told)
      (machine_row new k registers_after after collector room every told) lacks
  machine_ends first None may ended =
      machine_runs image faults words shown first told heap h registers states ms nameless armed some finish every ends
      shows new k ns ended sized_after after registers_after ms_after disarmed collector room may
  machine_ends None (Some need) may ended = absurd ended
  machine_ends (Some t) (Some need) may ended =
      machine_lacks image faults words shown told heap h registers states ms nameless armed some finish every ends
      shows new k ns t need ended sized after registers_after ms_after disarmed collector room
