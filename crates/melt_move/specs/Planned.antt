-- What a planned collection does: the objects that came back from the disk are settled, and then the heap is collected.
use Rattle.std.specs.Prelude.{◌≡◌, ◌⊎◌, ℕ, ◌+◌, Bool, if◌then◌else◌, List, length, Option}
use Rattle.melt_model.specs.declared.reports.Phase.{Phase}
use Rattle.melt_model.specs.declared.reports.Phase.TheVariants.{Inactive, Mark, Move}
use Rattle.melt_model.specs.declared.reports.Journal.{Journal}
use Rattle.melt_policy.specs.Policy.{planned}
use Rattle.melt_scion.specs.Heaps.{IsSettled}
use Rattle.melt_scion.specs.declared.registers.Registers.{Registers}
use Rattle.melt_scion.specs.declared.heap.Heap.{Heap}
use Rattle.melt_disk.specs.Homes.{Stale}
use Rattle.melt_copy.specs.Copying.{Collects}
use Rattle.melt_copy.specs.Settling.{Keeps, RisesBy, SettlesBelow, StopsAtOne, filled}
use Rattle.melt_move.specs.declared.collect.MoveRefusal.{MoveRefusal}
use Rattle.melt_move.specs.declared.collect.MoveRefusal.TheVariants.{NoMemory, DiskFull, DiskFault}
use Rattle.melt_move.specs.declared.planned.Plan.{Plan}
use Rattle.melt_move.specs.Collecting.{HoldNothing, IsFormedOn, IsRefused, Moves}

-- the phase that is done: Move where that is forced, and else the planned one
abbrev pub phase_done : Bool → Phase → Phase
phase_done force next = if force then Move else next

-- the plan after a collection of the phase that left so many words in use, of so many in all
abbrev pub plan_after : Plan → Phase → (live words : ℕ) → Plan
plan_after plan phase live words = record plan { next = planned live words phase plan.mark plan.move_ }

-- All objects that came back have their homes by scions, and what the heap stood for it stands for.
pub record Settles (old mid : Heap) (end : ℕ) (before between : Option (List ℕ)) : Type 0 where
  pub keeps : Keeps old mid end before between
  pub settled : IsSettled mid
  pub all : SettlesBelow old mid (length old.forward)

-- a copying collection of the phase, which leaves the disk as it is
pub record CopiesIn (phase : Phase) (old new : Heap) (held held_after : List Registers) (end end_after : ℕ)
    (told told_after : Option (List ℕ)) (journal : Journal) : Type 0 where
  pub collects : Collects old held new held_after phase journal
  pub end_stays : end_after ≡ end
  pub image_stays : told_after ≡ told

-- What a collection of the phase made of a settled heap, of registers and disk, whatever they stood for.
abbrev pub CollectsIn : Phase → (old new : Heap) → (held held_after : List Registers) → (end end_after : ℕ)
    → (told told_after : Option (List ℕ)) → Journal → Type 0
CollectsIn Inactive = CopiesIn Inactive
CollectsIn Mark = CopiesIn Mark
CollectsIn Move = Moves

-- What a planned collection of the phase made of heap, registers and disk. Between settling and collecting there are a
-- heap and an image of the disk. The journal is that of the collection alone, but for two of its numbers: stubs counts
-- the objects that were settled too, and end is that of the disk.
pub record CollectsPlanned (phase : Phase) (old new : Heap) (held held_after : List Registers) (end end_after : ℕ)
    (told told_after : Option (List ℕ)) (journal : Journal) : Type 0 where
  pub mid : Heap
  pub between : Option (List ℕ)
  pub alone : Journal
  pub settles : Settles old mid end told between
  pub collects : CollectsIn phase mid new held held_after end end_after between told_after alone
  pub journal_is : journal ≡ record alone { stubs = filled old.forward + alone.stubs; end = end_after }

-- A copying collection had no memory. It changed nothing.
pub record CopyIsRefused {Disk : Type 0} (heap : Heap) (held held_after : List Registers)
    (disk disk_after : Stale Disk) (refusal : MoveRefusal) : Type 0 where
  pub no_memory : refusal ≡ NoMemory heap
  pub registers_stay : held_after ≡ held
  pub end_stays : disk_after.end ≡ disk.end
  pub disk_stays : disk_after.disk.now ≡ disk.disk.now

-- what stands after the refusal of a collection of the phase
abbrev pub IsRefusedIn : {Disk : Type 0} → Phase → Heap → (held held_after : List Registers)
    → (disk disk_after : Stale Disk) → MoveRefusal → Type 0
IsRefusedIn Inactive = CopyIsRefused
IsRefusedIn Mark = CopyIsRefused
IsRefusedIn Move = IsRefused

-- The heap was settled, by one write for each object that came back, and then the collection of the phase was refused.
pub record IsRefusedSettled {Disk : Type 0} (image : Disk → Option (List ℕ)) (writes : Disk → ℕ) (phase : Phase)
    (old : Heap) (held held_after : List Registers) (disk disk_after : Stale Disk)
    (refusal : MoveRefusal) : Type 0 where
  pub mid : Heap
  pub between : Stale Disk
  pub settles : Settles old mid disk.end (image disk.disk.now) (image between.disk.now)
  pub rises : RisesBy (filled old.forward) (writes disk.disk.now) (writes between.disk.now)
  pub end_stays : between.end ≡ disk.end
  pub limit_stays : between.limit ≡ disk.limit
  pub formed : IsFormedOn mid held disk.end
  pub refused : IsRefusedIn phase mid held held_after between disk_after refusal

-- The write for one of the objects that came back failed. Those before it were settled, and no register holds anything.
pub record FailsToSettle (old : Heap) (held_after : List Registers) (writes_before writes_after : ℕ) : Type 0 where
  pub mid : Heap
  pub stops : StopsAtOne old mid writes_before writes_after
  pub nothing : HoldNothing held_after

-- What stands after a refusal. What hands the heap back hands it back settled. A fault is one in settling, or one of a
-- Move in writing what had room.
abbrev pub IsRefusedPlanned : {Disk : Type 0} → (image : Disk → Option (List ℕ)) → (writes : Disk → ℕ) → Phase → Heap
    → (held held_after : List Registers) → (disk disk_after : Stale Disk) → MoveRefusal → Type 0
IsRefusedPlanned image writes phase old held held_after disk disk_after (NoMemory back) =
    IsRefusedSettled image writes phase old held held_after disk disk_after (NoMemory back)
IsRefusedPlanned image writes phase old held held_after disk disk_after (DiskFull back full) =
    IsRefusedSettled image writes phase old held held_after disk disk_after (DiskFull back full)
IsRefusedPlanned image writes phase old held held_after disk disk_after DiskFault =
    FailsToSettle old held_after (writes disk.disk.now) (writes disk_after.disk.now)
    ⊎ IsRefusedSettled image writes phase old held held_after disk disk_after DiskFault
