-- How many visits a collection makes at most: turns of loops over words of objects, live scions, globals and registers.
use Rattle.std.specs.Prelude.{◌≡◌, ℕ, ◌+◌, ◌*◌, ◌≤◌, List, length}
use Rattle.melt_scion.specs.State.{Reached}
use Rattle.melt_scion.specs.Heaps.{OnDisk, state_of}
use Rattle.melt_scion.specs.Collected.{CountsWords}
use Rattle.melt_scion.specs.declared.registers.Registers.{Registers}
use Rattle.melt_scion.specs.declared.heap.Heap.{Heap}

-- Total is the words of the objects that can be reached. Which these are has nothing to do with what stands on a disk,
-- so any disk will do.
pub record CountsReached (heap : Heap) (held : List Registers) (total : ℕ) : Type 0 where
  pub disk : OnDisk
  pub counts : CountsWords (state_of heap held disk) (Reached (state_of heap held disk)) total

-- The words of the objects that can be reached, and one for each live scion, for each global and for each of the 16
-- registers of a thread.
pub record EntryWords (heap : Heap) (held : List Registers) (total : ℕ) : Type 0 where
  pub objects : ℕ
  pub reached : CountsReached heap held objects
  pub is : total ≡ objects + length heap.scions.live + length heap.globals + 16 * length held

-- The counter rose by at most so many times the words at entry, of which there is one number.
pub record VisitsAtMost (times : ℕ) (heap : Heap) (held : List Registers) (before after : ℕ) : Type 0 where
  pub words : ℕ
  pub entry : EntryWords heap held words
  pub one : (other : ℕ) → EntryWords heap held other → other ≡ words
  pub visits : after ≤ before + times * words
