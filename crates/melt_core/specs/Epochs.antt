-- How a core begins and ends.
use Rattle.std.specs.Prelude.{◌≡◌, ◌≢◌, ℕ, ◌+◌, ◌-◌, ◌≤◌, min, length, Bool}
use Rattle.std.specs.Prelude.{false, [], replicate, slice_set, vec_capacity, None, Some}
use Rattle.melt_model.specs.declared.history.Value.TheVariants.{Nil}
use Rattle.melt_scion.specs.GhostMaps.{named}
use Rattle.melt_scion.specs.Heaps.{OnDisk}
use Rattle.melt_scion.specs.declared.registers.Registers.{Registers}
use Rattle.melt_scion.specs.declared.heap.Heap.{Heap}
use Rattle.melt_core.specs.declared.machine.Core.{Core}
use Rattle.melt_core.specs.declared.machine.Rest.{Rest}
use Rattle.melt_core.specs.Views.{View, view, values_of, max_rest, Standing, IsQuiet}

-- registers that hold nothing
abbrev pub no_registers : Registers
no_registers = record { regs = replicate 16 0 }

-- Threads whose registers hold nothing and that have no call in flight, and an empty history.
pub record IsNewRest (threads entries : ℕ) (rest : Rest) : Type 0 where
  pub held : rest.held.items ≡ replicate threads no_registers
  pub calls : rest.calls.items ≡ replicate threads None
  pub records : rest.records.items ≡ replicate threads (replicate max_rest 0)
  pub history : rest.log.items ≡ []
  pub shadow_log : rest.shadow_log ≡ []
  pub room : entries ≤ vec_capacity rest.log
  pub made : rest.made ≡ 0

-- the core that begins with a heap and a rest
abbrev pub core_of : Heap → Rest → Core
core_of heap rest = record { heap = heap; rest = rest; free = heap.space.used + 1; stop = false }

-- A heap and a rest between two epochs: what a core that begins with them stands for over a disk, told or not.
pub record AtRest (told : Bool) (disk : OnDisk) (heap : Heap) (rest : Rest) : Type 0 where
  pub stands : Standing told disk (view (core_of heap rest))
  pub quiet : IsQuiet (view (core_of heap rest))

-- where a heap keeps no names, its maps name addresses of its words alone
abbrev pub NamesWithin : Heap → Type 0
NamesWithin heap = (address n : ℕ) → named heap.maps.addresses address ≡ Some n
    → (1 ≤ address) × (address ≤ length heap.space.list)

-- A core became a heap and a rest: the history stays and the registers do, and so do the words. Those before the first
-- free place are in use, or all of them where a claim ended past the last one.
pub record HasFinished (v w : View) : Type 0 where
  pub words : w.space.list ≡ v.space.list
  pub used : w.space.used ≡ min (v.free - 1) (length v.space.list)
  pub scions : w.scions ≡ v.scions
  pub globals : w.globals ≡ v.globals
  pub forward : w.forward ≡ v.forward
  pub names : w.names ≡ v.names
  pub held : w.held ≡ v.held
  pub calls : w.calls ≡ v.calls
  pub records : w.records ≡ v.records
  pub log : w.log ≡ v.log
  pub capacity : w.capacity ≡ v.capacity
  pub made : w.made ≡ v.made

-- the registers of a thread hold nothing now; what stood before over a disk, told or not, stands after
pub record HasDropped (v w : View) (t : ℕ) : Type 0 where
  pub keeps : (told : Bool) (disk : OnDisk) → Standing told disk v → Standing told disk w
  pub only : w ≡ record v { held = slice_set v.held t no_registers }
  pub here : values_of w t ≡ replicate 16 Nil
  pub others : (u : ℕ) → u ≢ t → values_of w u ≡ values_of v u
