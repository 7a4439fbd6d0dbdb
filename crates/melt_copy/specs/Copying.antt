-- What a copying collection of a heap does.
use Rattle.std.specs.Prelude.{◌≡◌, ℕ, List}
use Rattle.melt_model.specs.declared.reports.Phase.{Phase}
use Rattle.melt_model.specs.declared.reports.Phase.TheVariants.{Inactive, Mark, Move}
use Rattle.melt_model.specs.declared.reports.Journal.{Journal}
use Rattle.melt_scion.specs.Placed.{Maps, IsNamed, Formed}
use Rattle.melt_scion.specs.Heaps.{OnDisk, state_of, HasMaps, KeepsTables, IsSettled}
use Rattle.melt_scion.specs.Collected.{Collected, CountsWords, HeldAt}
use Rattle.melt_scion.specs.declared.registers.Registers.{Registers}
use Rattle.melt_scion.specs.declared.heap.Heap.{Heap}

-- a phase in which a collection keeps all of its objects in the space
abbrev pub IsCopying : Phase → Type 0
IsCopying Inactive = Unit {0}
IsCopying Mark = Unit {0}
IsCopying Move = ⊥

-- the journal of a collection of the phase that writes nothing to a disk, with so many words in use after it
pub record Journals (journal : Journal) (phase : Phase) (used : ℕ) : Type 0 where
  pub of_phase : journal.phase ≡ phase
  pub live_words : journal.live ≡ used
  pub no_bodies : journal.bodies ≡ 0
  pub no_stubs : journal.stubs ≡ 0
  pub no_end : journal.end ≡ 0

-- What was collected, by the maps and the disk with which heap and registers were well formed: the maps after it, where
-- each object went, and which home and which scion it has. Live are the words of all objects after it, and held those
-- of the objects in registers before it.
pub record HasCollected (maps : Maps) (disk : OnDisk) (old new : Heap) (held held_after : List Registers)
    (phase : Phase) (journal : Journal) : Type 0 where
  pub after : Maps
  pub to : ℕ → ℕ
  pub home : ℕ → ℕ
  pub scion : ℕ → ℕ
  pub names : HasMaps new after
  pub collected : Collected phase maps after (state_of old held disk) (state_of new held_after disk) to home scion
  pub live : CountsWords (state_of new held_after disk) (IsNamed after) journal.live
  pub held_words : CountsWords (state_of old held disk) (HeldAt (state_of old held disk)) journal.held
  pub journals : Journals journal phase new.space.used

-- What a copying collection of the phase made of heap and registers, whatever they stood for. It writes to no disk, so
-- that is the same before and after it.
pub record Collects (old : Heap) (held : List Registers) (new : Heap) (held_after : List Registers) (phase : Phase)
    (journal : Journal) : Type 0 where
  pub each : (maps : Maps) (disk : OnDisk) → HasMaps old maps → Formed maps (state_of old held disk)
      → HasCollected maps disk old new held held_after phase journal
  pub tables : KeepsTables old new
  pub settled : IsSettled new
