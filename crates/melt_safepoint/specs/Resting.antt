-- A heap between two epochs with what a machine has beside it, and what a collection makes of both.
use Rattle.std.specs.Prelude.{◌≡◌, ℕ, ◌+◌, ◌≤◌, false, List, [], ◌∷◌, ◌++◌, length, Option, Some, IsSome}
use Rattle.melt_model.specs.declared.history.Entry.{Entry}
use Rattle.melt_model.specs.declared.reports.Journal.{Journal}
use Rattle.melt_model.specs.declared.reports.Phase.{Phase}
use Rattle.melt_disk.specs.declared.space.DiskFull as disk
use Rattle.melt_scion.specs.Heaps.{HasMaps, KeepsNames, NamesMade, IsSettled}
use Rattle.melt_scion.specs.Placed.{Maps, IsNamed}
use Rattle.melt_scion.specs.declared.heap.Names as name_table
use Rattle.melt_scion.specs.declared.heap.Heap.{Heap}
use Rattle.melt_scion.specs.declared.registers.Registers.{Registers}
use Rattle.melt_core.specs.Views.{View, maps_of, numbers_of}
use Rattle.melt_core.specs.declared.call.Call.{Call}
use Rattle.melt_safepoint.specs.Collections.{CollectsCore, IsFullCore, MayCollect}
use Rattle.melt_safepoint.specs.Shown.{Shown}
use Rattle.melt_safepoint.specs.declared.collector.Collector.{Collector}
use Rattle.melt_safepoint.specs.declared.collector.HeapRefusal.{HeapRefusal}
use Rattle.melt_safepoint.specs.declared.collector.HeapRefusal.TheVariants.{NoMemory, DiskFull, DiskFault}
use Rattle.melt_safepoint.specs.declared.ending.Left.{Left}

-- What a machine has beside its heap between two epochs: the names of objects, for contracts at least; the registers
-- and the call in flight of each thread, and the words that each read after the head of a record; the history, how
-- many entries it has room for, and how many objects were made in it.
pub record Beside : Type 0 where
  pub names : Option name_table.Names
  pub held : List Registers
  pub calls : List (Option Call)
  pub records : List (List ℕ)
  pub log : List Entry
  pub capacity : ℕ
  pub made : ℕ

-- what both show, where a new epoch begins with them
abbrev pub rest_view : Heap → Beside → View
rest_view heap b = record {
  space = heap.space;
  scions = heap.scions;
  globals = heap.globals;
  forward = heap.forward;
  names = b.names;
  held = b.held;
  calls = b.calls;
  records = b.records;
  log = b.log;
  capacity = b.capacity;
  made = b.made;
  free = heap.space.used + 1;
  stop = false;
}

-- the same with other names and registers
abbrev pub with_names_held : Beside → Option name_table.Names → List Registers → Beside
with_names_held b names held = record b { names = names; held = held }

-- The names are those of the maps of the heap, for as many addresses as it has words.
pub record NamesHeap (heap : Heap) (names : Option name_table.Names) : Type 0 where
  pub named : IsSome names
  pub room : length (numbers_of names) ≡ length heap.space.list
  pub has : HasMaps heap (maps_of names)
  pub made : NamesMade (length heap.space.list) heap.names

-- A heap and registers may be collected: with something beside the heap a new epoch could begin.
pub record MayCollectHeap (finish : ℕ) (heap : Heap) (held : List Registers) : Type 0 where
  pub beside : Beside
  pub held_is : beside.held ≡ held
  pub names : NamesHeap heap beside.names
  pub may : MayCollect finish (rest_view heap beside)

-- A heap is for as many words, globals, forwarding words and names as the old one. No forwarding word is filled, and
-- each address with a name is one of a word.
pub record LeavesHeap (old new : Heap) : Type 0 where
  pub words : length new.space.list ≡ length old.space.list
  pub globals : length new.globals ≡ length old.globals
  pub forwards : length new.forward ≡ length old.forward
  pub keeps_names : KeepsNames old.names new.names
  pub names_made : NamesMade (length new.space.list) new.names
  pub settled : IsSettled new
  pub within : (maps : Maps) (address : ℕ) → HasMaps new maps → IsNamed maps address
      → (1 ≤ address) × (address ≤ length new.space.list)

-- A collection of the phase was made of a heap and registers, and written down, whatever stood beside the heap.
abbrev pub CollectsHeap : Phase → (shown later : Shown) → (heap new : Heap) → (held held_after : List Registers)
    → (old plans : Collector) → Type 0
CollectsHeap phase shown later heap new held held_after old plans =
    (b : Beside) (names : Option name_table.Names) → b.held ≡ held → NamesHeap heap b.names → NamesHeap new names
    → MayCollect shown.end (rest_view heap b)
    → CollectsCore phase shown later (rest_view heap b) (rest_view new (with_names_held b names held_after)) old plans

-- One collection more was written down, and its entry is of this one.
pub record IsWrittenDown (js later : List Journal) (IsOf : Journal → Type 0) : Type 0 where
  pub entry : Journal
  pub journal : later ≡ js ++ entry ∷ []
  pub is_of : IsOf entry

-- The disk had no room for the new homes of a Move of a heap and registers. The heap is handed back, in which all
-- stands as before, whatever stood beside it.
abbrev pub IsFullHeap : Phase → (shown later : Shown) → (heap back : Heap) → List Registers → disk.DiskFull → Type 0
IsFullHeap phase shown later heap back held full =
    (b : Beside) (left : Left) → b.held ≡ held → NamesHeap heap b.names → MayCollect shown.end (rest_view heap b)
    → left.heap ≡ Some back → left.history ≡ b.log → IsFullCore phase shown later (rest_view heap b) left full

-- why a heap was not collected, and what stands then
abbrev pub IsRefusedHeap : Phase → (shown later : Shown) → Heap → List Registers → HeapRefusal → Type 0
IsRefusedHeap phase shown later heap held NoMemory = Unit {0}
IsRefusedHeap phase shown later heap held (DiskFull back full) = IsFullHeap phase shown later heap back held full
IsRefusedHeap phase shown later heap held DiskFault = Unit {0}
