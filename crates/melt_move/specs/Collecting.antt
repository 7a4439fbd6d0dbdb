-- What a Move collection of a heap does.
use Rattle.std.specs.Prelude.{◌≡◌, ◌≢◌, ◌↔◌, ◌+◌, ◌<◌, ◌≤◌, ◌==◌, ℕ, List, ◌++◌, length, Option, None, Some}
use Rattle.std.specs.Prelude.{Contains, slice_get}
use Rattle.std.specs.List.{IsDistinct}
use Rattle.melt_model.specs.declared.reports.Phase.TheVariants.{Move}
use Rattle.melt_model.specs.declared.reports.Journal.{Journal}
use Rattle.melt_space.specs.Space.{Replaces}
use Rattle.melt_scion.specs.Placed.{Maps, IsNamed, Formed}
use Rattle.melt_scion.specs.GhostMaps.{NamePairs}
use Rattle.melt_scion.specs.Heaps.{OnDisk, Shows, HasMaps, KeepsTables, IsSettled, TablesMade, register_in, state_of}
use Rattle.melt_scion.specs.Moves.{Leaves}
use Rattle.melt_scion.specs.Collected.{Collected, CountsWords, HeldAt}
use Rattle.melt_scion.specs.declared.registers.Registers.{Registers}
use Rattle.melt_scion.specs.declared.heap.Names.{Names}
use Rattle.melt_scion.specs.declared.heap.Heap.{Heap}
use Rattle.melt_disk.specs.declared.space.DiskFull as disk
use Rattle.melt_disk.specs.Homes.{Stale}
use Rattle.melt_word.specs.Words.{IsShape}
use Rattle.melt_copy.specs.declared.live.LiveSet.{LiveSet}
use Rattle.melt_copy.specs.Copied.{AreRenamed}
use Rattle.melt_copy.specs.Moving.{name_after}
use Rattle.melt_copy.specs.Tracking.{goes}
use Rattle.melt_move.specs.declared.collect.MoveRefusal.{MoveRefusal}
use Rattle.melt_move.specs.declared.collect.MoveRefusal.TheVariants.{NoMemory, DiskFull, DiskFault}
use Rattle.melt_move.specs.declared.homes.Given.{Given}
use Rattle.melt_move.specs.declared.commit.Copied.{Copied}
use Rattle.melt_move.specs.declared.decision.Decision.{Decision}
use Rattle.melt_move.specs.Plans.{IsDecision, WantsHome}
use Rattle.melt_move.specs.Staying.{StandIn, WordsStay}
use Rattle.melt_move.specs.Moved.{IsMove, homes_from}
use Rattle.melt_move.specs.NamedHomes.{NamesGiven, NamesHomesOf}

-- The heap and the registers are well formed, with some maps and over some disk whose homes end at a word.
pub record IsFormedOn (heap : Heap) (held : List Registers) (end : ℕ) : Type 0 where
  pub maps : Maps
  pub disk : OnDisk
  pub end_is : disk.end ≡ end
  pub names : HasMaps heap maps
  pub made : TablesMade heap
  pub formed : Formed maps (state_of heap held disk)

-- All was decided, for each map and disk with which the heap is well formed.
abbrev pub Decides : Heap → List Registers → Decision → Type 0
Decides heap held decision = (maps : Maps) (disk : OnDisk) → disk.end ≡ decision.homes.first
    → Formed maps (state_of heap held disk) → IsDecision heap.space (state_of heap held disk) decision

-- names as before, but that there may be room for more
abbrev pub SameNames : Option Names → Option Names → Type 0
SameNames None None = Unit {0}
SameNames (Some old) (Some new) = (new.addresses ≡ old.addresses) × (new.homes.names ≡ old.homes.names)
    × (old.homes.spare ≤ new.homes.spare)
SameNames None (Some new) = ⊥
SameNames (Some old) None = ⊥

-- the heap is as before, but that there may be room for more names of homes
pub record IsAsBefore (old new : Heap) : Type 0 where
  pub space : new.space ≡ old.space
  pub scions : new.scions ≡ old.scions
  pub globals : new.globals ≡ old.globals
  pub forward : new.forward ≡ old.forward
  pub names : SameNames old.names new.names
  pub maps : new.maps ≡ old.maps

-- the words and globals of what stays, as they are to be
pub record CopiesOut (heap : Heap) (held : List Registers) (decision : Decision) (copied : Copied) : Type 0 where
  pub words : (maps : Maps) (disk : OnDisk) → disk.end ≡ decision.homes.first → Formed maps (state_of heap held disk)
      → StandIn (state_of heap held disk) decision copied.words.items
  pub globals : (maps : Maps) (disk : OnDisk) → disk.end ≡ decision.homes.first → Formed maps (state_of heap held disk)
      → WordsStay (state_of heap held disk) decision heap.globals copied.globals.items

-- what was copied was put into the place of what was there
pub record IsPutBack (old new : Heap) (held held_after : List Registers) (decision : Decision)
    (copied : Copied) : Type 0 where
  pub named : Option Names
  pub named_maps : NamePairs
  pub space : Replaces old.space new.space copied.words.items
  pub globals : new.globals ≡ copied.globals.items
  pub registers : (t r : ℕ) → register_in held_after t r ≡ goes decision.choice.stay (register_in held t r)
  pub homes : NamesHomesOf decision.homes old.names old.maps named named_maps
  pub names : AreRenamed named named_maps new.names new.maps decision.choice.stay.moves.items
  pub scions : new.scions ≡ old.scions
  pub forward : new.forward ≡ old.forward

-- The disk after a collection: the new homes stand after all others.
abbrev pub disk_after : OnDisk → Decision → ℕ → (ℕ → ℕ) → OnDisk
disk_after disk decision end image = record {
  end = end;
  homes = disk.homes ++ homes_from disk.end decision.homes.given.items;
  free_homes = disk.free_homes;
  image = image;
}

-- The decision was carried out, for the maps and the disk with which heap and registers were well formed: what the disk
-- tells then, and the names.
pub record CarriesOut (maps : Maps) (disk : OnDisk) (old new : Heap) (held held_after : List Registers)
    (decision : Decision) (end : ℕ) (told : Option (List ℕ)) : Type 0 where
  pub image : ℕ → ℕ
  pub shows : Shows told image
  pub live : LiveSet
  pub is : IsMove (state_of old held disk) (state_of new held_after (disk_after disk decision end image)) live decision
  pub after : Maps
  pub names : HasMaps new after
  pub addresses : (k : ℕ) → after.address k ≡ name_after maps.address decision.choice.stay.moves.items k
  pub homes : NamesGiven decision.homes maps.address maps.home after.home

-- so many numbers
pub record Counts (Is : ℕ → Type 0) (count : ℕ) : Type 0 where
  pub members : List ℕ
  pub once : IsDistinct (λ a b. a == b) members
  pub all : (a : ℕ) → Is a ↔ Contains members a
  pub count_is : count ≡ length members

-- the journal of a Move collection, with so many words in use after it, on a disk whose homes end at a word
pub record JournalsMove (journal : Journal) (used end : ℕ) : Type 0 where
  pub of_phase : journal.phase ≡ Move
  pub live_words : journal.live ≡ used
  pub end_is : journal.end ≡ end

-- What was collected, by the maps and the disk with which heap and registers were well formed: the maps and the disk
-- after it, where each object went, and which home and which scion it has. Live are the words of all objects in the
-- space after it, and held those of the objects in registers. A Body was written for each object that left, and a Stub
-- for each that stayed and got a home; the homes that were given take the words by which the end rose.
pub record HasMoved (maps : Maps) (disk : OnDisk) (old new : Heap) (held held_after : List Registers) (end : ℕ)
    (told : Option (List ℕ)) (journal : Journal) : Type 0 where
  pub after : Maps
  pub later : OnDisk
  pub to : ℕ → ℕ
  pub home : ℕ → ℕ
  pub scion : ℕ → ℕ
  pub end_is : later.end ≡ end
  pub shows : Shows told later.image
  pub names : HasMaps new after
  pub collected : Collected Move maps after (state_of old held disk) (state_of new held_after later) to home scion
  pub live : CountsWords (state_of new held_after later) (IsNamed after) journal.live
  pub held_words : CountsWords (state_of old held disk) (HeldAt (state_of old held disk)) journal.held
  pub bodies : Counts (Leaves Move (state_of old held disk)) journal.bodies
  pub stubs : Counts (λ a. WantsHome (state_of old held disk) a × (to a ≢ 0)) journal.stubs
  pub need : ℕ
  pub needs : CountsWords (state_of old held disk) (WantsHome (state_of old held disk)) need
  pub grows : end ≡ disk.end + need

-- What a Move collection made of heap, registers and disk, whatever they stood for.
pub record Moves (old new : Heap) (held held_after : List Registers) (end end_after : ℕ)
    (told told_after : Option (List ℕ)) (journal : Journal) : Type 0 where
  pub each : (maps : Maps) (disk : OnDisk) → disk.end ≡ end → Shows told disk.image → HasMaps old maps
      → Formed maps (state_of old held disk)
      → HasMoved maps disk old new held held_after end_after told_after journal
  pub journal_is : JournalsMove journal new.space.used end_after
  pub tables : KeepsTables old new
  pub settled : IsSettled new

-- The homes that the collection would give reach past the limit of the disk.
pub record LacksDisk (heap : Heap) (held : List Registers) (end limit : ℕ) (full : disk.DiskFull) : Type 0 where
  pub end_is : full.end ≡ end
  pub limit_is : full.limit ≡ limit
  pub above : limit < end + full.need
  pub needs : (maps : Maps) (disk : OnDisk) → disk.end ≡ end → Formed maps (state_of heap held disk)
      → CountsWords (state_of heap held disk) (WantsHome (state_of heap held disk)) full.need

-- The homes that the collection would give have room below the limit of the disk.
pub record HasDisk (heap : Heap) (held : List Registers) (end limit : ℕ) : Type 0 where
  pub need : ℕ
  pub fits : end + need ≤ limit
  pub needs : (maps : Maps) (disk : OnDisk) → disk.end ≡ end → Formed maps (state_of heap held disk)
      → CountsWords (state_of heap held disk) (WantsHome (state_of heap held disk)) need

-- no register holds anything
abbrev pub HoldNothing : List Registers → Type 0
HoldNothing held = (t r : ℕ) → register_in held t r ≡ 0

-- each of the shapes is one
abbrev pub AreShapes : List Given → Type 0
AreShapes given = (k : ℕ) (g : Given) → slice_get given k ≡ Some g → IsShape g.shape

-- there is room for the names of so many homes, where there are names
abbrev pub HasRoomForNames : ℕ → Option Names → Type 0
HasRoomForNames more None = Unit {0}
HasRoomForNames more (Some names) = more ≤ names.homes.spare

-- What stands after a refusal. Only a fault of the disk gives the heap up, and then no register holds anything; it is
-- a fault in writing what had room.
abbrev pub IsRefused : {Disk : Type 0} → Heap → List Registers → List Registers → Stale Disk → Stale Disk → MoveRefusal
    → Type 0
IsRefused heap held held_after disk disk_after (NoMemory back) = IsAsBefore heap back × (held_after ≡ held)
    × (disk_after.end ≡ disk.end) × (disk_after.disk.now ≡ disk.disk.now)
IsRefused heap held held_after disk disk_after (DiskFull back full) = IsAsBefore heap back × (held_after ≡ held)
    × (disk_after.end ≡ disk.end) × (disk_after.disk.now ≡ disk.disk.now)
    × LacksDisk heap held disk.end disk.limit full
IsRefused heap held held_after disk disk_after DiskFault =
    HoldNothing held_after × HasDisk heap held disk.end disk.limit
