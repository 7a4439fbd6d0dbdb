-- The events of calls, over states: what each changes, the act of its entry in the history, and the one law of all.
use Rattle.std.specs.Prelude.{◌≡◌, ℕ, ◌+◌, ◌*◌, ◌<◌, ◌≤◌, Bool, true, false, List, Option, None, Some}
use Rattle.melt_model.specs.History.{Legal, last, made}
use Rattle.melt_model.specs.declared.history.Value.{Value}
use Rattle.melt_model.specs.declared.history.Value.TheVariants.{Num}
use Rattle.melt_model.specs.declared.history.Slot.{Slot}
use Rattle.melt_model.specs.declared.history.Slot.TheVariants as slot
use Rattle.melt_model.specs.declared.history.Act.{Act}
use Rattle.melt_model.specs.declared.history.Act.TheVariants.{Make, Read, Write}
use Rattle.melt_model.specs.declared.history.Entry.{Entry}
use Rattle.melt_word.specs.Words.{IsShape, IsRef, ref_word, header_word, cost_of}
use Rattle.melt_word.specs.declared.header.Shape.{Shape}
use Rattle.melt_word.specs.declared.header.Header.{Header}
use Rattle.melt_word.specs.declared.reference.Ref.{Ref}
use Rattle.melt_word.specs.declared.reference.Ref.TheVariants.{Clean}
use Rattle.melt_forward.specs.Forwarding.{forward_word}
use Rattle.melt_scion.specs.State.{State, HeaderAt, IsFresh}
use Rattle.melt_scion.specs.Placed.{Maps, IsNamed, value_of, value_at, MayHold, Holds}
use Rattle.melt_scion.specs.Regions.{Region, no_region, Apart, Owns, HasStored}
use Rattle.melt_scion.specs.Changes.{SameWords, WordChanges, GlobalChanges, ForwardChanges, FreeMoves, NameAppears}
use Rattle.melt_scion.specs.Commits.{MayCommit}
use Rattle.melt_core.specs.declared.call.Place.{Place}
use Rattle.melt_core.specs.declared.call.Place.TheVariants.{Field, Global}
use Rattle.melt_core.specs.Answering.{with_entry}
use Rattle.melt_core.specs.Known.{IsObjectAt, IsPlace, SlotAt, word_in, IsTagged, region, Evolves, RegionStays}

-- the word at a place is replaced
abbrev pub PlaceChanges : State → State → Place → ℕ → Type 0
PlaceChanges s t (Field object i) word = WordChanges s t (object + 2 + i) word
PlaceChanges s t (Global g) word = GlobalChanges s t g word

-- the slot is that of the place, and the value what was last written there
pub record LastAt (h : List Entry) (maps : Maps) (place : Place) (at : Slot) (value : Value) : Type 0 where
  pub slot : SlotAt maps place at
  pub last : value ≡ last h at

-- a number word of an object of this shape and number
pub record IsNumberWord (maps : Maps) (s : State) (object : ℕ) (shape : Shape) (n j : ℕ) : Type 0 where
  pub object_is : IsObjectAt maps s object shape
  pub below : j < shape.nums
  pub named : maps.address object ≡ Some n

-- where the number word stands
abbrev pub number_place : ℕ → Shape → ℕ → ℕ
number_place object shape j = object + 2 + shape.refs + j

-- One event, with the region of its thread, the address of the object whose stale bit it clears, if it clears one, and
-- the act of its entry, if it has one. What it says of values is told where the disk tells its words.
pub data Event (told : Bool) (h : List Entry) (maps new : Maps) (s t : State) : Region → ℕ → Option Act → Type 0 where
  quiet : new ≡ maps → SameWords s t → Event told h maps new s t no_region 0 None
  reads_place : (place : Place) → (at : Slot) → (value : Value) → new ≡ maps → SameWords s t → IsPlace maps s place
      → (IsTagged (word_in s place) → ⊥) → (told ≡ true → LastAt h maps place at value)
      → Event told h maps new s t no_region 0 (Some (Read at value))
  reads_number : (object n j : ℕ) → (shape : Shape) → new ≡ maps → SameWords s t → IsNumberWord maps s object shape n j
      → Event told h maps new s t no_region 0 (Some (Read (slot.Cell n j) (Num (s.word (number_place object shape j)))))
  writes_place : (place : Place) → (at : Slot) → (address : ℕ) → (value : Value) → new ≡ maps → IsPlace maps s place
      → SlotAt maps place at → MayHold maps s address → (told ≡ true → value_at maps address ≡ Some value)
      → PlaceChanges s t place (4 * address) → Event told h maps new s t no_region 0 (Some (Write at value))
  writes_number : (object n j word : ℕ) → (shape : Shape) → new ≡ maps → IsNumberWord maps s object shape n j
      → WordChanges s t (number_place object shape j) word
      → Event told h maps new s t no_region 0 (Some (Write (slot.Cell n j) (Num word)))
  claims : (words : ℕ) → new ≡ maps → FreeMoves s t (s.free + words) → Event told h maps new s t no_region 0 None
  stores : (r : Region) → (at word : ℕ) → new ≡ maps → Owns maps s r → r.at ≤ at → at < r.at + r.words
      → WordChanges s t at word → Event told h maps new s t r 0 None
  publishes : (address stored : ℕ) → (shape : Shape) → IsShape shape
      → HasStored maps s (region address shape) (λ k. 0) stored → stored + 1 ≡ cost_of shape
      → WordChanges s t address (header_word (record { shape = shape; stale = false }))
      → NameAppears maps new address (made h)
      → Event told h maps new s t (region address shape) 0 (Some (Make shape.refs shape.nums))
  clears : (address : ℕ) → (header : Header) → new ≡ maps → IsNamed maps address → HeaderAt s address header
      → WordChanges s t address (header_word (record { shape = header.shape; stale = false }))
      → Event told h maps new s t no_region address None
  untags : (place : Place) → (at : Slot) → (found : Ref) → (target : ℕ) → (value : Value) → new ≡ maps
      → IsPlace maps s place → IsRef found → word_in s place ≡ ref_word found → IsNamed maps target → IsFresh s target
      → (told ≡ true → value_of maps found ≡ value_of maps (Clean target))
      → (told ≡ true → LastAt h maps place at value) → PlaceChanges s t place (ref_word (Clean target))
      → Event told h maps new s t no_region 0 (Some (Read at value))
  commits : (home tried p n address : ℕ) → (shape : Shape) → (rest : List ℕ)
      → MayCommit told maps s home tried p n address shape rest → ForwardChanges s t p (forward_word home address)
      → NameAppears maps new address n → Event told h maps new s t (region address shape) 0 None

-- What an event keeps: all that held before, told or not; a legal history; and what other threads know and own.
pub record Keeps (told : Bool) (h k : List Entry) (maps new : Maps) (s t : State) (mine : Region)
    (cleared : ℕ) : Type 0 where
  pub holds : Holds told k new t
  pub legal : told ≡ true → Legal k t.base.globals
  pub evolves : Evolves maps new s t cleared
  pub regions : (r : Region) → Owns maps s r → Apart mine r → RegionStays new s t r

-- the one law
abbrev pub EventKeeps : Type 0
EventKeeps = (told : Bool) (thread : ℕ) (h : List Entry) (maps new : Maps) (s t : State) (mine : Region) (cleared : ℕ)
    (act : Option Act) →
    (told ≡ true → Legal h s.base.globals) → Holds told h maps s → Event told h maps new s t mine cleared act →
    Keeps told h (with_entry thread h act) maps new s t mine cleared
