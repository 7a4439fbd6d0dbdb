-- What the laws of events give a program whose threads share plain words: no heap, no names, and no registers in the
-- state.
use Rattle.std.specs.Prelude.{◌≡◌, ◌≢◌, ℕ, ◌+◌, ◌*◌, ◌≤◌, Bool, true, false, List, Option, None, Some}
use Rattle.melt_model.specs.History.{Legal, made}
use Rattle.melt_model.specs.declared.history.Value.{Value}
use Rattle.melt_model.specs.declared.history.Slot.{Slot}
use Rattle.melt_model.specs.declared.history.Act.{Act}
use Rattle.melt_model.specs.declared.history.Act.TheVariants.{Make, Read, Write}
use Rattle.melt_model.specs.declared.history.Entry.{Entry}
use Rattle.melt_word.specs.Words.{IsShape, IsRef, ref_word, header_word, cost_of}
use Rattle.melt_word.specs.declared.header.Shape.{Shape}
use Rattle.melt_word.specs.declared.reference.Ref.TheVariants.{Clean, Stale}
use Rattle.melt_forward.specs.Forwarding.{forward_word}
use Rattle.melt_scion.specs.State.{Base, State, IsFresh}
use Rattle.melt_scion.specs.Placed.{Maps, IsNamed, MayHold, value_at, Holds}
use Rattle.melt_scion.specs.Regions.{Region, no_region, Owns, HasStored}
use Rattle.melt_scion.specs.Changes.{NameAppears}
use Rattle.melt_scion.specs.Commits.{MayCommit}
use Rattle.melt_core.specs.declared.call.Place.TheVariants.{Field}
use Rattle.melt_core.specs.Answering.{with_entry}
use Rattle.melt_core.specs.Known.{IsPlace, SlotAt, region}
use Rattle.melt_core.specs.Events.{LastAt, Keeps}

-- One row has the stop word, the first free place and, two after their addresses, the words of objects. Globals and
-- forwarding words have rows of their own.
pub record Table : Type 0 where
  pub words : ℕ → ℕ
  pub globals : ℕ → ℕ
  pub forwards : ℕ → ℕ

abbrev pub shown : Base → Table → State
shown base table = record {
  base = base;
  free = table.words 1;
  word = λ a. table.words (2 + a);
  global = table.globals;
  forward = table.forwards;
  register = λ t r. 0;
}

-- one word of the row is replaced, and no other of the table
pub record Replaces (old new : Table) (at word : ℕ) : Type 0 where
  pub here : new.words at ≡ word
  pub others : (k : ℕ) → k ≢ at → new.words k ≡ old.words k
  pub globals : (g : ℕ) → new.globals g ≡ old.globals g
  pub forwards : (p : ℕ) → new.forwards p ≡ old.forwards p

-- one forwarding word is replaced, and nothing else of the table
pub record ReplacesForward (old new : Table) (at word : ℕ) : Type 0 where
  pub words : (k : ℕ) → new.words k ≡ old.words k
  pub globals : (g : ℕ) → new.globals g ≡ old.globals g
  pub here : new.forwards at ≡ word
  pub others : (p : ℕ) → p ≢ at → new.forwards p ≡ old.forwards p

-- what stands before an event, told or not, for any maps
pub record Before (told : Bool) (h : List Entry) (maps : Maps) (base : Base) (table : Table) : Type 0 where
  pub legal : told ≡ true → Legal h base.globals
  pub holds : Holds told h maps (shown base table)

-- all that an event which clears no stale bit keeps, with its entry in the history
abbrev pub After : Bool → ℕ → List Entry → Maps → Maps → Base → Table → Table → Region → Option Act → Type 0
After told thread h maps new base old table mine act =
    Keeps told h (with_entry thread h act) maps new (shown base old) (shown base table) mine 0

-- Five events, each by any thread.
pub record SharedLaws (told : Bool) (thread : ℕ) (h : List Entry) (maps : Maps) (base : Base) (old new : Table)
    : Type 0 where
  -- an address that a register may hold is stored to a slot of an object
  pub stores_slot : (object i address : ℕ) (at : Slot) (value : Value) → Before told h maps base old →
      IsPlace maps (shown base old) (Field object i) → SlotAt maps (Field object i) at →
      MayHold maps (shown base old) address → (told ≡ true → value_at maps address ≡ Some value) →
      Replaces old new (2 + (object + 2 + i)) (4 * address) →
      After told thread h maps maps base old new no_region (Some (Write at value))
  -- words are claimed at the first free place; they belong to the thread from then on
  pub claims : (words : ℕ) → Before told h maps base old → 1 ≤ old.words 1 → old.words 1 + words ≤ base.size + 1 →
      Replaces old new 1 (old.words 1 + words) →
      After told thread h maps maps base old new no_region None ×
      Owns maps (shown base new) (record { at = old.words 1; words = words })
  -- the header of an object is stored, all of whose other words hold 0; it is one for each later history
  pub publishes : (later : Maps) (address stored : ℕ) (shape : Shape) → Before told h maps base old → IsShape shape →
      HasStored maps (shown base old) (region address shape) (λ k. 0) stored → stored + 1 ≡ cost_of shape →
      Replaces old new (2 + address) (header_word (record { shape = shape; stale = false })) →
      NameAppears maps later address (made h) →
      After told thread h maps later base old new (region address shape) (Some (Make shape.refs shape.nums))
  -- the tag of a stale reference in a slot is taken away, which reads the slot
  pub untags : (object i target : ℕ) (at : Slot) (value : Value) → Before told h maps base old →
      IsPlace maps (shown base old) (Field object i) → IsRef (Stale target) →
      old.words (2 + (object + 2 + i)) ≡ ref_word (Stale target) → IsNamed maps target →
      IsFresh (shown base old) target →
      (told ≡ true → LastAt h maps (Field object i) at value) →
      Replaces old new (2 + (object + 2 + i)) (ref_word (Clean target)) →
      After told thread h maps maps base old new no_region (Some (Read at value))
  -- an empty forwarding word sends the home of a Body to its copy, which is an object from then on
  pub commits : (later : Maps) (home tried p n address : ℕ) (shape : Shape) (rest : List ℕ)
      → Before told h maps base old →
      MayCommit told maps (shown base old) home tried p n address shape rest →
      ReplacesForward old new p (forward_word home address) → NameAppears maps later address n →
      After told thread h maps later base old new (region address shape) None
