-- The copy of what stays, while it is made: copies with the references of before after those that are done, and in the
-- place of each old header a reference to the copy.
use Rattle.std.specs.Prelude.{◌≡◌, ◌≢◌, ℕ, ◌+◌, ◌<◌, ◌≤◌, ◌==◌, ◌⊎◌, nat_lt, Bool, if◌then◌else◌, List, [], ◌∷◌, ◌++◌}
use Rattle.std.specs.Prelude.{length, take, slice_get, slice_index, Option, None, Some}
use Rattle.melt_model.specs.declared.reports.Phase.{Phase}
use Rattle.melt_word.specs.Words.{ref_word, header_word, cost_of}
use Rattle.melt_word.specs.declared.reference.Ref.TheVariants.{Clean}
use Rattle.melt_word.specs.declared.header.Header.{Header}
use Rattle.melt_space.specs.Space.{SpaceWords, word_at}
use Rattle.melt_scion.specs.State.{State, HeaderAt, RefersTo, Reached}
use Rattle.melt_scion.specs.Names.{name_at}
use Rattle.melt_scion.specs.Heaps.{NamesMade, register_in}
use Rattle.melt_scion.specs.Scions.{Scions, scion_at}
use Rattle.melt_scion.specs.declared.registers.Registers.{Registers}
use Rattle.melt_scion.specs.declared.heap.Names.{Names}
use Rattle.melt_copy.specs.declared.forwarding.Relocation.{Relocation}
use Rattle.melt_copy.specs.declared.names.Renaming.{Renaming}
use Rattle.melt_copy.specs.declared.to_space.ToSpace.{ToSpace}
use Rattle.melt_copy.specs.Moving.{IsWhole, IsRefWord, Relocates, WordMoves, header_after, words_in, name_after}
use Rattle.melt_copy.specs.Tracking.{word_numbered}

-- the new address of an object by the moves of those that were found, and 0 for every other address
abbrev pub place_of : List Relocation → ℕ → ℕ
place_of [] address = 0
place_of (m ∷ moves) address = if m.from == address then m.to else place_of moves address

-- the words of the copies
abbrev pub copies_of : ToSpace → List ℕ
copies_of to = take to.next to.words.items

-- what was found stays found
pub record FindsMore (old new : List Relocation) : Type 0 where
  pub rest : List Relocation
  pub is : new ≡ old ++ rest

-- the numbers of the objects that were found stand at their new addresses too, where the heap keeps names
abbrev pub AreCarried : Option Names → Option Renaming → List Relocation → Type 0
AreCarried None None moves = Unit {0}
AreCarried (Some old) (Some now) moves =
    ((k : ℕ) → name_at now.moved k ≡ name_after (name_at old.addresses) moves k)
    × (length now.moved ≡ length old.addresses) × (now.names ≡ old)
AreCarried None (Some now) moves = ⊥
AreCarried (Some old) None moves = ⊥

-- there is a place for the number of an object at this address
abbrev pub HasPlace : Option Renaming → ℕ → Type 0
HasPlace None address = Unit {0}
HasPlace (Some names) address = (1 ≤ address) × (address ≤ length names.moved)

-- the number of the object at one address stands at the other, where it moved, too
pub record CarriesNumber (old new : Renaming) (from to : ℕ) : Type 0 where
  pub here : name_at old.moved to ≡ None → name_at new.moved to ≡ name_at old.names.addresses from
  pub others : (k : ℕ) → k ≢ to → name_at new.moved k ≡ name_at old.moved k
  pub size : length new.moved ≡ length old.moved
  pub names : new.names ≡ old.names

abbrev pub CarriesName : Option Renaming → Option Renaming → ℕ → ℕ → Type 0
CarriesName None None from to = Unit {0}
CarriesName (Some old) (Some new) from to = CarriesNumber old new from to
CarriesName None (Some new) from to = ⊥
CarriesName (Some old) None from to = ⊥

-- What a collection is of: its phase, the state before it, the names that the heap keeps, and how many of the objects
-- that are found first registers hold.
pub record Collection : Type 0 where
  pub phase : Phase
  pub state : State
  pub names : Option Names
  pub held_count : ℕ

-- the word of an object after its header, so many words from that on, after the move
pub record PartMoves (c : Collection) (held : Bool) (f : ℕ → ℕ) (m : Relocation) (i word : ℕ) : Type 0 where
  pub header : i ≡ 0 → (header : Header) → HeaderAt c.state m.from header
      → word ≡ header_word (header_after c.phase held header)
  pub home : i ≡ 1 → word ≡ c.state.word (m.from + 1)
  pub slot : 2 ≤ i → i < 2 + m.shape.refs → WordMoves c.phase f (c.state.word (m.from + i)) word
  pub number : 2 + m.shape.refs ≤ i → word ≡ c.state.word (m.from + i)

-- The objects that were found are copied, one after the other. The first words of the copy, so many, are as the phase
-- leaves them, and the others as they were. Each old header of these objects is a reference to the copy, and no other
-- word of the space has changed.
pub record Evacuates (c : Collection) (space : SpaceWords) (to : ToSpace) (done : ℕ) : Type 0 where
  pub whole : IsWhole c.state
  pub holds : Relocates c.state (place_of to.moves) to.moves (to.next + 1)
  pub size : c.state.base.size ≡ length space.list
  pub free : c.state.free ≡ space.used + 1
  pub room : space.used ≤ length to.words.items
  pub within : done ≤ to.next
  pub forwarded : (a : ℕ) → place_of to.moves a ≢ 0 → word_at space a ≡ ref_word (Clean (place_of to.moves a))
  pub kept : (a : ℕ) → place_of to.moves a ≡ 0 → word_at space a ≡ c.state.word a
  pub moved : (k : ℕ) (m : Relocation) (i : ℕ) → slice_get to.moves k ≡ Some m → i < cost_of m.shape → m.to + i ≤ done
      → PartMoves c (nat_lt k c.held_count) (place_of to.moves) m i (word_numbered to.words.items (m.to + i))
  pub waiting : (k : ℕ) (m : Relocation) (i : ℕ) → slice_get to.moves k ≡ Some m → i < cost_of m.shape
      → done < m.to + i → word_numbered to.words.items (m.to + i) ≡ c.state.word (m.from + i)
  pub names : AreCarried c.names to.names to.moves
  pub made : NamesMade (length space.list) c.names

-- and the object at this address can be found
pub record EvacuatesAt (c : Collection) (space : SpaceWords) (to : ToSpace) (done address : ℕ) : Type 0 where
  pub evacuates : Evacuates c space to done
  pub reached : Reached c.state address

-- and the object that the word of a reference refers to, if it does
pub record EvacuatesFor (c : Collection) (space : SpaceWords) (to : ToSpace) (done word : ℕ) : Type 0 where
  pub evacuates : Evacuates c space to done
  pub reference : IsRefWord word
  pub reached : (address : ℕ) → RefersTo word address → Reached c.state address

-- and the words from there on, so many, are the slots of an object
pub record EvacuatesSlots (c : Collection) (phase : Phase) (space : SpaceWords) (to : ToSpace)
    (first refs : ℕ) : Type 0 where
  pub evacuates : Evacuates c space to first
  pub phase_is : c.phase ≡ phase
  pub index : ℕ
  pub move : Relocation
  pub at : slice_get to.moves index ≡ Some move
  pub place : first ≡ move.to + 1
  pub refs_are : move.shape.refs ≡ refs

-- and an object begins there, which is in a register or not
pub record EvacuatesNext (c : Collection) (phase : Phase) (held : Bool) (space : SpaceWords) (to : ToSpace)
    (done : ℕ) : Type 0 where
  pub evacuates : Evacuates c space to done
  pub phase_is : c.phase ≡ phase
  pub index : ℕ
  pub move : Relocation
  pub at : slice_get to.moves index ≡ Some move
  pub place : move.to ≡ done + 1
  pub held_is : held ≡ nat_lt index c.held_count

-- one object more is done
pub record ScansOne (c : Collection) (space : SpaceWords) (to : ToSpace) (done next : ℕ) (m : Relocation) : Type 0 where
  pub evacuates : Evacuates c space to next
  pub next_is : next ≡ done + cost_of m.shape

-- The objects that are done are the first ones. Registers hold the first objects, those up to this word.
pub record EvacuatesQueue (c : Collection) (phase : Phase) (held_words : ℕ) (space : SpaceWords) (to : ToSpace)
    (done : ℕ) : Type 0 where
  pub evacuates : Evacuates c space to done
  pub phase_is : c.phase ≡ phase
  pub count : ℕ
  pub count_within : count ≤ length to.moves
  pub done_is : done ≡ words_in (take count to.moves)
  pub held_within : c.held_count ≤ length to.moves
  pub held_is : held_words ≡ words_in (take c.held_count to.moves)

-- and the objects in these registers can be found
pub record EvacuatesHeld (c : Collection) (space : SpaceWords) (to : ToSpace) (register : ℕ → ℕ) : Type 0 where
  pub evacuates : Evacuates c space to 0
  pub reached : (r : ℕ) → register r ≢ 0 → Reached c.state (register r)

-- those in the registers of all threads
pub record EvacuatesThreads (c : Collection) (space : SpaceWords) (to : ToSpace) (held : List Registers) : Type 0 where
  pub evacuates : Evacuates c space to 0
  pub reached : (t r : ℕ) → register_in held t r ≢ 0 → Reached c.state (register_in held t r)

-- those to which these words refer
pub record EvacuatesIn (c : Collection) (phase : Phase) (space : SpaceWords) (to : ToSpace)
    (words : List ℕ) : Type 0 where
  pub evacuates : Evacuates c space to 0
  pub phase_is : c.phase ≡ phase
  pub references : (i : ℕ) → i < length words → IsRefWord (slice_index words i)
  pub reached : (i address : ℕ) → i < length words → RefersTo (slice_index words i) address → Reached c.state address

-- and those of these scions
pub record EvacuatesScions (c : Collection) (space : SpaceWords) (to : ToSpace) (table : Scions) : Type 0 where
  pub evacuates : Evacuates c space to 0
  pub reached : (k : ℕ) (pair : ℕ × ℕ) → scion_at table k ≡ Some pair → Reached c.state pair.1

-- Registers hold the new addresses of their objects.
pub record RegistersMove (moves : List Relocation) (old new : ℕ → ℕ) : Type 0 where
  pub each : (r : ℕ) → new r ≡ place_of moves (old r)
  pub found : (r : ℕ) → old r ≢ 0 → place_of moves (old r) ≢ 0

-- those of all threads
pub record ThreadsMove (moves : List Relocation) (old new : List Registers) : Type 0 where
  pub each : (t r : ℕ) → register_in new t r ≡ place_of moves (register_in old t r)
  pub found : (t r : ℕ) → register_in old t r ≢ 0 → place_of moves (register_in old t r) ≢ 0

-- each object that was found meanwhile is in one of these registers
abbrev pub FindsRegisters : List Relocation → List Relocation → (ℕ → ℕ) → Type 0
FindsRegisters old new register = (k : ℕ) (m : Relocation) → slice_get new k ≡ Some m
    → (slice_get old k ≡ Some m) ⊎ ((r : ℕ) × (register r ≡ m.from))

abbrev pub FindsThreads : List Relocation → List Relocation → List Registers → Type 0
FindsThreads old new held = (k : ℕ) (m : Relocation) → slice_get new k ≡ Some m
    → (slice_get old k ≡ Some m) ⊎ ((t : ℕ) × (r : ℕ) × (register_in held t r ≡ m.from))
