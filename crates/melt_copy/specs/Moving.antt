-- How a copying collection moves objects: which objects go where, and what their words become.
use Rattle.std.specs.Prelude.{◌≡◌, ◌≢◌, ℕ, ◌+◌, ◌^◌, ◌<◌, ◌≤◌, ◌==◌, nat_lt, Bool, true, if◌then◌else◌, List, [], ◌∷◌}
use Rattle.std.specs.Prelude.{map, sum, take, slice_get, Option, None, Some}
use Rattle.melt_model.specs.declared.reports.Phase.{Phase}
use Rattle.melt_model.specs.declared.reports.Phase.TheVariants.{Inactive, Mark, Move}
use Rattle.melt_word.specs.Words.{IsRef, ref_word, header_word, cost_of}
use Rattle.melt_word.specs.declared.reference.Ref.{Ref}
use Rattle.melt_word.specs.declared.reference.Ref.TheVariants.{Null, Clean, Stale, Disk}
use Rattle.melt_word.specs.declared.header.Header.{Header}
use Rattle.std.specs.Option.{option_map}
use Rattle.melt_scion.specs.State.{Scion, State, HeaderAt, ObjectAt, Reached}
use Rattle.melt_scion.specs.Placed.{Maps}
use Rattle.melt_scion.specs.Moves.{kept_tag}
use Rattle.melt_scion.specs.Settles.{SameSizes, SameHomes}
use Rattle.melt_copy.specs.declared.forwarding.Relocation.{Relocation}

-- the word is that of a reference
pub record IsRefWord (word : ℕ) : Type 0 where
  pub reference : Ref
  pub in_range : IsRef reference
  pub is : word ≡ ref_word reference

-- What can be reached is whole: objects lie within the words in use and apart from each other, and the words that
-- are to be references are.
pub record IsWhole (s : State) : Type 0 where
  pub small : s.base.size < 2 ^ 30
  pub inside : s.free ≤ s.base.size + 1
  pub objects : (address : ℕ) → Reached s address → (header : Header) × ObjectAt s address header
  pub apart : (a b : ℕ) (header : Header) → Reached s a → Reached s b → HeaderAt s a header → a < b
      → a + cost_of header.shape ≤ b
  pub slots : (address i : ℕ) (header : Header) → Reached s address → HeaderAt s address header → i < header.shape.refs
      → IsRefWord (s.word (address + 2 + i))
  pub globals : (g : ℕ) → g < s.base.globals → IsRefWord (s.global g)

-- how many words these objects take
abbrev pub words_in : List Relocation → ℕ
words_in moves = sum (map (λ (m : Relocation). cost_of m.shape) moves)

-- an object that can be reached, and its shape
pub record IsRelocation (s : State) (m : Relocation) : Type 0 where
  pub reached : Reached s m.from
  pub header : Header
  pub starts : HeaderAt s m.from header
  pub shape : header.shape ≡ m.shape

-- Each object that was found has its place, one after the other from word 1 on; `f` tells the new address of an
-- object that was found, and 0 for every other address.
pub record Relocates (s : State) (f : ℕ → ℕ) (moves : List Relocation) (free : ℕ) : Type 0 where
  pub whole : (k : ℕ) (m : Relocation) → slice_get moves k ≡ Some m → IsRelocation s m
  pub found : (k : ℕ) (m : Relocation) → slice_get moves k ≡ Some m → f m.from ≡ m.to
  pub only : (address : ℕ) → f address ≢ 0 → (k : ℕ) × (m : Relocation) × (slice_get moves k ≡ Some m)
      × (m.from ≡ address)
  pub places : (k : ℕ) (m : Relocation) → slice_get moves k ≡ Some m → m.to ≡ 1 + words_in (take k moves)
  pub after : free ≡ 1 + words_in moves

-- a reference after the move
abbrev pub moved : Phase → (ℕ → ℕ) → Ref → Ref
moved phase f Null = Null
moved phase f (Clean address) = kept_tag phase (f address)
moved phase f (Stale address) = Stale (f address)
moved phase f (Disk home) = Disk home

-- the object of the reference was found, if it has one in the space
abbrev pub IsFound : (ℕ → ℕ) → Ref → Type 0
IsFound f Null = Unit {0}
IsFound f (Clean address) = f address ≢ 0
IsFound f (Stale address) = f address ≢ 0
IsFound f (Disk home) = Unit {0}

-- the word of a reference becomes that of the moved one
pub record WordMoves (phase : Phase) (f : ℕ → ℕ) (old new : ℕ) : Type 0 where
  pub reference : Ref
  pub in_range : IsRef reference
  pub was : old ≡ ref_word reference
  pub found : IsFound f reference
  pub is : new ≡ ref_word (moved phase f reference)

-- the stale bit of an object after the move, by whether a register holds the object
abbrev pub stale_after : Phase → Bool → Bool → Bool
stale_after Inactive held stale = stale
stale_after Mark held stale = if held then stale else true
stale_after Move held stale = if held then stale else true

-- the header of an object after the move
abbrev pub header_after : Phase → Bool → Header → Header
header_after phase held header = record { shape = header.shape; stale = stale_after phase held header.stale }

-- An object stands at its place in these words, with its references moved, its stale bit as the phase leaves it, and
-- all other words as they were.
pub record ObjectMoves (phase : Phase) (held : Bool) (f : ℕ → ℕ) (s : State) (word : ℕ → ℕ)
    (m : Relocation) : Type 0 where
  pub header : (header : Header) → HeaderAt s m.from header → word m.to ≡ header_word (header_after phase held header)
  pub home : word (m.to + 1) ≡ s.word (m.from + 1)
  pub slots : (i : ℕ) → i < m.shape.refs → WordMoves phase f (s.word (m.from + 2 + i)) (word (m.to + 2 + i))
  pub numbers : (j : ℕ) → j < m.shape.nums → word (m.to + 2 + m.shape.refs + j) ≡ s.word (m.from + 2 + m.shape.refs + j)

-- The first moves, as many as `held_count`, are those of the objects in registers.
pub record AreHeld (s : State) (moves : List Relocation) (held_count : ℕ) : Type 0 where
  pub each : (k : ℕ) (m : Relocation) → slice_get moves k ≡ Some m → k < held_count
      → (t : ℕ) × (r : ℕ) × (s.register t r ≡ m.from)
  pub all : (t r : ℕ) → s.register t r ≢ 0 → (k : ℕ) × (m : Relocation) × (slice_get moves k ≡ Some m)
      × (k < held_count)
      × (m.from ≡ s.register t r)

-- The objects that were found stand at their places in the second state, with the headers that the phase leaves. The
-- first ones are those in registers.
pub record Carries (phase : Phase) (s t : State) (f : ℕ → ℕ) (moves : List Relocation) (held_count : ℕ) : Type 0 where
  pub whole : IsWhole s
  pub found : Relocates s f moves t.free
  pub header : (k : ℕ) (m : Relocation) (header : Header) → slice_get moves k ≡ Some m → HeaderAt s m.from header
      → t.word m.to ≡ header_word (header_after phase (nat_lt k held_count) header)
  pub held : AreHeld s moves held_count
  pub size : t.base.size ≡ s.base.size

-- a scion whose object moved
abbrev pub moved_scion : (ℕ → ℕ) → Scion → Scion
moved_scion f x = record { home = x.home; address = f x.address }

-- The second state is a copy of what can be reached in the first, with the marks that the phase leaves. The disk is as
-- it was, and no forwarding word is filled.
pub record IsCopy (phase : Phase) (s t : State) (f : ℕ → ℕ) (moves : List Relocation) (held_count : ℕ) : Type 0 where
  pub found : Relocates s f moves t.free
  pub objects : (k : ℕ) (m : Relocation) → slice_get moves k ≡ Some m → ObjectMoves phase (nat_lt k held_count) f s
      t.word m
  pub global : (g : ℕ) → g < s.base.globals → WordMoves phase f (s.global g) (t.global g)
  pub register : (u r : ℕ) → t.register u r ≡ f (s.register u r)
  pub held : AreHeld s moves held_count
  pub scions_found : (k : ℕ) (x : Scion) → s.base.scion k ≡ Some x → f x.address ≢ 0
  pub scion : (k : ℕ) → t.base.scion k ≡ option_map (moved_scion f) (s.base.scion k)
  pub sizes : SameSizes s.base t.base
  pub homes : SameHomes s.base t.base
  pub image : (k : ℕ) → t.base.image k ≡ s.base.image k
  pub settled : (p : ℕ) → s.forward p ≡ 0
  pub forward : (p : ℕ) → t.forward p ≡ 0

-- the number of the object that moves to an address
abbrev pub name_after : (ℕ → Option ℕ) → List Relocation → ℕ → Option ℕ
name_after name [] address = None
name_after name (m ∷ moves) address = if m.to == address then name m.from else name_after name moves address

-- the maps after the moves
abbrev pub maps_after : Maps → List Relocation → Maps
maps_after maps moves = record { address = name_after maps.address moves; home = maps.home }
