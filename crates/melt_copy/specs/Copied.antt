-- What was copied, and what is put back.
use Rattle.std.specs.Prelude.{◌≡◌, ◌≢◌, ℕ, suc, ◌+◌, ◌<◌, ◌≤◌, nat_lt, List, [], ◌∷◌, length, map, take, slice_get, slice_index}
use Rattle.std.specs.Prelude.{Option, None, Some}
use Rattle.melt_model.specs.declared.reports.Phase.{Phase}
use Rattle.melt_space.specs.Space.{SpaceWords, word_at}
use Rattle.melt_scion.specs.State.{Scion, State}
use Rattle.melt_scion.specs.Placed.{Maps, Formed}
use Rattle.melt_scion.specs.Names.{name_at}
use Rattle.melt_scion.specs.GhostMaps.{NamePairs, named}
use Rattle.melt_scion.specs.Heaps.{OnDisk, register_in, state_of}
use Rattle.melt_scion.specs.declared.registers.Registers.{Registers}
use Rattle.melt_scion.specs.declared.heap.Names.{Names}
use Rattle.melt_scion.specs.declared.heap.Heap.{Heap}
use Rattle.melt_copy.specs.declared.forwarding.Relocation.{Relocation}
use Rattle.melt_copy.specs.Moving.{IsWhole, Relocates, AreHeld, ObjectMoves, WordMoves, words_in, name_after}
use Rattle.melt_copy.specs.Tracking.{MovesScions, word_numbered}
use Rattle.melt_copy.specs.Evacuating.{place_of}

-- where a heap keeps names, the numbers are those of the objects that move
abbrev pub NumbersAre : Option Names → List Relocation → List (Option ℕ) → Type 0
NumbersAre None moves numbers = Unit {0}
NumbersAre (Some names) moves numbers = numbers ≡ map (λ (m : Relocation). name_at names.addresses m.from) moves

-- What was copied: which object went where, the words of the copies and of the globals, and how many words those of the
-- objects in registers are.
pub record Copied : Type 0 where
  pub moves : List Relocation
  pub words : List ℕ
  pub globals : List ℕ
  pub held : ℕ

-- Everything that can be reached was copied in this phase.
pub record IsCopied (phase : Phase) (s : State) (copied : Copied) : Type 0 where
  pub held_count : ℕ
  pub whole : IsWhole s
  pub holds : Relocates s (place_of copied.moves) copied.moves (length copied.words + 1)
  pub objects : (k : ℕ) (m : Relocation) → slice_get copied.moves k ≡ Some m
      → ObjectMoves phase (nat_lt k held_count) (place_of copied.moves) s (word_numbered copied.words) m
  pub globals_count : length copied.globals ≡ s.base.globals
  pub globals : (g : ℕ) → g < s.base.globals
      → WordMoves phase (place_of copied.moves) (s.global g) (slice_index copied.globals g)
  pub held : AreHeld s copied.moves held_count
  pub scions : (k : ℕ) (x : Scion) → s.base.scion k ≡ Some x → place_of copied.moves x.address ≢ 0
  pub held_words : copied.held ≡ words_in (take held_count copied.moves)

-- for each map and disk with which the heap is well formed
abbrev pub CopiesHeap : Phase → Heap → List Registers → Copied → Type 0
CopiesHeap phase heap held copied = (maps : Maps) (disk : OnDisk) → Formed maps (state_of heap held disk)
    → IsCopied phase (state_of heap held disk) copied

-- each move has a place of its own
abbrev pub PlacesApart : List Relocation → Type 0
PlacesApart moves =
    (i j : ℕ) (m n : Relocation) → slice_get moves i ≡ Some m → slice_get moves j ≡ Some n → m.to ≡ n.to → i ≡ j

-- the names can be given anew
pub record CanRename (used : ℕ) (names : Names) (moves : List Relocation) (numbers : List (Option ℕ)) : Type 0 where
  pub room : used ≤ length names.addresses
  pub after : (k : ℕ) → used < k → name_at names.addresses k ≡ None
  pub numbers_are : numbers ≡ map (λ (m : Relocation). name_at names.addresses m.from) moves
  pub places : (k : ℕ) (m : Relocation) → slice_get moves k ≡ Some m → (1 ≤ m.to) × (m.to ≤ used)
  pub apart : PlacesApart moves

abbrev pub MayRename : ℕ → Option Names → List Relocation → List (Option ℕ) → Type 0
MayRename used None moves numbers = PlacesApart moves
MayRename used (Some names) moves numbers = CanRename used names moves numbers

-- the pairs with one more, if there is a number
abbrev pub with_number : ℕ → Option ℕ → List (ℕ × ℕ) → List (ℕ × ℕ)
with_number address None pairs = pairs
with_number address (Some number) pairs = (address, number) ∷ pairs

-- the numbers of the objects that move, at their new addresses
abbrev pub moved_pairs : List (ℕ × ℕ) → List Relocation → List (ℕ × ℕ)
moved_pairs pairs [] = []
moved_pairs pairs (m ∷ moves) = with_number m.to (named pairs m.from) (moved_pairs pairs moves)

abbrev pub renamed_pairs : NamePairs → List Relocation → NamePairs
renamed_pairs pairs moves = record { addresses = moved_pairs pairs.addresses moves; homes = pairs.homes }

-- Names are those of the moved objects: those that the heap keeps, or else those that contracts have.
abbrev pub AreRenamed : Option Names → NamePairs → Option Names → NamePairs → List Relocation → Type 0
AreRenamed None old None new moves = new ≡ renamed_pairs old moves
AreRenamed (Some old) pairs (Some new) pairs_after moves =
    ((k : ℕ) → name_at new.addresses k ≡ name_after (name_at old.addresses) moves k)
    × (length new.addresses ≡ length old.addresses) × (new.homes ≡ old.homes)
AreRenamed None old (Some new) pairs moves = ⊥
AreRenamed (Some old) pairs None new moves = ⊥

-- These are the first words of the space, and those in use. It has as many words as it had.
pub record StandIn (old new : SpaceWords) (words : List ℕ) : Type 0 where
  pub front : (k : ℕ) → k < length words → word_at new (suc k) ≡ slice_index words k
  pub size : length new.list ≡ length old.list
  pub used : new.used ≡ length words

-- the heap and the registers are those that were copied
pub record IsPutBack (old new : Heap) (held held_after : List Registers) (copied : Copied) : Type 0 where
  pub space : StandIn old.space new.space copied.words
  pub globals : new.globals ≡ copied.globals
  pub registers : (t r : ℕ) → register_in held_after t r ≡ place_of copied.moves (register_in held t r)
  pub names : AreRenamed old.names old.maps new.names new.maps copied.moves
  pub scions : MovesScions (place_of copied.moves) old.scions new.scions
  pub forward : new.forward ≡ old.forward
