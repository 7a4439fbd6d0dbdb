-- How the words of an epoch are laid out from a heap and put back, and how seats are given to mutators and taken in.
use Rattle.std.specs.Prelude.{◌≡◌, ℕ, ◌+◌, ◌-◌, ◌<◌, ◌≤◌, List, [], ◌∷◌, ◌++◌, length, take, drop, min, Some, slice_index}
use Rattle.atomic_table.specs.declared.shared.Seat.{Seat}
use Rattle.melt_space.specs.Space.{SpaceWords}
use Rattle.melt_scion.specs.declared.heap.Heap.{Heap}
use Rattle.melt_rule.specs.Giving.{joined_view, spent_view}
use Rattle.melt_rule.specs.Rule.{first_view}
use Rattle.melt_rule.specs.Seats.{EpochWords, IsSeat, knows_of}
use Rattle.melt_rule.specs.Shown.{free_place, leading_words, globals_from}
use Rattle.melt_rule.specs.declared.began.Start.{Start}
use Rattle.melt_rule.specs.declared.view.View.{View}
use Rattle.melt_epoch.specs.declared.mutator.Mutator.{Mutator}

-- the stop word and the first free place, globals, forwarding words and the words of the space
abbrev pub words_of_heap : Heap → List ℕ
words_of_heap heap = leading_words 0 (heap.space.used + 1) ++ (heap.globals ++ (heap.forward ++ heap.space.list))

-- The words stand in the heap again, each where it came from: the globals, the forwarding words, and the words in use.
-- In use are those before the first free place, of the words that there are; nothing is said of the others.
pub record PutsBack (old new : Heap) (words : List ℕ) : Type 0 where
  pub globals : new.globals ≡ take (length old.globals) (drop globals_from words)
  pub forwards : new.forward ≡ take (length old.forward) (drop (globals_from + length old.globals) words)
  pub size : length new.space.list ≡ length old.space.list
  pub space : (k : ℕ) → k < new.space.used → slice_index new.space.list k
      ≡ slice_index words (globals_from + length old.globals + length old.forward + k)
  pub used : new.space.used ≡ min (slice_index words free_place - 1) (length old.space.list)
  pub scions : new.scions ≡ old.scions
  pub names : new.names ≡ old.names
  pub maps : new.maps ≡ old.maps

-- These words, so many from a place of theirs on, are the first of the space. Its others stay, and how many are in use.
pub record PutsFirst (old new : SpaceWords) (words : List ℕ) (from count : ℕ) : Type 0 where
  pub size : length new.list ≡ length old.list
  pub used : new.used ≡ old.used
  pub first : (k : ℕ) → k < count → slice_index new.list k ≡ slice_index words (from + k)
  pub after : (k : ℕ) → count ≤ k → slice_index new.list k ≡ slice_index old.list k

-- what the seat of a thread knows at the beginning
abbrev pub fresh_view : Start → ℕ → View
fresh_view start t = record (first_view start) { parts = 1; thread = t; away = [] }

-- The mutator has such a seat.
pub record IsGiven {R : Type 0} (words : EpochWords) (m : Mutator R) : Type 0 where
  pub seat : Seat ℕ View
  pub there : m.seat ≡ Some seat
  pub is : IsSeat words seat
  pub knows : knows_of seat ≡ fresh_view words.start m.thread

-- the view of a seat that took in seats with these views, one after the other
abbrev pub gathered : View → List View → View
gathered v [] = v
gathered v (w ∷ ws) = gathered (joined_view v w) ws

-- and that of the first of all seats
abbrev pub gathered_all : List View → View
gathered_all [] = spent_view
gathered_all (v ∷ vs) = gathered v vs
