-- Spaces and heaps that tests build of given words.
use Rattle.std.specs.Prelude.{◌≡◌, ◌<◌, ◌/◌, ℕ, suc, List, Option, Some, length, slice_index}
use Rattle.std.specs.FinMap.{empty}
use Rattle.melt_space.specs.Space.{SpaceWords, word_at}
use Rattle.melt_scion.specs.HomeNames.{NamedHomes}
use Rattle.melt_scion.specs.Scions.{empty_table}
use Rattle.melt_scion.specs.declared.heap.Heap.{Heap}

-- a space of so many words, of which these are in use
pub record IsSpaceOf (count : ℕ) (words : List ℕ) (space : SpaceWords) : Type 0 where
  pub size : length space.list ≡ count
  pub used : space.used ≡ length words
  pub each : (k : ℕ) → k < length words → word_at space (suc k) ≡ slice_index words k

-- A heap of so many words, of which these are in use. The objects at addresses have these numbers, no home has one, and
-- no scion is live.
pub record IsHeapOf (count : ℕ) (words : List ℕ) (addresses : List (Option ℕ)) (globals forward : List ℕ)
    (heap : Heap) : Type 0 where
  pub space : IsSpaceOf count words heap.space
  pub scions : heap.scions ≡ empty_table (count / 2)
  pub globals_are : heap.globals ≡ globals
  pub forward_are : heap.forward ≡ forward
  pub homes : NamedHomes
  pub no_homes : homes.names ≡ empty
  pub names : heap.names ≡ Some (record { addresses = addresses; homes = homes })
