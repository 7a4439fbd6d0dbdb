-- What a heap, the scions over it and the disk under it are to the refinement, and what may be reached.
use Rattle.std.specs.Prelude.{◌≡◌, ◌≢◌, ℕ, ◌+◌, ◌<◌, ◌≤◌, false, List, [], ◌∷◌, Option, None, Some, slice_get}
use Rattle.melt_word.specs.Words.{IsRef, ref_word, IsHeader, header_word, cost_of}
use Rattle.melt_word.specs.declared.reference.Ref.{Ref}
use Rattle.melt_word.specs.declared.reference.Ref.TheVariants.{Null, Clean, Stale, Disk}
use Rattle.melt_word.specs.declared.header.Shape.{Shape}
use Rattle.melt_word.specs.declared.header.Header.{Header}
use Rattle.melt_forward.specs.Forwarding.{Sends, probe}

-- what a scion names: a home, and the address of the object that has it
pub record Scion : Type 0 where
  pub home : ℕ
  pub address : ℕ

-- a home on disk, and the shape for which it was reserved
pub record Home : Type 0 where
  pub at : ℕ
  pub shape : Shape

-- What no event of a thread changes: how many words, globals and forwarding words there are; the live scions; the first
-- word on disk past all homes; all homes in ascending order, and those of them that are free; and the words on disk.
pub record Base : Type 0 where
  pub size : ℕ
  pub globals : ℕ
  pub forwards : ℕ
  pub scion : ℕ → Option Scion
  pub end : ℕ
  pub homes : List Home
  pub free_homes : List ℕ
  pub image : ℕ → ℕ

-- Words by their addresses, from 1 to the size; the first free place; globals and forwarding words by their numbers;
-- and what registers hold, by thread and number, where 0 is none.
pub record State : Type 0 where
  pub base : Base
  pub free : ℕ
  pub word : ℕ → ℕ
  pub global : ℕ → ℕ
  pub forward : ℕ → ℕ
  pub register : ℕ → ℕ → ℕ

-- the word at the address is that of this header
pub record HeaderAt (s : State) (address : ℕ) (header : Header) : Type 0 where
  pub in_range : IsHeader header
  pub word : s.word address ≡ header_word header

-- an object with this header starts at the address, and lies within the words and below the first free place
pub record ObjectAt (s : State) (address : ℕ) (header : Header) : Type 0 where
  pub starts : HeaderAt s address header
  pub first : 1 ≤ address
  pub within : address + cost_of header.shape ≤ s.base.size + 1
  pub below : address + cost_of header.shape ≤ s.free

-- a register holds the address
pub record HoldsAt (s : State) (address : ℕ) : Type 0 where
  pub thread : ℕ
  pub register : ℕ
  pub holds : s.register thread register ≡ address

-- the object at the address has no stale bit
abbrev pub IsFresh : State → ℕ → Type 0
IsFresh s address = (header : Header) → HeaderAt s address header → header.stale ≡ false

-- a forwarding word sends the home to the address
pub record Forwards (s : State) (home address : ℕ) : Type 0 where
  pub place : ℕ
  pub within : place < s.base.forwards
  pub sends : Sends (s.forward place) home address

-- Within an epoch: before the place of a word that sends a home, in the order in which that home is searched for, no
-- word is empty. So the first empty word ends a search.
pub record NoGaps (s : State) : Type 0 where
  pub filled : (home address k i : ℕ) → k < s.base.forwards
      → Sends (s.forward (probe home s.base.forwards k)) home address → i < k
      → s.forward (probe home s.base.forwards i) ≢ 0

-- the homes stand one after the other, from this word on to the end
abbrev pub Follow : ℕ → List Home → ℕ → Type 0
Follow from [] end = from ≡ end
Follow from (home ∷ homes) end = (home.at ≡ from) × Follow (from + cost_of home.shape) homes end

-- the home was reserved for the shape
pub record IsReserved (homes : List Home) (home : ℕ) (shape : Shape) : Type 0 where
  pub index : ℕ
  pub is : slice_get homes index ≡ Some (record { at = home; shape = shape })

-- the address in a reference, if it has one
abbrev pub address_in : Ref → Option ℕ
address_in Null = None
address_in (Clean address) = Some address
address_in (Stale address) = Some address
address_in (Disk home) = None

-- the word is that of a reference by this address, clean or stale
pub record RefersTo (word address : ℕ) : Type 0 where
  pub reference : Ref
  pub in_range : IsRef reference
  pub is : word ≡ ref_word reference
  pub at : address_in reference ≡ Some address

-- What a collection finds: the objects in registers, those in globals, those of live scions, and those in slots of
-- objects that it found.
pub data Reached (s : State) : ℕ → Type 0 where
  in_register : (t r address : ℕ) → s.register t r ≡ address → 1 ≤ address → Reached s address
  in_global : (g address : ℕ) → g < s.base.globals → RefersTo (s.global g) address → Reached s address
  at_scion : (k : ℕ) → (x : Scion) → s.base.scion k ≡ Some x → Reached s x.address
  in_slot : (from i address : ℕ) → (header : Header) → Reached s from → HeaderAt s from header → i < header.shape.refs
      → RefersTo (s.word (from + 2 + i)) address → Reached s address
