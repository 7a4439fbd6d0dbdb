-- What a collection finds before it decides which objects stay.
use Rattle.std.specs.Prelude.{◌≡◌, ◌≢◌, ℕ, ◌+◌, ◌<◌, List, length, take, slice_get, slice_index, Some}
use Rattle.melt_space.specs.Space.{SpaceWords}
use Rattle.melt_scion.specs.State.{State, RefersTo, Reached}
use Rattle.melt_scion.specs.Placed.{Maps, Formed}
use Rattle.melt_scion.specs.Heaps.{OnDisk, state_of}
use Rattle.melt_scion.specs.declared.registers.Registers.{Registers}
use Rattle.melt_scion.specs.declared.heap.Heap.{Heap}
use Rattle.melt_copy.specs.declared.forwarding.Relocation.{Relocation}
use Rattle.melt_copy.specs.declared.live.LiveSet.{LiveSet}
use Rattle.melt_copy.specs.Moving.{IsWhole, Relocates, AreHeld, words_in}
use Rattle.melt_copy.specs.Tracking.{Tracks, goes}

-- The objects in registers were found, and no others were yet.
pub record IsHeldAlone (space : SpaceWords) (s : State) (live : LiveSet) : Type 0 where
  pub tracks : Tracks space s live.forwarding
  pub held : AreHeld s live.forwarding.moves.items live.held_count
  pub held_count : live.held_count ≡ length live.forwarding.moves.items
  pub held_words : live.held_words ≡ words_in live.forwarding.moves.items

-- for each map and disk with which the heap is well formed
abbrev pub FindsHeldAlone : Heap → List Registers → LiveSet → Type 0
FindsHeldAlone heap held live = (maps : Maps) (disk : OnDisk) → Formed maps (state_of heap held disk)
    → IsHeldAlone heap.space (state_of heap held disk) live

-- the objects to which these words refer were found
abbrev pub FindsWords : (ℕ → ℕ) → List ℕ → Type 0
FindsWords f words = (i address : ℕ) → i < length words → RefersTo (slice_index words i) address → f address ≢ 0

-- those to which the slots of an object refer
abbrev pub FindsSlots : State → (ℕ → ℕ) → Relocation → Type 0
FindsSlots s f m = (i address : ℕ) → i < m.shape.refs → RefersTo (s.word (m.from + 2 + i)) address → f address ≢ 0

-- those to which the slots of all these objects refer
abbrev pub FindsAll : State → (ℕ → ℕ) → List Relocation → Type 0
FindsAll s f moves = (k : ℕ) (m : Relocation) → slice_get moves k ≡ Some m → FindsSlots s f m

-- Each object that can be reached was found, and no other; the first ones are those in registers.
pub record IsLiveSet (s : State) (live : LiveSet) : Type 0 where
  pub whole : IsWhole s
  pub found : Relocates s (goes live.forwarding) live.forwarding.moves.items live.forwarding.next
  pub all : (address : ℕ) → Reached s address → goes live.forwarding address ≢ 0
  pub held : AreHeld s live.forwarding.moves.items live.held_count
  pub held_words : live.held_words ≡ words_in (take live.held_count live.forwarding.moves.items)

-- for each map and disk with which the heap is well formed
abbrev pub ReachesLive : Heap → List Registers → LiveSet → Type 0
ReachesLive heap held live = (maps : Maps) (disk : OnDisk) → Formed maps (state_of heap held disk)
    → IsLiveSet (state_of heap held disk) live
