-- What it is to settle the objects of a heap that came back from a disk: each gets a scion, a Stub stands at its home,
-- its home word names both, and its forwarding word is empty.
use Rattle.std.specs.Prelude.{◌≡◌, ◌≢◌, ◌⊎◌, ℕ, ◌+◌, ◌<◌, ◌≤◌, zero, suc, nat_lt, List, [], length, count_by, take}
use Rattle.std.specs.Prelude.{slice_index}
use Rattle.std.specs.Prelude.{slice_set, Option, Some, IsSome}
use Rattle.melt_model.specs.declared.history.Entry.{Entry}
use Rattle.melt_word.specs.Words.{home_word}
use Rattle.melt_word.specs.declared.header.Header.{Header}
use Rattle.melt_forward.specs.Forwarding.{Sends}
use Rattle.melt_space.specs.Space.{SetsWord, word_at}
use Rattle.melt_io.specs.Outside.{counted}
use Rattle.melt_scion.specs.State.{HeaderAt}
use Rattle.melt_scion.specs.Placed.{Maps, MayHold, FormedWords, Tells}
use Rattle.melt_scion.specs.Scions.{IsTable, Adds, scion_at}
use Rattle.melt_scion.specs.Heaps.{OnDisk, Shows, HasMaps, TablesMade, state_of}
use Rattle.melt_scion.specs.declared.registers.Registers.{Registers}
use Rattle.melt_scion.specs.declared.heap.Heap.{Heap}

-- The words of the heap are well formed, with some maps and over some disk with this first word past all homes.
pub record IsFormedTo (heap : Heap) (end : ℕ) : Type 0 where
  pub maps : Maps
  pub disk : OnDisk
  pub ends : disk.end ≡ end
  pub names : HasMaps heap maps
  pub made : TablesMade heap
  pub formed : FormedWords maps (state_of heap [] disk)

-- a disk with these words
abbrev pub with_image : OnDisk → (ℕ → ℕ) → OnDisk
with_image disk image = record disk { image = image }

-- With these maps, the new heap stands over the disk, with the words that it has then, for what the old one stood for:
-- it is well formed, registers may hold what they held, objects keep their headers, and what was told still is.
pub record HasKept (maps : Maps) (disk : OnDisk) (held : List Registers) (old new : Heap)
    (after : Option (List ℕ)) : Type 0 where
  pub image : ℕ → ℕ
  pub shows : Shows after image
  pub names : HasMaps new maps
  pub formed : FormedWords maps (state_of new held (with_image disk image))
  pub holds : (address : ℕ) → MayHold maps (state_of old held disk) address
      → MayHold maps (state_of new held (with_image disk image)) address
  pub headers : (address n : ℕ) (header : Header) → maps.address address ≡ Some n
      → HeaderAt (state_of old held disk) address header
      → HeaderAt (state_of new held (with_image disk image)) address header
  pub tells : (h : List Entry) → Tells h maps (state_of old held disk)
      → Tells h maps (state_of new held (with_image disk image))

-- Whatever the heap stood for over a disk with these words before and after, and with this first word past all homes,
-- it stands for that still.
abbrev pub Keeps : Heap → Heap → ℕ → Option (List ℕ) → Option (List ℕ) → Type 0
Keeps old new end before after = (maps : Maps) (disk : OnDisk) (held : List Registers) → disk.end ≡ end
    → Shows before disk.image → HasMaps old maps → FormedWords maps (state_of old held disk)
    → HasKept maps disk held old new after

-- Where words were told, words still are. What they are is said elsewhere.
abbrev pub StillTold : Option (List ℕ) → Option (List ℕ) → Type 0
StillTold before after = IsSome before → IsSome after

-- The object at the address has its home by a live scion.
pub record HasLiveScion (heap : Heap) (home address : ℕ) : Type 0 where
  pub scion : ℕ
  pub live : scion_at heap.scions scion ≡ Some (home, address)
  pub word : word_at heap.space (address + 1) ≡ home_word (Some (record { home = home; scion = scion }))

-- One of the first forwarding words, those below the place, sends the home to the address.
pub record SendsBelow (heap : Heap) (place home address : ℕ) : Type 0 where
  pub at : ℕ
  pub below : at < place
  pub sends : Sends (slice_index heap.forward at) home address

-- The forwarding words below the place are settled. Nothing else changed: neither those from the place on and the home
-- words of their objects, nor any other word, nor scions that were live.
pub record SettlesBelow (old new : Heap) (place : ℕ) : Type 0 where
  pub empty : (p : ℕ) → p < place → slice_index new.forward p ≡ 0
  pub settled : (home address : ℕ) → SendsBelow old place home address → HasLiveScion new home address
  pub forwards : length new.forward ≡ length old.forward
  pub rest : (p : ℕ) → place ≤ p → slice_index new.forward p ≡ slice_index old.forward p
  pub rest_homes : (p home address : ℕ) → place ≤ p → Sends (slice_index old.forward p) home address
      → word_at new.space (address + 1) ≡ word_at old.space (address + 1)
  pub words : (k : ℕ) → ((home address : ℕ) → SendsBelow old place home address → k ≢ address + 1)
      → word_at new.space k ≡ word_at old.space k
  pub size : length new.space.list ≡ length old.space.list
  pub used : new.space.used ≡ old.space.used
  pub live : (k : ℕ) (pair : ℕ × ℕ) → scion_at old.scions k ≡ Some pair → scion_at new.scions k ≡ Some pair
  pub only : (k : ℕ) (pair : ℕ × ℕ) → scion_at new.scions k ≡ Some pair
      → (scion_at old.scions k ≡ Some pair) ⊎ SendsBelow old place pair.0 pair.1
  pub tables : TablesMade old → TablesMade new
  pub globals : new.globals ≡ old.globals
  pub names : new.names ≡ old.names
  pub maps : new.maps ≡ old.maps

-- how many of the forwarding words are filled
abbrev pub filled : List ℕ → ℕ
filled words = count_by (λ word. nat_lt 0 word) words

-- The counter counted so many more. Where it counted none, it is what it was.
abbrev pub RisesBy : ℕ → ℕ → ℕ → Type 0
RisesBy zero before after = after ≡ before
RisesBy (suc more) before after = after ≡ counted before (suc more)

-- All before one filled forwarding word are settled, by one write each, and the write for this one failed.
pub record StopsAtOne (old new : Heap) (writes_before writes_after : ℕ) : Type 0 where
  pub place : ℕ
  pub within : place < length old.forward
  pub is_filled : slice_index old.forward place ≢ 0
  pub settles : SettlesBelow old new place
  pub writes : writes_after ≡ counted writes_before (filled (take place old.forward) + 1)

-- How this crate settles one. Nothing above it names what follows.

-- The forwarding word at the place is settled, and nothing else changes.
pub record SettlesAt (old new : Heap) (place home address : ℕ) : Type 0 where
  pub scion : ℕ
  pub adds : Adds old.scions new.scions home address scion
  pub is_table : IsTable new.scions
  pub space : SetsWord old.space new.space (address + 1) (home_word (Some (record { home = home; scion = scion })))
  pub forward : new.forward ≡ slice_set old.forward place 0
  pub globals : new.globals ≡ old.globals
  pub names : new.names ≡ old.names
  pub maps : new.maps ≡ old.maps
