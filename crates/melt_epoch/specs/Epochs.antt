-- What an epoch keeps beside its words.
use Rattle.std.specs.Prelude.{◌≡◌, ℕ, ◌^◌, ◌<◌, ◌≤◌, length, Some}
use Rattle.melt_scion.specs.Heaps.{scion_in}
use Rattle.melt_scion.specs.declared.heap.Heap.{Heap}
use Rattle.melt_scion.specs.declared.heap.Names.{Names}
use Rattle.melt_rule.specs.Seats.{EpochWords}

-- The heap that was handed in has as many words, globals and forwarding words as the epoch, and its scions, each of
-- which names an address of the space. It keeps no names. The end is that of the disk.
pub record Fits (words : EpochWords) (heap : Heap) (end : ℕ) : Type 0 where
  pub size : length heap.space.list ≡ words.start.began.size
  pub globals : length heap.globals ≡ words.start.began.globals
  pub forwards : length heap.forward ≡ words.start.began.forwards
  pub few : length heap.forward < 2 ^ 32
  pub scions : heap.scions ≡ words.start.began.scions
  pub reach : (scion home address : ℕ) → scion_in heap.scions scion ≡ Some (record { home = home; address = address })
      → address ≤ words.start.began.size
  pub nameless : (names : Names) → heap.names ≡ Some names → ⊥
  pub ends : end ≡ words.start.began.end
