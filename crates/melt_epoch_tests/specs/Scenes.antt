-- What a heap over a disk needs where an epoch begins, and what holds within one, whatever the disk tells.
use Rattle.std.specs.Prelude.{◌≡◌, ℕ, ◌^◌, ◌≤◌, List, [], ◌∷◌, Option, None, Some, length, replicate}
use Rattle.melt_model.specs.declared.history.Value.TheVariants.{Nil}
use Rattle.melt_scion.specs.Heaps.{AreScionsFor, IsSettled}
use Rattle.melt_scion.specs.declared.heap.Heap.{Heap}
use Rattle.melt_epoch.specs.Tests.{HasBegun}
use Rattle.melt_epoch.specs.declared.epoch.Epoch.{Epoch}
use Rattle.melt_epoch.specs.declared.mutator.Mutator.{Mutator}

-- The heap keeps no names, no object came back to it since the last collection, and it has few enough globals and
-- forwarding words.
pub record IsReadyHeap (heap : Heap) : Type 0 where
  pub nameless : heap.names ≡ None
  pub few_globals : length heap.globals ≤ 255
  pub few_forwards : length heap.forward ≤ 2 ^ 16
  pub settled : IsSettled heap

-- The mutator of the thread has a reader. It takes part in no epoch, and nothing is in its registers.
pub record IsNewMutator {R : Type 0} (thread : ℕ) (m : Mutator R) : Type 0 where
  pub thread_is : m.thread ≡ thread
  pub unseated : m.seat ≡ None
  pub reader : R
  pub there : m.reader ≡ Some reader
  pub registers : m.registers.regs ≡ replicate 16 0
  pub values : m.values ≡ replicate 16 Nil

-- they are new, and those of these threads
abbrev pub AreNew : {R : Type 0} → List ℕ → List (Mutator R) → Type 0
AreNew [] [] = Unit {0}
AreNew [] (m ∷ ms) = ⊥
AreNew (t ∷ ts) [] = ⊥
AreNew (t ∷ ts) (m ∷ ms) = IsNewMutator t m × AreNew ts ms

-- The epoch is that of a heap with so many globals, over a disk on which homes end before the word. All mutators take
-- part in it.
pub record GoesOnScene {R : Type 0} (image : R → Option (List ℕ)) (epoch : Epoch) (ms : List (Mutator R))
    (globals end : ℕ) : Type 0 where
  pub begun : HasBegun image epoch.words ms
  pub globals_is : globals ≡ epoch.words.start.began.globals
  pub end_is : epoch.words.start.began.end ≡ end
  pub scions : AreScionsFor epoch.words.start.began.size epoch.words.start.began.scions
