-- A new heap holds nothing, and so stands as one does between two events of an epoch.
use Rattle.std.proofs.Common.{ℕ, ◌^◌, ◌<◌, [], refl}
use Rattle.std.specs.Prelude.{Bool, false, None}
use Rattle.melt_scion.specs.Heaps.{IsNewHeap, no_homes_on, state_of}
use Rattle.melt_scion.specs.Placed.{Holds, Maps}
use Rattle.melt_scion.specs.declared.heap.Heap.{Heap}
use Rattle.melt_scion.proofs.Starting.{FormedWords_start, NoGaps_start, NoObjects, new_heap_empty}

-- no object has a number
abbrev pub no_objects : Maps
no_objects = record { address = λ a. None; home = λ home. None }

none_named : NoObjects no_objects
none_named = record { address = λ a. refl; home = λ home. refl }

pub new_heap_holds : (heap : Heap) (words globals forward : ℕ) (named : Bool) → words < 2 ^ 30
    → IsNewHeap words globals forward named heap → Holds false [] no_objects (state_of heap [] no_homes_on)
new_heap_holds heap words globals forward named small new =
    let empty = new_heap_empty heap [] words globals forward named small new in
    record {
      formed = FormedWords_start no_objects (state_of heap [] no_homes_on) none_named empty;
      no_gaps = NoGaps_start no_objects (state_of heap [] no_homes_on) none_named empty;
      tells = λ told. absurd (cc);
    }
