-- The names that are made of the maps of a heap that keeps none are those of the heap.
use Rattle.std.proofs.Common.{◌≡◌, ℕ, length, refl, sym, subst}
use Rattle.std.specs.Prelude.{Option, None, Some}
use Rattle.melt_scion.specs.Heaps.{HasMaps, HasNames, NamesMade}
use Rattle.melt_scion.specs.Placed.{Maps}
use Rattle.melt_scion.specs.declared.heap.Names as name_table
use Rattle.melt_scion.specs.declared.heap.Heap.{Heap}
use Rattle.melt_core.specs.Views.{maps_of, names_for}
use Rattle.melt_core.proofs.Nameless.{along_length, homes_are, is_none, names_are}
use Rattle.melt_safepoint.specs.Resting.{NamesHeap}
use Rattle.melt_safepoint.proofs.Collecting.{same_maps}
use Rattle.melt_pool.specs.Parts.{IsNameless}

-- the names that are made for a heap without names are its own
pub names_hold : (heap : Heap) → IsNameless heap
    → NamesHeap heap (Some (names_for (length heap.space.list) heap.maps))
names_hold heap is =
    let none : heap.names ≡ None = is_none heap.names is.nameless in
    let words : ℕ = length heap.space.list in
    record {
      named = refl;
      room = along_length heap.maps.addresses words 1;
      has = subst (λ (o : Option name_table.Names). HasNames o heap.maps (maps_of (Some (names_for words heap.maps))))
          (sym none) (names_are heap.maps.addresses words is.within, homes_are heap.maps.homes);
      made = subst (NamesMade words) (sym none) tt;
    }

-- so they are whatever the heap has
pub names_of_heap : (heap : Heap) (m : Maps) → IsNameless heap → HasMaps heap m
    → maps_of (Some (names_for (length heap.space.list) heap.maps)) ≡ m
names_of_heap heap m is has =
    same_maps heap.names heap.maps (maps_of (Some (names_for (length heap.space.list) heap.maps))) m
    (names_hold heap is).has has
