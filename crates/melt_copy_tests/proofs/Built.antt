-- What is known of a heap that was built of given words.
use Rattle.std.proofs.Common.{◌≡◌, ℕ, ◌<◌, suc, List, length, sym, subst, ap, ◌∙◌, arith, refl, []}
use Rattle.std.specs.Prelude.{Option, None, slice_index}
use Rattle.std.specs.FinMap.{FinMap, get, get-empty}
use Rattle.std.specs.Ordering.{nat_cmp}
use Rattle.melt_space.specs.Space.{SpaceWords, word_at}
use Rattle.melt_scion.specs.Placed.{Maps}
use Rattle.melt_scion.specs.Names.{name_at}
use Rattle.melt_scion.specs.Heaps.{HasMaps, HasNames, TablesMade, NamesMade, AreScionsFor, IsSettled}
use Rattle.melt_scion.specs.declared.heap.Names as heap
use Rattle.melt_scion.specs.declared.heap.Heap.{Heap}
use Rattle.melt_scion.proofs.Tables.{scions_made}
use Rattle.melt_copy_tests.specs.Built.{IsSpaceOf, IsHeapOf}

-- each of the words, where it is known what these are
pub word_is : (count : ℕ) (words wanted : List ℕ) (space : SpaceWords) → IsSpaceOf count words space → words ≡ wanted
    → (k : ℕ) → k < length wanted → word_at space (suc k) ≡ slice_index wanted k
word_is count words wanted space of same k below =
    of.each k (omega (arith, ap length same, below)) ∙ ap (λ (l : List ℕ). slice_index l k) same

-- the numbers of the objects at addresses, where no home has one
abbrev pub maps_of : List (Option ℕ) → Maps
maps_of names = record { address = name_at names; home = λ k. None }

module _ (count : ℕ) (words : List ℕ) (names : List (Option ℕ)) (globals forward : List ℕ) (h : Heap)
    (of : IsHeapOf count words names globals forward h) where
  pub heap_maps : HasMaps h (maps_of names)
  heap_maps = subst (λ (o : Option heap.Names). HasNames o h.maps (maps_of names)) (sym of.names)
      (λ k. refl, λ k. sym (ap (λ (m : FinMap nat_cmp ℕ). get m k) of.no_homes ∙ get-empty {X = ℕ} nat_cmp k))

  pub heap_tables : length names ≡ count → TablesMade h
  heap_tables size = record {
    scions = subst (λ (n : ℕ). AreScionsFor n h.scions) (sym of.space.size) (scions_made count h.scions of.scions);
    names = subst (NamesMade (length h.space.list)) (sym of.names) (size ∙ sym of.space.size);
  }

  pub heap_settled : forward ≡ [] → IsSettled h
  heap_settled none p = ap (λ (xs : List ℕ). slice_index xs p) (of.forward_are ∙ none)
