-- The names of a heap that keeps none, after objects were moved: contracts have them as pairs.
use Rattle.std.proofs.Common.{◌≡◌, ◌≢◌, ℕ, suc, eqb, List, [], ◌∷◌, refl, sym, ◌∙◌, arith, inl, inr}
use Rattle.std.specs.Prelude.{slice_get, Option, None, Some}
use Rattle.std.proofs.lemmas.Bool.{cases_eq, eq-eqb, ne_eqb, cond-true, cond-false}
use Rattle.melt_scion.specs.GhostMaps.{named}
use Rattle.melt_copy.specs.declared.forwarding.Relocation.{Relocation}
use Rattle.melt_copy.specs.Moving.{name_after}
use Rattle.melt_copy.specs.Copied.{PlacesApart, with_number, moved_pairs}

-- a pair with another key
passed : (to k : ℕ) (o : Option ℕ) (pairs : List (ℕ × ℕ)) → to ≢ k → named (with_number to o pairs) k ≡ named pairs k
passed to k None pairs other = refl
passed to k (Some n) pairs other = cond-false (eqb to k) (Some n) (named pairs k) (ne_eqb to k other)

-- the pair with this key, or none after which none is either
hit : (to k : ℕ) (o : Option ℕ) (pairs : List (ℕ × ℕ)) → to ≡ k → named pairs k ≡ None
    → named (with_number to o pairs) k ≡ o
hit to k None pairs same none = none
hit to k (Some n) pairs same none = cond-true (eqb to k) (Some n) (named pairs k) (eq-eqb to k same)

-- an address to which no object moves has no pair
unpaired : (pairs : List (ℕ × ℕ)) (moves : List Relocation) (k : ℕ)
    → ((j : ℕ) (m : Relocation) → slice_get moves j ≡ Some m → m.to ≢ k) → named (moved_pairs pairs moves) k ≡ None
unpaired pairs [] k free = refl
unpaired pairs (m ∷ moves) k free =
    passed m.to k (named pairs m.from) (moved_pairs pairs moves) (free 0 m refl)
    ∙ unpaired pairs moves k (λ j x at. free (suc j) x at)

apart_after : (m : Relocation) (moves : List Relocation) → PlacesApart (m ∷ moves) → PlacesApart moves
apart_after m moves apart i j x y first second same =
    let both = apart (suc i) (suc j) x y first second same in omega (arith, both)

-- the pairs after the moves say what the names do
pub pairs_after : (pairs : List (ℕ × ℕ)) (moves : List Relocation) (k : ℕ) → PlacesApart moves
    → named (moved_pairs pairs moves) k ≡ name_after (named pairs) moves k
pairs_after pairs [] k apart = refl
pairs_after pairs (m ∷ moves) k apart = elim (cases_eq m.to k) [
  | inl same ↦
      hit m.to k (named pairs m.from) (moved_pairs pairs moves) same
      (unpaired pairs moves k (λ j x at there.
      let both = apart 0 (suc j) m x refl at (same ∙ sym there) in omega (arith, both)))
      ∙ sym (cond-true (eqb m.to k) (named pairs m.from) (name_after (named pairs) moves k) (eq-eqb m.to k same))
  | inr other ↦
      passed m.to k (named pairs m.from) (moved_pairs pairs moves) other
      ∙ (pairs_after pairs moves k (apart_after m moves apart)
      ∙ sym (cond-false (eqb m.to k) (named pairs m.from) (name_after (named pairs) moves k) (ne_eqb m.to k other)))
]
