-- The pairs of the maps after an epoch.
use Rattle.std.proofs.Common.{◌≡◌, ◌⊎◌, ℕ, zero, suc, eqb, List, [], ◌∷◌, ◌++◌}
use Rattle.std.proofs.Common.{map, refl, sym, ◌∙◌, ap, inl, inr}
use Rattle.std.proofs.lemmas.Bool.{cases_eq, eq-eqb, ne_eqb, cond-true, cond-false}
use Rattle.std.specs.Prelude.{Option, None, Some}
use lib.ListN.{get_elem?}
use mathlib.Core.Option.{some, some-injective, some-ne-none}
use Rattle.melt_scion.specs.GhostMaps.{named}
use Rattle.melt_rule.specs.Rule.{Has}
use Rattle.melt_rule.specs.declared.began.Pair.{Pair}

-- the old pairs, and those that are known
abbrev pub pair_of : Pair → ℕ × ℕ
pair_of p = (p.address, p.object)

abbrev pub pairs_with : List Pair → List (ℕ × ℕ) → List (ℕ × ℕ)
pairs_with known old = map pair_of known ++ old

here_named : (p : Pair) (ps : List Pair) (old : List (ℕ × ℕ)) (a : ℕ) → p.address ≡ a
    → named (pairs_with (p ∷ ps) old) a ≡ Some p.object
here_named p ps old a same =
    cond-true (eqb p.address a) (Some p.object) (named (pairs_with ps old) a) (eq-eqb p.address a same)

else_named : (p : Pair) (ps : List Pair) (old : List (ℕ × ℕ)) (a : ℕ) → (p.address ≡ a → ⊥)
    → named (pairs_with (p ∷ ps) old) a ≡ named (pairs_with ps old) a
else_named p ps old a other =
    cond-false (eqb p.address a) (Some p.object) (named (pairs_with ps old) a) (ne_eqb p.address a other)

-- where one of the pairs names an object, it is known, or was named before
pub named_only : (known : List Pair) (old : List (ℕ × ℕ)) (a n : ℕ) → named (pairs_with known old) a ≡ Some n
    → (named old a ≡ Some n) ⊎ Has known a n
named_only [] old a n is = inl is
named_only (p ∷ ps) old a n is = elim (cases_eq p.address a) [
  | inl same ↦
      let object : p.object ≡ n =
      (let both : Some p.object ≡ Some n = sym (here_named p ps old a same) ∙ is in cc) in
      inr (0, λ i. some (record { address = same i; object = object i }))
  | inr other ↦ elim (named_only ps old a n (sym (else_named p ps old a other) ∙ is)) [
    | inl before ↦ inl before
    | inr after ↦ inr (suc after.0, after.1)
  ]
]

-- what was named before is named
pub named_before : (known : List Pair) (old : List (ℕ × ℕ)) (a n : ℕ) → named old a ≡ Some n
    → named (pairs_with known old) a ≡ None → ⊥
named_before [] old a n is none = let both : None ≡ Some n = sym none ∙ is in cc
named_before (p ∷ ps) old a n is none = elim (cases_eq p.address a) [
  | inl same ↦ let both : None ≡ Some p.object = sym none ∙ here_named p ps old a same in cc
  | inr other ↦ named_before ps old a n is (sym (else_named p ps old a other) ∙ none)
]

-- and what is known
pub named_known : (known : List Pair) (old : List (ℕ × ℕ)) (a n : ℕ) → Has known a n
    → named (pairs_with known old) a ≡ None → ⊥
named_known known old a n has none = known_at known has.0 has.1 none
  where
    known_at : (known : List Pair) (i : ℕ) → get_elem? known i ≡ some (record { address = a; object = n })
        → named (pairs_with known old) a ≡ None → ⊥
    known_at [] i at none = some-ne-none (record { address = a; object = n }) (sym at)
    known_at (p ∷ ps) zero at none =
        let same : p.address ≡ a =
        ap (λ (x : Pair). x.address) (some-injective p (record { address = a; object = n }) at) in
        let both : None ≡ Some p.object = sym none ∙ here_named p ps old a same in cc
    known_at (p ∷ ps) (suc i) at none = elim (cases_eq p.address a) [
      | inl same ↦ let both : None ≡ Some p.object = sym none ∙ here_named p ps old a same in cc
      | inr other ↦ known_at ps i at (sym (else_named p ps old a other) ∙ none)
    ]

-- so the pairs name what a map does that has both and no more
pub pairs_name : (address : ℕ → Option ℕ) (known : List Pair) (old : List (ℕ × ℕ))
    → ((a n : ℕ) → named old a ≡ Some n → address a ≡ Some n)
    → ((a n : ℕ) → Has known a n → address a ≡ Some n)
    → ((a n : ℕ) → address a ≡ Some n → (named old a ≡ Some n) ⊎ Has known a n)
    → (a : ℕ) → address a ≡ named (pairs_with known old) a
pairs_name address known old begun knows only a = by_option (named (pairs_with known old) a) refl
  where
    nowhere : (o : Option ℕ) → address a ≡ o → named (pairs_with known old) a ≡ None → address a ≡ None
    nowhere None is none = is
    nowhere (Some n) is none = elim (only a n is) [
      | inl before ↦ absurd (named_before known old a n before none)
      | inr has ↦ absurd (named_known known old a n has none)
    ]

    by_option : (o : Option ℕ) → named (pairs_with known old) a ≡ o → address a ≡ named (pairs_with known old) a
    by_option None none = nowhere (address a) refl none ∙ sym none
    by_option (Some n) is = elim (named_only known old a n is) [
      | inl before ↦ begun a n before ∙ sym is
      | inr has ↦ knows a n has ∙ sym is
    ]
