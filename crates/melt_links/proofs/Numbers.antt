-- Lists of numbers: what they contain, and each once.
use Rattle.std.proofs.Common.{◌≡◌, ◌≢◌, ◌⊎◌, inl, inr, ℕ, zero, suc, List, [], ◌∷◌, ◌++◌}
use Rattle.std.proofs.Common.{refl, sym, ◌∙◌, ap, subst, arith, Bool, true, false}
use Rattle.std.specs.Prelude.{if◌then◌else◌, nat_eq, not}
use Rattle.std.proofs.lemmas.Bool.{cases_eq}
use Rattle.std.proofs.lemmas.Bool.Decides.{nat_tests}
use Rattle.std.proofs.lemmas.List.Elements.{Contains-append_right}
use Rattle.melt_links.specs.Links.{without}
use Rattle.std.specs.List.{AllPairs, Contains}
use Rattle.std.proofs.lemmas.List.{get_or_default}
use Rattle.std.proofs.lemmas.List.Kept.{AllPairs-cons}

-- no number stands in the list twice
abbrev pub EachOnce : List ℕ → Type 0
EachOnce numbers = AllPairs (λ x y. x ≢ y) numbers

pub contains_none : (x : ℕ) → Contains [] x → ⊥
contains_none x (k, below, is) = omega arith

pub contains_here : (x : ℕ) (xs : List ℕ) → Contains (x ∷ xs) x
contains_here x xs = (0, omega arith, refl)

pub contains_more : (y x : ℕ) (xs : List ℕ) → Contains xs x → Contains (y ∷ xs) x
contains_more y x xs (k, below, is) = (suc k, omega arith, is)

pub contains_cases : (y x : ℕ) (xs : List ℕ) → Contains (y ∷ xs) x → (y ≡ x) ⊎ Contains xs x
contains_cases y x xs (zero, below, is) = inl is
contains_cases y x xs (suc k, below, is) = inr (k, omega arith, is)

pub once_none : EachOnce []
once_none i j d before below = absurd (omega arith)

pub once_more : (x : ℕ) (xs : List ℕ) → (Contains xs x → ⊥) → EachOnce xs → EachOnce (x ∷ xs)
once_more x xs absent once =
    AllPairs-cons (λ a b. a ≢ b) x xs (λ k d below is. absent (k, below, get_or_default xs k x d below ∙ sym is)) once

pub once_rest : (x : ℕ) (xs : List ℕ) → EachOnce (x ∷ xs) → EachOnce xs
once_rest x xs once i j d before below = once (suc i) (suc j) d (omega arith) (omega arith)

pub once_first : (x : ℕ) (xs : List ℕ) → EachOnce (x ∷ xs) → Contains xs x → ⊥
once_first x xs once (k, below, is) = once 0 (suc k) x (omega arith) (omega arith) (sym is)

-- a number that a list has parts it in two
pub record IsSplit (x : ℕ) (xs : List ℕ) : Type 0 where
  pub front : List ℕ
  pub back : List ℕ
  pub is : xs ≡ front ++ x ∷ back

pub split_at : (x : ℕ) (xs : List ℕ) → Contains xs x → IsSplit x xs
split_at x [] (k, below, is) = absurd (omega arith)
split_at x (y ∷ ys) (zero, below, is) = record { front = []; back = ys; is = ap (λ (z : ℕ). z ∷ ys) is }
split_at x (y ∷ ys) (suc k, below, is) =
    let rest = split_at x ys (k, omega arith, is) in
    record { front = y ∷ rest.front; back = rest.back; is = ap (λ (zs : List ℕ). y ∷ zs) rest.is }

pub same_test : (x : ℕ) → nat_eq x x ≡ true
same_test x = grind (arith, nat_tests)

pub other_test : (x y : ℕ) → x ≢ y → nat_eq x y ≡ false
other_test x y differ = grind (arith, nat_tests)

pub without_here : (x : ℕ) (xs : List ℕ) → without x (x ∷ xs) ≡ without x xs
without_here x xs = ap (λ (b : Bool). if not b then x ∷ without x xs else without x xs) (same_test x)

pub without_other : (x y : ℕ) (xs : List ℕ) → y ≢ x → without x (y ∷ xs) ≡ y ∷ without x xs
without_other x y xs differ = ap (λ (b : Bool). if not b then y ∷ without x xs else without x xs) (other_test y x differ)

-- what a list without a number contains
pub without_has : (x y : ℕ) (xs : List ℕ) → y ≢ x → Contains xs y → Contains (without x xs) y
without_has x y [] differ there = absurd (contains_none y there)
without_has x y (z ∷ zs) differ there =
    elim (cases_eq z x) [
      | inl same ↦ elim (contains_cases z y zs there) [
        | inl here ↦ absurd (differ (sym here ∙ same))
        | inr more ↦ subst (λ (k : ℕ). Contains (without x (k ∷ zs)) y) (sym same)
            (subst (λ (ks : List ℕ). Contains ks y) (sym (without_here x zs)) (without_has x y zs differ more))
      ]
      | inr other ↦ subst (λ (ks : List ℕ). Contains ks y) (sym (without_other x z zs other))
          (elim (contains_cases z y zs there) [
            | inl here ↦ subst (Contains (z ∷ without x zs)) here (contains_here z (without x zs))
            | inr more ↦ contains_more z y (without x zs) (without_has x y zs differ more)
          ])
    ]

pub without_only : (x y : ℕ) (xs : List ℕ) → Contains (without x xs) y → (y ≢ x) × Contains xs y
without_only x y [] there = absurd (contains_none y there)
without_only x y (z ∷ zs) there =
    elim (cases_eq z x) [
      | inl same ↦
          let now : Contains (without x (x ∷ zs)) y =
          subst (λ (k : ℕ). Contains (without x (k ∷ zs)) y) same there in
          let rest = without_only x y zs (subst (λ (ks : List ℕ). Contains ks y) (without_here x zs) now) in
          (rest.0, contains_more z y zs rest.1)
      | inr other ↦
          elim (contains_cases z y (without x zs)
          (subst (λ (ks : List ℕ). Contains ks y) (without_other x z zs other) there)) [
            | inl here ↦ ((λ same. other (here ∙ same)), subst (Contains (z ∷ zs)) here (contains_here z zs))
            | inr more ↦ let rest = without_only x y zs more in (rest.0, contains_more z y zs rest.1)
          ]
    ]

pub without_once : (x : ℕ) (xs : List ℕ) → EachOnce xs → EachOnce (without x xs)
without_once x [] once = once_none
without_once x (z ∷ zs) once =
    let rest = without_once x zs (once_rest z zs once) in
    elim (cases_eq z x) [
      | inl same ↦ subst (λ (k : ℕ). EachOnce (without x (k ∷ zs))) (sym same)
          (subst EachOnce (sym (without_here x zs)) rest)
      | inr other ↦ subst EachOnce (sym (without_other x z zs other))
          (once_more z (without x zs) (λ there. once_first z zs once (without_only x z zs there).1) rest)
    ]

-- a number that a list has not cannot be taken out of it
pub without_absent : (x : ℕ) (xs : List ℕ) → (Contains xs x → ⊥) → without x xs ≡ xs
without_absent x [] absent = refl
without_absent x (z ∷ zs) absent =
    let other : z ≢ x = λ same. absent (subst (Contains (z ∷ zs)) same (contains_here z zs)) in
    without_other x z zs other ∙ ap (λ (ks : List ℕ). z ∷ ks) (without_absent x zs (λ there. absent (contains_more z x zs there)))

pub without_split : (x : ℕ) (front back : List ℕ) → EachOnce (front ++ x ∷ back)
    → without x (front ++ x ∷ back) ≡ front ++ back
without_split x [] back once = without_here x back ∙ without_absent x back (once_first x back once)
without_split x (z ∷ front) back once =
    let rest : List ℕ = front ++ x ∷ back in
    let other : z ≢ x = λ same. once_first z rest once
    (subst (Contains rest) (sym same) (Contains-append_right front (x ∷ back) x (contains_here x back))) in
    without_other x z rest other ∙ ap (λ (ks : List ℕ). z ∷ ks) (without_split x front back (once_rest z rest once))
