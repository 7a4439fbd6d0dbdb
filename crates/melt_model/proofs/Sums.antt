-- Laws of sums over a set of objects, each counted once.
use Rattle.std.proofs.Common.{◌≡◌, ℕ, ◌+◌, ◌<◌, ◌≤◌, zero, suc, false, eqb, List, [], ◌∷◌, ◌++◌, refl, sym, ◌∙◌, ap}
use Rattle.std.proofs.Common.{subst, arith, ◌⊎◌, inl, inr}
use Rattle.std.specs.Prelude.{◌↔◌, Contains}
use Rattle.std.specs.List.{IsDistinct, sum_by}
use Rattle.std.proofs.lemmas.Bool.{ne_eqb}
use Rattle.std.proofs.lemmas.Bool.Decides.{nat_tests}
use Rattle.std.proofs.lemmas.List.Elements.{All-from_recursion, recursion_from_All, All-contains, Contains-get_or}
use Rattle.std.proofs.lemmas.List.Elements.{Contains-append_left, Contains-append_right, Contains-append_cases}
use Rattle.std.proofs.lemmas.List.Sums.{sum-map, sum_by-cons, sum_by-append}
use Rattle.std.proofs.lemmas.Map.Keys.{IsDistinct-head, IsDistinct-tail, IsDistinct-cons}
use Rattle.melt_model.specs.Alive.{CostsSum}

-- the first element of a list, and one after it
contains_first : (x : ℕ) (xs : List ℕ) → Contains (x ∷ xs) x
contains_first x xs = (0, omega arith, refl)

contains_after : (x : ℕ) (xs : List ℕ) (n : ℕ) → Contains xs n → Contains (x ∷ xs) n
contains_after x xs n (k, below, is) = (suc k, omega arith, is)

first_or_after : (x : ℕ) (xs : List ℕ) (n : ℕ) → Contains (x ∷ xs) n → (x ≡ n) ⊎ Contains xs n
first_or_after x xs n (zero, below, is) = inl is
first_or_after x xs n (suc k, below, is) = inr (k, omega arith, is)

-- what stands before an element, and what stands after it
split_at : (ys : List ℕ) (x : ℕ) → Contains ys x → (front : List ℕ) × (back : List ℕ) × (ys ≡ front ++ x ∷ back)
split_at [] x (k, below, is) = absurd (omega arith)
split_at (y ∷ ys) x (zero, below, is) = ([], ys, ap (λ (z : ℕ). z ∷ ys) is)
split_at (y ∷ ys) x (suc k, below, is) =
    let rest = split_at ys x (k, omega arith, is) in (y ∷ rest.0, rest.1, ap (λ (zs : List ℕ). y ∷ zs) rest.2)

-- another element stands before it or after it
another : (front back : List ℕ) (x n : ℕ) → (x ≡ n → ⊥) → Contains (front ++ x ∷ back) n → Contains (front ++ back) n
another front back x n differs is =
    elim (Contains-append_cases front (x ∷ back) n is) [
      | inl before ↦ Contains-append_left front back n before
      | inr rest ↦ elim (first_or_after x back n rest) [
        | inl same ↦ absurd (differs same)
        | inr after ↦ Contains-append_right front back n after
      ]
    ]

-- the first of distinct elements is none of the others
first_differs : (x : ℕ) (xs : List ℕ) (n : ℕ) → IsDistinct eqb (x ∷ xs) → Contains xs n → x ≡ n → ⊥
first_differs x xs n once is same =
    let test : eqb x n ≡ false = All-contains (λ (y : ℕ). eqb x y ≡ false) xs n
    (All-from_recursion (λ (y : ℕ). eqb x y ≡ false) xs (IsDistinct-head eqb x xs once)) is in
    grind (arith, nat_tests)

-- distinct elements that another list has too have no greater sum
part_le : (cost : ℕ → ℕ) (xs ys : List ℕ) → IsDistinct eqb xs → ((n : ℕ) → Contains xs n → Contains ys n)
    → sum_by cost xs ≤ sum_by cost ys
part_le cost [] ys once within = omega arith
part_le cost (x ∷ xs) ys once within =
    let split = split_at ys x (within x (contains_first x xs)) in
    let less : sum_by cost xs ≤ sum_by cost (split.0 ++ split.1) =
    part_le cost xs (split.0 ++ split.1) (IsDistinct-tail eqb x xs once)
    (λ n is. another split.0 split.1 x n (first_differs x xs n once is)
    (subst (λ (zs : List ℕ). Contains zs n) split.2 (within n (contains_after x xs n is)))) in
    omega (
      arith,
      less,
      sum_by-cons cost x xs,
      ap (sum_by cost) split.2,
      sum_by-append cost split.0 split.1,
      sum_by-append cost split.0 (x ∷ split.1),
      sum_by-cons cost x split.1,
    )

agree : (c d : ℕ → ℕ) (xs : List ℕ) → ((n : ℕ) → Contains xs n → c n ≡ d n) → sum_by c xs ≡ sum_by d xs
agree c d [] same = refl
agree c d (x ∷ xs) same =
    let rest : sum_by c xs ≡ sum_by d xs = agree c d xs (λ n is. same n (contains_after x xs n is)) in
    omega (arith, rest, same x (contains_first x xs), sum_by-cons c x xs, sum_by-cons d x xs)

-- the same set
pub CostsSum-same : (cost : ℕ → ℕ) (P Q : ℕ → Type 0) (total : ℕ) → ((n : ℕ) → P n ↔ Q n) → CostsSum cost P total
    → CostsSum cost Q total
CostsSum-same cost P Q total same adds = record {
  members = adds.members;
  once = adds.once;
  all = λ n. (λ is. (adds.all n).0 ((same n).1 is), λ has. (same n).0 ((adds.all n).1 has));
  adds_up = adds.adds_up;
}

-- the same costs of what is in the set
pub CostsSum-cost : (c d : ℕ → ℕ) (P : ℕ → Type 0) (total : ℕ) → ((n : ℕ) → P n → c n ≡ d n) → CostsSum c P total
    → CostsSum d P total
CostsSum-cost c d P total same adds = record {
  members = adds.members;
  once = adds.once;
  all = adds.all;
  adds_up = adds.adds_up ∙ (sum-map c adds.members ∙ (agree c d adds.members (λ n has. same n ((adds.all n).1 has))
      ∙ sym (sum-map d adds.members)));
}

-- a part of a set has no greater sum
pub CostsSum-part : (cost : ℕ → ℕ) (P Q : ℕ → Type 0) (a b : ℕ) → ((n : ℕ) → P n → Q n) → CostsSum cost P a
    → CostsSum cost Q b → a ≤ b
CostsSum-part cost P Q a b within less more =
    omega (
      arith,
      part_le cost less.members more.members less.once
          (λ n has. (more.all n).0 (within n ((less.all n).1 has))),
      less.adds_up,
      more.adds_up,
      sum-map cost less.members,
      sum-map cost more.members,
    )

-- a set has one sum
pub CostsSum-one : (cost : ℕ → ℕ) (P : ℕ → Type 0) (a b : ℕ) → CostsSum cost P a → CostsSum cost P b → a ≡ b
CostsSum-one cost P a b first second =
    omega (
      arith,
      CostsSum-part cost P P a b (λ n is. is) first second,
      CostsSum-part cost P P b a (λ n is. is) second first,
    )

-- a set without elements
pub CostsSum-empty : (cost : ℕ → ℕ) (P : ℕ → Type 0) → ((n : ℕ) → P n → ⊥) → CostsSum cost P 0
unfolding IsDistinct
CostsSum-empty cost P none = record {
  members = [];
  once = tt;
  all = λ n. (λ is. absurd (none n is), λ has. absurd (let below : has.0 < 0 = has.1 in omega arith));
  adds_up = refl;
}

-- one element more
pub CostsSum-more : (cost : ℕ → ℕ) (P : ℕ → Type 0) (n total : ℕ) → (P n → ⊥) → CostsSum cost P total
    → CostsSum cost (λ m. P m ⊎ (m ≡ n)) (total + cost n)
CostsSum-more cost P n total new adds = record {
  members = n ∷ adds.members;
  once = IsDistinct-cons eqb n adds.members
      (recursion_from_All (λ (y : ℕ). eqb n y ≡ false) adds.members
      (λ k d below. ne_eqb n _ (λ same. new ((adds.all n).1
      (subst (Contains adds.members) (sym same) (Contains-get_or adds.members k d below))))))
      adds.once;
  all = λ m. (
    λ is. elim is [
      | inl old ↦ contains_after n adds.members m ((adds.all m).0 old)
      | inr same ↦ subst (Contains (n ∷ adds.members)) (sym same) (contains_first n adds.members)
    ],
    λ has. elim (first_or_after n adds.members m has) [
      | inl same ↦ inr (sym same)
      | inr old ↦
          inl ((adds.all m).1 old)
    ],
  );
  adds_up = omega (
    arith,
    adds.adds_up,
    sum-map cost adds.members,
    sum-map cost (n ∷ adds.members),
    sum_by-cons cost n adds.members,
  );
}
