-- Words of objects that went to other addresses, counted by the old addresses and by the new ones.
use Rattle.std.proofs.Common.{◌≡◌, ℕ, false, List, [], ◌∷◌, ◌⊎◌, inl, inr, refl, ◌∙◌, subst, arith}
use Rattle.std.specs.Prelude.{◌==◌, Contains, map, sum}
use Rattle.std.specs.List.{IsDistinct, AllByRecursion}
use Rattle.std.proofs.lemmas.Bool.{cases_eq, ne_eqb, eq-eqb}
use Rattle.std.proofs.lemmas.List.Sums.{sum_by-cons}
use Rattle.melt_model.specs.Alive.{CostsSum}
use Rattle.melt_scion.specs.State.{State}
use Rattle.melt_scion.specs.Collected.{CountsWords}
use Rattle.melt_scion.proofs.Numbers.{contains_here, contains_more, contains_cases}

-- an element stands in a list or does not
pub contains_or_not : (xs : List ℕ) (n : ℕ) → Contains xs n ⊎ (Contains xs n → ⊥)
contains_or_not [] n = inr (λ has. absurd (let below = has.1 in omega arith))
contains_or_not (x ∷ xs) n = elim (cases_eq x n) [
  | inl same ↦ inl (subst (Contains (x ∷ xs)) same (contains_here x xs))
  | inr differs ↦ elim (contains_or_not xs n) [
    | inl has ↦ inl (contains_more x n xs has)
    | inr none ↦ inr (λ has. elim (contains_cases x n xs has) [ inl same ↦ differs same | inr after ↦ none after ])
  ]
]

-- the new addresses differ where the old ones do
differ : (to : ℕ → ℕ) (x : ℕ) (xs : List ℕ) → AllByRecursion (λ y. (x == y) ≡ false) xs
    → ((y : ℕ) → Contains xs y → to x ≡ to y → x ≡ y) → AllByRecursion (λ y. (to x == y) ≡ false) (map to xs)
differ to x [] apart one = tt
differ to x (y ∷ xs) apart one = (
  ne_eqb (to x) (to y) (λ same. let equal = eq-eqb x y (one y (contains_here y xs) same) in let not = apart.0 in cc),
  differ to x xs apart.1 (λ z is. one z (contains_more y z xs is)),
)

-- and so do all of a list
pub distinct : (to : ℕ → ℕ) (xs : List ℕ) → IsDistinct (λ a b. a == b) xs
    → ((a b : ℕ) → Contains xs a → Contains xs b → to a ≡ to b → a ≡ b) → IsDistinct (λ a b. a == b) (map to xs)
unfolding IsDistinct
distinct to [] once one = tt
distinct to (x ∷ xs) once one = (
  differ to x xs once.0 (λ y is. one x y (contains_here x xs) (contains_more x y xs is)),
  distinct to xs once.1 (λ a b is other. one a b (contains_more x a xs is) (contains_more x b xs other)),
)

-- an old address in the list has its new one in the other
pub moved_there : (to : ℕ → ℕ) (xs : List ℕ) (a : ℕ) → Contains xs a → Contains (map to xs) (to a)
moved_there to [] a (k, below, is) = absurd (omega arith)
moved_there to (x ∷ xs) a has = elim (contains_cases x a xs has) [
  | inl same ↦ subst (λ (y : ℕ). Contains (to x ∷ map to xs) (to y)) same (contains_here (to x) (map to xs))
  | inr after ↦ contains_more (to x) (to a) (map to xs) (moved_there to xs a after)
]

-- and a new address is that of an old one
pub moved_from : (to : ℕ → ℕ) (xs : List ℕ) (b : ℕ) → Contains (map to xs) b → (a : ℕ) × Contains xs a × (to a ≡ b)
moved_from to [] b (k, below, is) = absurd (omega arith)
moved_from to (x ∷ xs) b has = elim (contains_cases (to x) b (map to xs) has) [
  | inl same ↦ (x, contains_here x xs, same)
  | inr after ↦ let rest = moved_from to xs b after in (rest.0, contains_more x rest.0 xs rest.1, rest.2)
]

-- the sums are the same where each has the same cost
same_sums : (to cost words : ℕ → ℕ) (xs : List ℕ) → ((a : ℕ) → Contains xs a → cost a ≡ words (to a))
    → sum (map cost xs) ≡ sum (map words (map to xs))
same_sums to cost words [] same = refl
same_sums to cost words (x ∷ xs) same =
    omega (
      arith,
      same x (contains_here x xs),
      same_sums to cost words xs (λ a is. same a (contains_more x a xs is)),
      sum_by-cons
          (λ (n : ℕ). n) (cost x) (map cost xs),
      sum_by-cons (λ (n : ℕ). n) (words (to x))
          (map words (map to xs)),
    )

-- words that were counted by old addresses are those of the new ones
pub moved_counts : (to : ℕ → ℕ) (s : State) (Is : ℕ → Type 0) (total : ℕ) (counts : CountsWords s Is total)
    (cost : ℕ → ℕ) → ((a b : ℕ) → Is a → Is b → to a ≡ to b → a ≡ b)
    → ((a : ℕ) → Is a → counts.cost a ≡ cost (to a)) → CostsSum cost (λ b. (a : ℕ) × Is a × (to a ≡ b)) total
moved_counts to s Is total counts cost one same = record {
  members = map to counts.members;
  once = distinct to counts.members counts.once
      (λ a b is other equal. one a b ((counts.all a).1 is) ((counts.all b).1 other) equal);
  all = λ b. (
    λ is. subst (Contains (map to counts.members)) is.2 (moved_there to counts.members is.0 ((counts.all is.0).0 is.1)),
    λ is. let from = moved_from to counts.members b is in (from.0, (counts.all from.0).1 from.1, from.2),
  );
  adds_up = counts.adds_up
      ∙ same_sums to counts.cost cost counts.members (λ a is. same a ((counts.all a).1 is));
}
