-- So many different numbers below a bound are no more than the bound.
use Rattle.std.proofs.Common.{◌≡◌, ◌≢◌, ℕ, zero, suc, ◌<◌, ◌≤◌, true, false, eqb, List, [], ◌∷◌, length, sym, ◌∙◌, ap}
use Rattle.std.proofs.Common.{subst, arith, inl, inr}
use Rattle.std.specs.Prelude.{Bool, ◌||◌}
use Rattle.std.specs.List.{IsDistinct, AllByRecursion, list_any}
use Rattle.std.proofs.lemmas.Bool.{ne_eqb}
use Rattle.std.proofs.lemmas.Bool.Decides.{eqb_tells}
use Rattle.std.proofs.lemmas.Map.Steps.{length-le_from_distinct_below}

-- the first of these numbers, the last one at the head
abbrev firsts : (ℕ → ℕ) → ℕ → List ℕ
firsts f zero = []
firsts f (suc n) = f n ∷ firsts f n

length_is : (f : ℕ → ℕ) (n : ℕ) → length (firsts f n) ≡ n
length_is f zero = omega arith
length_is f (suc n) = let before = length_is f n in omega arith

none_before : (f : ℕ → ℕ) (x n : ℕ) → ((i : ℕ) → i < n → x ≢ f i) → AllByRecursion (λ y. eqb x y ≡ false) (firsts f n)
none_before f x zero differ = tt
none_before f x (suc n) differ =
    (ne_eqb x (f n) (differ n (omega arith)), none_before f x n (λ i less. differ i (omega arith)))

distinct : (f : ℕ → ℕ) (n : ℕ) → ((i j : ℕ) → j < i → i < n → f i ≢ f j) → IsDistinct eqb (firsts f n)
unfolding IsDistinct
distinct f zero differ = tt
distinct f (suc n) differ = (
  none_before f (f n) n (λ j less. differ n j less (omega arith)),
  distinct f n (λ i j less below. differ i j less (omega arith)),
)

each_below : (f : ℕ → ℕ) (m q n : ℕ) → ((i : ℕ) → i < n → f i < m) → list_any (eqb q) (firsts f n) ≡ true → q < m
each_below f m q zero small is = absurd (cc)
each_below f m q (suc n) small is = elim (eqb_tells q (f n)) [
  | inl same ↦ subst (λ (x : ℕ). x < m) (sym same.1) (small n (omega arith))
  | inr other ↦
      each_below f m q n (λ i less. small i (omega arith))
      (sym (ap (λ (b : Bool). b || list_any (eqb q) (firsts f n)) other.0) ∙ is)
]

pub few_distinct : (f : ℕ → ℕ) (n m : ℕ) → ((i : ℕ) → i < n → f i < m)
    → ((i j : ℕ) → j < i → i < n → f i ≢ f j) → n ≤ m
few_distinct f n m small differ =
    let fits : length (firsts f n) ≤ m =
    length-le_from_distinct_below (firsts f n) m (distinct f n differ) (λ q. each_below f m q n small) in
    omega (arith, fits, length_is f n)
