-- The words of objects in a list of moves, each object counted once.
use Rattle.std.proofs.Common.{◌≡◌, ◌≢◌, ℕ, zero, suc, ◌<◌, false, List, [], ◌∷◌, length, get_or, take, refl, ◌∙◌, subst}
use Rattle.std.proofs.Common.{arith}
use Rattle.std.specs.Prelude.{◌==◌, slice_get, Some, map, sum}
use Rattle.std.specs.List.{IsDistinct, AllByRecursion}
use Rattle.std.proofs.lemmas.Bool.{ne_eqb}
use Rattle.std.proofs.lemmas.List.Sums.{sum_by-cons}
use Rattle.melt_model.specs.Alive.{CostsSum}
use Rattle.melt_word.specs.Words.{cost_of}
use Rattle.melt_copy.specs.declared.forwarding.Relocation.{Relocation}
use Rattle.melt_copy.specs.Moving.{words_in}
use Rattle.melt_copy.proofs.Places.{words_in-cons}

-- an element of the first ones
pub slice_get-take : (moves : List Relocation) (front k : ℕ) (m : Relocation) → slice_get (take front moves) k ≡ Some m
    → (k < front) × (slice_get moves k ≡ Some m)
slice_get-take moves zero k m at = absurd (cc)
slice_get-take [] (suc front) k m at = absurd (cc)
slice_get-take (x ∷ moves) (suc front) zero m at = (omega arith, at)
slice_get-take (x ∷ moves) (suc front) (suc k) m at = let rest =
    slice_get-take moves front k m at in (omega (arith, rest.0), rest.1)

-- an element that is among the first ones
pub slice_get_in_front : (moves : List Relocation) (front k : ℕ) (m : Relocation) → k < front
    → slice_get moves k ≡ Some m → slice_get (take front moves) k ≡ Some m
slice_get_in_front moves zero k m before at = absurd (omega arith)
slice_get_in_front [] (suc front) k m before at = absurd (cc)
slice_get_in_front (x ∷ moves) (suc front) zero m before at = at
slice_get_in_front (x ∷ moves) (suc front) (suc k) m before at = slice_get_in_front moves front k m (omega arith) at

none_equal : (number : Relocation → ℕ) (n : ℕ) (moves : List Relocation)
    → ((k : ℕ) (m : Relocation) → slice_get moves k ≡ Some m → n ≢ number m)
    → AllByRecursion (λ y. (n == y) ≡ false) (map number moves)
none_equal number n [] differ = tt
none_equal number n (m ∷ moves) differ =
    (ne_eqb n (number m) (differ 0 m refl), none_equal number n moves (λ k x at. differ (suc k) x at))

pub distinct_numbers : (number : Relocation → ℕ) (moves : List Relocation)
    → ((i j : ℕ) (a b : Relocation) → slice_get moves i ≡ Some a → slice_get moves j ≡ Some b → i < j
    → number a ≢ number b) → IsDistinct (λ a b. a == b) (map number moves)
unfolding IsDistinct
distinct_numbers number [] differ = tt
distinct_numbers number (m ∷ moves) differ = (
  none_equal number (number m) moves (λ k x at. differ 0 (suc k) m x refl at (omega arith)),
  distinct_numbers number moves (λ i j a b first second before. differ (suc i) (suc j) a b first second (omega arith)),
)

pub number_at : (number : Relocation → ℕ) (moves : List Relocation) (k n : ℕ) → k < length (map number moves)
    → get_or (map number moves) k n ≡ n → (m : Relocation) × (slice_get moves k ≡ Some m) × (number m ≡ n)
number_at number [] k n below is = absurd (omega arith)
number_at number (m ∷ moves) zero n below is = (m, refl, is)
number_at number (m ∷ moves) (suc k) n below is = number_at number moves k n (omega arith) is

pub number_there : (number : Relocation → ℕ) (moves : List Relocation) (k n : ℕ) (m : Relocation)
    → slice_get moves k ≡ Some m → number m ≡ n → (k < length (map number moves)) × (get_or (map number moves) k n ≡ n)
number_there number [] k n m at is = absurd (cc)
number_there number (x ∷ moves) zero n m at is = let same : number x ≡ number m = cc in (omega arith, same ∙ is)
number_there number (x ∷ moves) (suc k) n m at is = let rest =
    number_there number moves k n m at is in (omega (arith, rest.0), rest.1)

sum_of_costs : (cost : ℕ → ℕ) (number : Relocation → ℕ) (moves : List Relocation)
    → ((k : ℕ) (m : Relocation) → slice_get moves k ≡ Some m → cost (number m) ≡ cost_of m.shape)
    → words_in moves ≡ sum (map cost (map number moves))
sum_of_costs cost number [] costs = refl
sum_of_costs cost number (m ∷ moves) costs =
    omega (
      arith,
      words_in-cons m moves,
      costs 0 m refl,
      sum_of_costs cost number moves (λ k x at. costs (suc k) x at),
      sum_by-cons (λ (n : ℕ). n) (cost (number m)) (map cost (map number moves)),
    )

-- Moves of objects with different numbers: their words are the sum of the costs of these.
pub counts_moves : (cost : ℕ → ℕ) (Is : ℕ → Type 0) (number : Relocation → ℕ) (moves : List Relocation)
    → ((i j : ℕ) (a b : Relocation) → slice_get moves i ≡ Some a → slice_get moves j ≡ Some b → i < j
    → number a ≢ number b) → ((k : ℕ) (m : Relocation) → slice_get moves k ≡ Some m → cost (number m) ≡ cost_of m.shape)
    → ((n : ℕ) → Is n → (k : ℕ) × (m : Relocation) × (slice_get moves k ≡ Some m) × (number m ≡ n))
    → ((k : ℕ) (m : Relocation) → slice_get moves k ≡ Some m → Is (number m)) → CostsSum cost Is (words_in moves)
counts_moves cost Is number moves differ costs there each = record {
  members = map number moves;
  once = distinct_numbers number moves differ;
  all = λ n. (
    λ is. let m = there n is in let at = number_there number moves m.0 n m.1 m.2 m.3 in (m.0, at.0, at.1),
    λ has. let m = number_at number moves has.0 n has.1 has.2 in subst Is m.2 (each has.0 m.0 m.1),
  );
  adds_up = sum_of_costs cost number moves costs;
}
