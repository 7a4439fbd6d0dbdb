-- How many objects there are of a kind, by a list in which each stands once.
use Rattle.std.proofs.Common.{◌≡◌, ◌≢◌, ℕ, zero, suc, ◌<◌, Bool, true, false, List, [], ◌∷◌, length, refl, sym, ◌∙◌, ap}
use Rattle.std.proofs.Common.{subst, arith}
use Rattle.std.specs.Prelude.{slice_get, Some, map, filter, if◌then◌else◌}
use Rattle.std.proofs.lemmas.List.{length-map}
use Rattle.std.proofs.lemmas.Option.{same_Some}
use Rattle.melt_copy.specs.declared.forwarding.Relocation.{Relocation}
use Rattle.melt_copy.proofs.Counting.{distinct_numbers, number_at, number_there}
use Rattle.melt_move.specs.Collecting.{Counts}

-- each object of the list is of the kind, and each of the kind is in the list
pub record AreThose (Is : ℕ → Type 0) (moves : List Relocation) : Type 0 where
  pub differ : (i j : ℕ) (a b : Relocation) → slice_get moves i ≡ Some a → slice_get moves j ≡ Some b → i < j
      → a.from ≢ b.from
  pub there : (n : ℕ) → Is n → (k : ℕ) × (m : Relocation) × (slice_get moves k ≡ Some m) × (m.from ≡ n)
  pub each : (k : ℕ) (m : Relocation) → slice_get moves k ≡ Some m → Is m.from

from_of : Relocation → ℕ
from_of m = m.from

pub counts_those : (Is : ℕ → Type 0) (moves : List Relocation) → AreThose Is moves → Counts Is (length moves)
unfolding from_of
counts_those Is moves are = record {
  members = map from_of moves;
  once = distinct_numbers from_of moves are.differ;
  all = λ n. (
    λ is. let m = are.there n is in let at = number_there from_of moves m.0 n m.1 m.2 m.3 in (m.0, at.0, at.1),
    λ has. let m = number_at from_of moves has.0 n has.1 has.2 in subst Is m.2 (are.each has.0 m.0 m.1),
  );
  count_is = sym (length-map moves from_of);
}

-- what stands in a filtered list
pub record Kept (p : Relocation → Bool) (moves : List Relocation) (m : Relocation) : Type 0 where
  pub index : ℕ
  pub is : slice_get moves index ≡ Some m
  pub passes : p m ≡ true

one_more : (p : Relocation → Bool) (x : Relocation) (moves : List Relocation) (m : Relocation) → Kept p moves m
    → Kept p (x ∷ moves) m
one_more p x moves m kept = record { index = suc kept.index; is = kept.is; passes = kept.passes }

kept_first : (p : Relocation → Bool) (x : Relocation) (moves : List Relocation) (b : Bool) → p x ≡ b
    → ((k : ℕ) (m : Relocation) → slice_get (filter p moves) k ≡ Some m → Kept p moves m) → (k : ℕ) (m : Relocation)
    → slice_get (if b then x ∷ filter p moves else filter p moves) k ≡ Some m → Kept p (x ∷ moves) m
kept_first p x moves true is rest zero m at =
    let same : x ≡ m = same_Some x m at in record { index = 0; is = at; passes = ap p (sym same) ∙ is }
kept_first p x moves true is rest (suc k) m at = one_more p x moves m (rest k m at)
kept_first p x moves false is rest k m at = one_more p x moves m (rest k m at)

pub kept_in : (p : Relocation → Bool) (moves : List Relocation) (k : ℕ) (m : Relocation)
    → slice_get (filter p moves) k ≡ Some m → Kept p moves m
kept_in p [] k m at = absurd (cc)
kept_in p (x ∷ moves) k m at = kept_first p x moves (p x) refl (kept_in p moves) k m at

found_first : (p : Relocation → Bool) (x : Relocation) (moves : List Relocation) (b : Bool) (k : ℕ) (m : Relocation)
    → slice_get (filter p moves) k ≡ Some m
    → (j : ℕ) × (slice_get (if b then x ∷ filter p moves else filter p moves) j ≡ Some m)
found_first p x moves true k m at = (suc k, at)
found_first p x moves false k m at = (k, at)

found_here : (p : Relocation → Bool) (x : Relocation) (moves : List Relocation) (b : Bool) → b ≡ true
    → (j : ℕ) × (slice_get (if b then x ∷ filter p moves else filter p moves) j ≡ Some x)
found_here p x moves true is = (0, refl)
found_here p x moves false is = absurd (cc)

-- what passes is kept
pub found_in : (p : Relocation → Bool) (moves : List Relocation) (k : ℕ) (m : Relocation) → slice_get moves k ≡ Some m
    → p m ≡ true → (j : ℕ) × (slice_get (filter p moves) j ≡ Some m)
found_in p [] k m at is = absurd (cc)
found_in p (x ∷ moves) zero m at is =
    let same : x ≡ m = same_Some x m at in
    let here = found_here p x moves (p x) (ap p same ∙ is) in
    (here.0, here.1 ∙ ap (λ (y : Relocation). Some y) same)
found_in p (x ∷ moves) (suc k) m at is =
    let rest = found_in p moves k m at is in found_first p x moves (p x) rest.0 m rest.1

-- those that are kept differ where all do
abbrev pub Differ : List Relocation → Type 0
Differ moves = (i j : ℕ) (a b : Relocation) → slice_get moves i ≡ Some a → slice_get moves j ≡ Some b → i < j
    → a.from ≢ b.from

differ_more : (p : Relocation → Bool) (x : Relocation) (moves : List Relocation) → Differ (x ∷ moves)
    → Differ (filter p moves) → Differ (x ∷ filter p moves)
differ_more p x moves all rest zero zero a b at also less = absurd (omega (arith, less))
differ_more p x moves all rest zero (suc j) a b at also less =
    let kept = kept_in p moves j b also in all 0 (suc kept.index) a b at kept.is (omega arith)
differ_more p x moves all rest (suc i) zero a b at also less = absurd (omega (arith, less))
differ_more p x moves all rest (suc i) (suc j) a b at also less = rest i j a b at also (omega (arith, less))

differ_first : (p : Relocation → Bool) (x : Relocation) (moves : List Relocation) (b : Bool) → Differ (x ∷ moves)
    → Differ (filter p moves) → Differ (if b then x ∷ filter p moves else filter p moves)
differ_first p x moves false all rest = rest
differ_first p x moves true all rest = differ_more p x moves all rest

pub differ_kept : (p : Relocation → Bool) (moves : List Relocation) → Differ moves → Differ (filter p moves)
differ_kept p [] all = λ i j a b at also less. absurd (cc)
differ_kept p (x ∷ moves) all =
    differ_first p x moves (p x) all
    (differ_kept p moves (λ i j a b at also less. all (suc i) (suc j) a b at also (omega (arith, less))))
