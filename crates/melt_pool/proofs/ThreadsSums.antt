-- Sums over all threads, where it is known of each by how much it has changed.
use Rattle.std.proofs.Common.{◌≡◌, ◌≢◌, ℕ, zero, suc, ◌+◌, ◌<◌, ◌≤◌, cond, List, [], ◌∷◌, length, refl}
use Rattle.std.proofs.Common.{sym, ap, arith, inl, inr}
use Rattle.std.proofs.lemmas.Bool.{cases_eq, eq-eqb, ne_eqb}
use Rattle.std.proofs.lemmas.List.Elements.{recursion_from_All}
use Rattle.std.proofs.lemmas.List.Sums.{sum-map, sum_by-cons}
use Rattle.std.proofs.lemmas.Option.{same_Some}
use Rattle.std.specs.Prelude.{All, Bool, map, Some, slice_get, sum}
use Rattle.std.specs.List.{AllByRecursion}
use Rattle.std.specs.Option.{option_map_or}
use Rattle.melt_model.specs.Thread.{own, own_from}
use Rattle.melt_model.specs.declared.history.Entry.{Entry}
use Rattle.melt_safepoint.proofs.Counting.{total_same}
use Rattle.melt_safepoint.specs.Asked.{total}

-- the sum of what the first threads have, with the first one before the others
pub total_front : (f : ℕ → ℕ) (n : ℕ) → total f (suc n) ≡ f 0 + total (λ t. f (suc t)) n
total_front f zero = omega arith
total_front f (suc n) =
    let before : total f (suc n) ≡ f 0 + total (λ t. f (suc t)) n = total_front f n in
    omega (arith, before)

-- where none has anything, there is nothing
pub total_none : (n : ℕ) → total (λ t. 0) n ≡ 0
total_none zero = refl
total_none (suc n) = omega (arith, total_none n)

-- the first element, and those after it
sum_first : {A : Type 0} (f : A → ℕ) (x : A) (xs : List A) → sum (map f (x ∷ xs)) ≡ f x + sum (map f xs)
sum_first f x xs = omega (arith, sum-map f (x ∷ xs), sum-map f xs, sum_by-cons f x xs)

-- the sum over a list by the places of its elements
pub total_list : {A : Type 0} (f : A → ℕ) (xs : List A)
    → total (λ t. option_map_or f (slice_get xs t) 0) (length xs) ≡ sum (map f xs)
total_list f [] = refl
total_list f (x ∷ xs) =
    let at : ℕ → ℕ = λ t. option_map_or f (slice_get (x ∷ xs) t) 0 in
    omega (arith, total_front at (length xs), total_list f xs, sum_first f x xs)

-- with what it has besides, each element of a list has no more than the one of another list that stands at its place
abbrev pub EachWithin : {A B : Type 0} → (F G : ℕ → ℕ) → (A → ℕ) → (B → ℕ) → List A → List B → Type 0
EachWithin {A} {B} F G f g xs ys = (t : ℕ) (x : A) (y : B) → slice_get xs t ≡ Some x → slice_get ys t ≡ Some y
    → F t + g y ≤ G t + f x

-- so all together have no more
pub sums_within : {A B : Type 0} (F G : ℕ → ℕ) (f : A → ℕ) (g : B → ℕ) (xs : List A) (ys : List B)
    → length ys ≡ length xs → EachWithin F G f g xs ys
    → total F (length xs) + sum (map g ys) ≤ total G (length xs) + sum (map f xs)
sums_within F G f g [] [] count each = omega arith
sums_within F G f g [] (y ∷ ys) count each = absurd (omega (arith, count))
sums_within F G f g (x ∷ xs) [] count each = absurd (omega (arith, count))
sums_within F G f g (x ∷ xs) (y ∷ ys) count each =
    let F' : ℕ → ℕ = λ t. F (suc t) in
    let G' : ℕ → ℕ = λ t. G (suc t) in
    let here : F 0 + g y ≤ G 0 + f x = each 0 x y refl refl in
    let after : total F' (length xs) + sum (map g ys) ≤ total G' (length xs) + sum (map f xs) =
    sums_within F' G' f g xs ys (omega (arith, count)) (λ t p q at is. each (suc t) p q at is) in
    omega (
      arith,
      here,
      after,
      total_front F (length xs),
      total_front G (length xs),
      sum_first f x xs,
      sum_first g y ys,
    )

-- the same of what the elements have alone
pub sum_rises : {A : Type 0} (f : A → ℕ) (xs ys : List A) → length ys ≡ length xs
    → ((t : ℕ) (x y : A) → slice_get xs t ≡ Some x → slice_get ys t ≡ Some y → f x ≤ f y)
    → sum (map f xs) ≤ sum (map f ys)
sum_rises f xs ys count each =
    let all : total (λ t. 0) (length ys) + sum (map f xs) ≤ total (λ t. 0) (length ys) + sum (map f ys) =
    sums_within (λ t. 0) (λ t. 0) f f ys xs (sym count)
    (λ t y x is at. let rises : f x ≤ f y = each t x y at is in omega (arith, rises)) in
    omega (arith, all)

-- and less, where one has less
pub sum_grows : {A : Type 0} (f : A → ℕ) (xs ys : List A) (t : ℕ) (p q : A) → length ys ≡ length xs
    → ((t : ℕ) (x y : A) → slice_get xs t ≡ Some x → slice_get ys t ≡ Some y → f x ≤ f y)
    → slice_get xs t ≡ Some p → slice_get ys t ≡ Some q → f p < f q → sum (map f xs) < sum (map f ys)
sum_grows f [] ys t p q count each at is more = absurd (let no : slice_get [] t ≡ Some p = at in cc)
sum_grows f (x ∷ xs) [] t p q count each at is more = absurd (omega (arith, count))
sum_grows f (x ∷ xs) (y ∷ ys) zero p q count each at is more =
    let after : sum (map f xs) ≤ sum (map f ys) =
    sum_rises f xs ys (omega (arith, count)) (λ u a b there here. each (suc u) a b there here) in
    omega (
      arith,
      more,
      after,
      ap f (same_Some x p at),
      ap f (same_Some y q is),
      sum_first f x xs,
      sum_first f y ys,
    )
sum_grows f (x ∷ xs) (y ∷ ys) (suc t) p q count each at is more =
    let here : f x ≤ f y = each 0 x y refl refl in
    let after : sum (map f xs) < sum (map f ys) =
    sum_grows f xs ys t p q (omega (arith, count)) (λ u a b there here. each (suc u) a b there here) at is more in
    omega (arith, here, after, sum_first f x xs, sum_first f y ys)

-- two sums, where what no one but one has differs
total_but : (f g : ℕ → ℕ) (t n : ℕ) → t < n → ((u : ℕ) → u ≢ t → f u ≡ g u) → total f n + g t ≡ total g n + f t
total_but f g t zero below same = absurd (omega arith)
total_but f g t (suc n) below same = elim (cases_eq n t) [
  | inl here ↦
      let prefix : total f n ≡ total g n =
      total_same f g n (λ u under. same u (λ is. absurd (omega arith))) in
      omega (arith, prefix, ap f here, ap g here)
  | inr differ ↦
      let prefix : total f n + g t ≡ total g n + f t = total_but f g t n (omega arith) same in
      omega (arith, prefix, same n differ)
]

-- each entry of a history is one of its thread
entries_from : (p : ℕ) (h : List Entry) (n : ℕ) → AllByRecursion (λ (e : Entry). e.thread < n) h
    → total (λ t. length (own_from p h t)) n ≡ length h
entries_from p [] n below = total_none n
entries_from p (e ∷ h) n below =
    let f : ℕ → ℕ = λ t. length (own_from p (e ∷ h) t) in
    let g : ℕ → ℕ = λ t. length (own_from (p + 1) h t) in
    let by : ℕ → Bool → ℕ = λ t b. length (cond b (p ∷ own_from (p + 1) h t) (own_from (p + 1) h t)) in
    let rest : total g n ≡ length h = entries_from (p + 1) h n below.1 in
    let one : total f n + g e.thread ≡ total g n + f e.thread =
    total_but f g e.thread n below.0 (λ u differ. ap (by u) (ne_eqb e.thread u (λ same. differ (sym same)))) in
    let here : f e.thread ≡ suc (g e.thread) = ap (by e.thread) (eq-eqb e.thread e.thread refl) in
    omega (arith, rest, one, here)

-- so a history has as many entries as all threads together
pub entries_total : (h : List Entry) (n : ℕ) → All (λ (e : Entry). e.thread < n) h
    → total (λ t. length (own h t)) n ≡ length h
entries_total h n below = entries_from 0 h n (recursion_from_All (λ (e : Entry). e.thread < n) h below)
