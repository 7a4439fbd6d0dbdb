-- A list of mutators in which one alone was changed.
use Rattle.std.proofs.Common.{◌≡◌, ◌≢◌, ◌⊎◌, ℕ, zero, suc, List, [], ◌∷◌, refl, sym, ◌∙◌, ap, subst, arith}
use Rattle.std.proofs.Common.{inl, inr}
use Rattle.std.proofs.Math.ListN.{set, length-set}
use Rattle.std.proofs.lemmas.Bool.{cases_eq}
use Rattle.std.proofs.lemmas.List.Sums.{sum_by-cons}
use Rattle.std.specs.List.{sum_by}
use Rattle.std.specs.Prelude.{All, None, Some, slice_get}
use Rattle.melt_safepoint.proofs.Threads.{get_set_other, get_set_same}
use Rattle.melt_rule.specs.Seats.{EpochWords}
use Rattle.melt_epoch.specs.Ends.{HasJoined}
use Rattle.melt_epoch.specs.Mutators.{IsSeated}
use Rattle.melt_epoch.specs.declared.mutator.Mutator.{Mutator}
use Rattle.melt_pool.specs.Firsts.{ChangedAt}
use Rattle.melt_pool.proofs.Passing.{all_at, all_by}

-- a sum of which all terms are 0
sum_none : {A : Type 0} (f : A → ℕ) (xs : List A) → ((k : ℕ) (x : A) → slice_get xs k ≡ Some x → f x ≡ 0)
    → sum_by f xs ≡ 0
sum_none f [] none = refl
sum_none f (x ∷ xs) none =
    let all = sum_by-cons f x xs in
    let here : f x ≡ 0 = none 0 x refl in
    let rest : sum_by f xs ≡ 0 = sum_none f xs (λ k y at. none (suc k) y at) in
    omega (arith, all, here, rest)

-- and one of which all others are
pub sum_one : {A : Type 0} (f : A → ℕ) (xs : List A) (t : ℕ) (x : A) → slice_get xs t ≡ Some x
    → ((k : ℕ) (y : A) → k ≢ t → slice_get xs k ≡ Some y → f y ≡ 0) → sum_by f xs ≡ f x
sum_one f [] t x at others = absurd (let no : None ≡ Some x = at in cc)
sum_one f (y ∷ xs) zero x at others =
    let all = sum_by-cons f y xs in
    let same : f y ≡ f x = ap f (let both : Some y ≡ Some x = at in cc) in
    let rest : sum_by f xs ≡ 0 = sum_none f xs (λ k z there. others (suc k) z (λ is. omega (arith, is)) there) in
    omega (arith, all, same, rest)
sum_one f (y ∷ xs) (suc t) x at others =
    let all = sum_by-cons f y xs in
    let here : f y ≡ 0 = others 0 y (λ is. omega (arith, is)) refl in
    let rest : sum_by f xs ≡ f x =
    sum_one f xs t x at (λ k z differ there. others (suc k) z (λ is. differ (omega (arith, is))) there) in
    omega (arith, all, here, rest)

module _ {R : Type 0} where
  -- the list with one mutator in place of another
  pub set_changes : (t : ℕ) (ms : List (Mutator R)) (m n : Mutator R) (Is : Mutator R → Mutator R → Type 0)
      → slice_get ms t ≡ Some m → Is m n → ChangedAt t ms (set ms t n) Is
  set_changes t ms m n Is at is = record {
    before = m;
    after = n;
    was = at;
    now = get_set_same ms t m n at;
    count = length-set ms t n;
    others = λ k differ. get_set_other ms t k n differ;
    is = is;
  }

  -- what stands at a place is what was changed, or what stood there
  pub at_changed : {t : ℕ} {ms ns : List (Mutator R)} (Is : Mutator R → Mutator R → Type 0) (c : ChangedAt t ms ns Is)
      (k : ℕ) {r : Mutator R} → slice_get ns k ≡ Some r
      → ((k ≡ t) × (c.after ≡ r)) ⊎ ((k ≢ t) × (slice_get ms k ≡ Some r))
  at_changed {t} {ns} Is c k {r} at = elim (cases_eq k t) [
    | inl same ↦
        let both : Some c.after ≡ Some r = sym c.now ∙ (ap (λ (i : ℕ). slice_get ns i) (sym same) ∙ at) in
        inl (same, let one : c.after ≡ r = cc in one)
    | inr differ ↦ inr (differ, sym (c.others k differ) ∙ at)
  ]

  -- what holds of those that stood and of the one that was changed holds of all
  pub all_changed : (P : Mutator R → Type 0) (t : ℕ) (ms ns : List (Mutator R)) (Is : Mutator R → Mutator R → Type 0)
      (c : ChangedAt t ms ns Is) → P c.after → ((k : ℕ) (m : Mutator R) → slice_get ms k ≡ Some m → P m) → All P ns
  all_changed P t ms ns Is c here others = all_by P ns (λ k r at. elim (at_changed Is c k at) [
    | inl same ↦ subst P same.1 here
    | inr other ↦ others k r other.1
  ])

  pub all_set : (P : Mutator R → Type 0) (t : ℕ) (ms : List (Mutator R)) (m n : Mutator R) → slice_get ms t ≡ Some m
      → P n → All P ms → All P (set ms t n)
  unfolding set_changes
  all_set P t ms m n at here all =
      let Is : Mutator R → Mutator R → Type 0 = λ x y. Unit {0} in
      all_changed P t ms (set ms t n) Is (set_changes t ms m n Is at tt) here (λ k x there. all_at P ms k x all there)

  -- all have their seats still
  pub changed_seated : (words : EpochWords) (t : ℕ) (ms ns : List (Mutator R)) (Is : Mutator R → Mutator R → Type 0)
      (c : ChangedAt t ms ns Is) → IsSeated words c.after → All (HasJoined words) ms → All (IsSeated words) ns
  changed_seated words t ms ns Is c here joined =
      all_changed (IsSeated words) t ms ns Is c here (λ k m at. (all_at (HasJoined words) ms k m joined at).seated)

  -- a count that was 0 for all is that of the one that was changed
  pub changed_sum : (f : Mutator R → ℕ) (t : ℕ) (ms ns : List (Mutator R)) (Is : Mutator R → Mutator R → Type 0)
      (c : ChangedAt t ms ns Is) → ((k : ℕ) (m : Mutator R) → slice_get ms k ≡ Some m → f m ≡ 0)
      → sum_by f ns ≡ f c.after
  changed_sum f t ms ns Is c none =
      sum_one f ns t c.after c.now (λ k y differ at. none k y (sym (c.others k differ) ∙ at))
