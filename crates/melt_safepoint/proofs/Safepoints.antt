-- Which threads wait after the collections of a safepoint, and how many collections there are.
use Rattle.std.specs.Prelude.{None, Some, slice_get, slice_set}
use Rattle.std.proofs.Common.{◌≡◌, ℕ, ◌+◌, ◌<◌, ◌≤◌, zero, suc, List, [], ◌∷◌, length, take, refl, sym, ◌∙◌, ap, subst}
use Rattle.std.proofs.Common.{arith, ◌⊎◌, inl, inr}
use Rattle.std.proofs.Math.ListN.{set}
use Rattle.std.proofs.lemmas.Bool.{cases_eq}
use Rattle.std.proofs.lemmas.List.Sums.{sum-map, sum_by-cons}
use Rattle.std.proofs.lemmas.Option.{same_Some, slice_get_within, slice_get_cases}
use Rattle.melt_model.specs.declared.config.Config.{Config}
use Rattle.melt_model.specs.declared.reports.Journal.{Journal}
use Rattle.melt_safepoint.specs.declared.thread.Mode.{Mode}
use Rattle.melt_safepoint.specs.declared.thread.Mode.TheVariants.{Running, Due, Silent, Collecting, Asked, Lacking}
use Rattle.melt_safepoint.specs.declared.thread.Mode.TheVariants.{Ended}
use Rattle.melt_safepoint.specs.declared.thread.ThreadState.{ThreadState}
use Rattle.melt_safepoint.specs.Journals.{OneMore, Planned, before, next_of}
use Rattle.melt_safepoint.specs.Passing.{NoneLacks, CalledAt, WaitsForRoom, CollectedAll, CollectedFor, NoneOwn}
use Rattle.melt_safepoint.specs.Modes.{ForCollection, IsPaused, collections_for}
use Rattle.melt_safepoint.specs.Threads.{NoneBelow, collections_due}
use Rattle.melt_safepoint.proofs.Passing.{CollectedBelow, for_collection}
use Rattle.melt_safepoint.proofs.Threads.{get_set_same, get_set_other}

-- a thread that waits for a collection waits
own_paused : (mode : Mode) → ForCollection mode → IsPaused mode
own_paused Running own = own
own_paused Due own = own
own_paused Silent own = own
own_paused Collecting own = own
own_paused Asked own = absurd own
own_paused Lacking own = absurd own
own_paused (Ended e) own = own

-- it waits for one, and another for none
pub own_one : (mode : Mode) → (ForCollection mode × (collections_for mode ≡ 1))
    ⊎ ((ForCollection mode → ⊥) × (collections_for mode ≡ 0))
own_one Running = inr (λ own. own, refl)
own_one Due = inr (λ own. own, refl)
own_one Silent = inl (tt, refl)
own_one Collecting = inl (tt, refl)
own_one Asked = inr (λ own. own, refl)
own_one Lacking = inr (λ own. own, refl)
own_one (Ended e) = inr (λ own. own, refl)

-- after its collection a thread waits for none
collected_own : (s x : ThreadState) → CollectedFor s x → ForCollection x.mode → ⊥
collected_own s x made own = elim (for_collection s.mode) [
  | inl waits ↦ made.goes waits (own_paused x.mode own)
  | inr not ↦ not (subst (λ (y : ThreadState). ForCollection y.mode) (made.same not) own)
]

-- so the first threads wait for none
pub none_below : (states after : List ThreadState) (n : ℕ) → CollectedBelow states after n
    → NoneBelow ForCollection after n
none_below states after n below = λ u x under at own. elim (slice_get_cases states u).1 [
  | inl w ↦
      let y : (y : ThreadState) × (slice_get after u ≡ Some y) × CollectedFor w.0 y = below.done u w.0 under w.2 in
      collected_own w.0 x (subst (CollectedFor w.0) (same_Some y.0 x (sym y.1 ∙ at)) y.2) own
  | inr w ↦ absurd (let within : u < length after = slice_get_within after u x at in
      omega (arith, within, below.count, w.0))
]

-- and so do all
pub none_own : (states after : List ThreadState) → CollectedAll states after → NoneOwn after
none_own states after all = λ u x at own. elim (slice_get_cases states u).1 [
  | inl w ↦
      let y : (y : ThreadState) × (slice_get after u ≡ Some y) × CollectedFor w.0 y = all.each u w.0 w.2 in
      collected_own w.0 x (subst (CollectedFor w.0) (same_Some y.0 x (sym y.1 ∙ at)) y.2) own
  | inr w ↦ absurd (let within : u < length after = slice_get_within after u x at in
      omega (arith, within, all.count, w.0))
]

-- also after the call of a thread
pub called_own : (states after : List ThreadState) (t : ℕ) (s : ThreadState) → NoneOwn states
    → slice_get states t ≡ Some s → CalledAt states after t → NoneOwn after
called_own states after t s none at called = λ u x there own.
    let one : (x : ThreadState) × (after ≡ slice_set states t x) × _ × (IsPaused x.mode → ⊥) = called s at in
    let is : slice_get (set states t one.0) u ≡ Some x =
    ap (λ (xs : List ThreadState). slice_get xs u) (sym one.1) ∙ there in
    elim (cases_eq u t) [
      | inl same ↦
          let here : one.0 ≡ x =
          same_Some one.0 x (sym (get_set_same states t s one.0 at)
          ∙ (ap (λ (k : ℕ). slice_get (set states t one.0) k) (sym same) ∙ is)) in
          one.3 (subst (λ (y : ThreadState). IsPaused y.mode) (sym here) (own_paused x.mode own))
      | inr other ↦ none u x (sym (get_set_other states t u one.0 other) ∙ is) own
    ]

-- no collection or one, after others
pub planned_more : (config : Config) (m k : ℕ) (a b c : List Journal) → k ≤ 1 → Planned config m a b
    → Planned config k b c → Planned config (m + k) a c
planned_more config m zero a b c few first second =
    let same : m ≡ m + 0 = omega arith in
    subst (λ (n : ℕ). Planned config n a c) same (subst (Planned config m a) (sym second) first)
planned_more config m (suc zero) a b c few first second =
    let same : suc m ≡ m + 1 = omega arith in
    let one : Planned config (suc m) a c = (
      b,
      first,
      subst (λ (js : List Journal). OneMore (next_of config (before js (length js))) js c) second.1 second.2,
    ) in
    subst (λ (n : ℕ). Planned config n a c) same one
planned_more config m (suc (suc k)) a b c few first second = absurd (omega (arith, few))

-- how many collections the first threads wait for, and one thread more
pub due_more : (states : List ThreadState) (n : ℕ) (s : ThreadState) → slice_get states n ≡ Some s
    → collections_due (take (suc n) states) ≡ collections_due (take n states) + collections_for s.mode
due_more [] n s at = absurd (cc)
due_more (x ∷ states) zero s at =
    let same : x ≡ s = same_Some x s at in
    let f : ThreadState → ℕ = λ (y : ThreadState). collections_for y.mode in
    omega (arith, sum-map f (x ∷ []), sum_by-cons f x [], ap f same)
due_more (x ∷ states) (suc n) s at =
    let f : ThreadState → ℕ = λ (y : ThreadState). collections_for y.mode in
    omega (
      arith,
      due_more states n s at,
      sum-map f (take (suc n) states),
      sum-map f (take n states),
      sum-map f (x ∷ take (suc n) states),
      sum-map f (x ∷ take n states),
      sum_by-cons f x (take (suc n) states),
      sum_by-cons f x (take n states),
    )

pub take_past : (states : List ThreadState) (n : ℕ) → length states ≤ n → take n states ≡ states
take_past [] zero past = refl
take_past [] (suc n) past = refl
take_past (x ∷ states) zero past = absurd (omega arith)
take_past (x ∷ states) (suc n) past = ap (λ (xs : List ThreadState). x ∷ xs) (take_past states n (omega arith))

-- where no collection is waited for, no thread waits for one
pub due_none : (states : List ThreadState) (t : ℕ) (s : ThreadState) → collections_due states ≡ 0
    → slice_get states t ≡ Some s → ForCollection s.mode → ⊥
due_none [] t s none at own = let wrong : None ≡ Some s = at in cc
due_none (x ∷ states) zero s none at own =
    let f : ThreadState → ℕ = λ (y : ThreadState). collections_for y.mode in
    let first : ForCollection x.mode = subst (λ (y : ThreadState). ForCollection y.mode) (sym (same_Some x s at)) own in
    elim (own_one x.mode) [
      | inl one ↦ omega (arith, none, one.1, sum-map f (x ∷ states), sum-map f states, sum_by-cons f x states)
      | inr not ↦ not.0 first
    ]
due_none (x ∷ states) (suc t) s none at own =
    let f : ThreadState → ℕ = λ (y : ThreadState). collections_for y.mode in
    due_none states t s (omega (arith, none, sum-map f (x ∷ states), sum-map f states, sum_by-cons f x states)) at own

-- the same threads lack room after the collections as before
pub none_lacks : (states after : List ThreadState) → CollectedAll states after → NoneLacks after → NoneLacks states
none_lacks states after all none t s at lacks =
    let x : (x : ThreadState) × (slice_get after t ≡ Some x) × CollectedFor s x = all.each t s at in
    let never : ForCollection s.mode → ⊥ = λ own. subst ForCollection lacks own in
    none t x.0 x.1 (ap (λ (z : ThreadState). z.mode) (x.2.same never) ∙ lacks)

pub room_before : (states after : List ThreadState) (t : ℕ) → CollectedAll states after → WaitsForRoom after t
    → WaitsForRoom states t
room_before states after t all waits = elim (slice_get_cases states t).1 [
  | inl w ↦
      let x : (x : ThreadState) × (slice_get after t ≡ Some x) × CollectedFor w.0 x = all.each t w.0 w.2 in
      let is : x.0 ≡ waits.0 = same_Some x.0 waits.0 (sym x.1 ∙ waits.1) in
      let lacks : x.0.mode ≡ Lacking = ap (λ (z : ThreadState). z.mode) is ∙ waits.2 in
      elim (for_collection w.0.mode) [
        | inl own ↦ absurd (x.2.goes own (subst IsPaused (sym lacks) tt))
        | inr not ↦ (w.0, w.2, ap (λ (z : ThreadState). z.mode) (sym (x.2.same not)) ∙ lacks)
      ]
  | inr w ↦ absurd (let within : t < length after = slice_get_within after t waits.0 waits.1 in
      omega (arith, within, all.count, w.0))
]

-- the lowest of them is the lowest
pub lowest_before : (states after : List ThreadState) (t : ℕ) → CollectedAll states after
    → NoneBelow (λ mode. mode ≡ Lacking) after t → NoneBelow (λ mode. mode ≡ Lacking) states t
lowest_before states after t all none u s below at lacks =
    let x : (x : ThreadState) × (slice_get after u ≡ Some x) × CollectedFor s x = all.each u s at in
    let never : ForCollection s.mode → ⊥ = λ own. subst ForCollection lacks own in
    none u x.0 below x.1 (ap (λ (z : ThreadState). z.mode) (x.2.same never) ∙ lacks)
