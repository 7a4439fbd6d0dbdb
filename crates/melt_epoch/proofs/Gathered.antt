-- What a seat knows and has counted that took in the seats of all mutators.
use Rattle.std.proofs.Common.{◌≡◌, ◌⊎◌, ℕ, zero, suc, ◌+◌, ◌<◌, ◌||◌, Bool}
use Rattle.std.proofs.Common.{true, false, List, [], ◌∷◌, ◌++◌, length, map}
use Rattle.std.proofs.Common.{get_or, refl, sym, ◌∙◌, ap, subst, arith, inl, inr, append-nil, append_assoc}
use Rattle.std.proofs.lemmas.Bool.{false≢true, or_cases, or_left, or_right}
use Rattle.std.proofs.lemmas.List.Elements.{All-tail}
use Rattle.std.proofs.lemmas.List.Sums.{sum_by-cons}
use Rattle.std.specs.List.{sum_by}
use Rattle.std.specs.Prelude.{All, Contains}
use lib.ListN.{get_elem?}
use mathlib.Core.Option.{some, some-injective, some-ne-none}
use Rattle.atomic_table.proofs.Lists.{at_longer}
use Rattle.melt_rule.proofs.Pieces.{at_append, at_after}
use Rattle.melt_rule.specs.Giving.{joined_view, spent_view}
use Rattle.melt_rule.specs.Rule.{Has, has_cause, threads_of}
use Rattle.melt_rule.specs.Seats.{EpochWords, knows_of}
use Rattle.melt_rule.specs.declared.began.Pair.{Pair}
use Rattle.melt_rule.specs.declared.view.Away.{Away}
use Rattle.melt_rule.specs.declared.view.View.{View}
use Rattle.melt_epoch.specs.Ends.{SomeCause, SomeKnows, SomeView, view_in, view_of}
use Rattle.melt_epoch.specs.Gathering.{gathered, gathered_all}
use Rattle.melt_epoch.specs.Mutators.{IsSeated, StandFor}
use Rattle.melt_epoch.specs.declared.mutator.Mutator.{Mutator}

has_left : (l m : List Pair) (a n : ℕ) → Has l a n → Has (l ++ m) a n
has_left l m a n x = (x.0, at_longer l m x.0 (record { address = a; object = n }) x.1)

has_right : (l m : List Pair) (a n : ℕ) → Has m a n → Has (l ++ m) a n
has_right l m a n x = (length l + x.0, at_after l m x.0 (record { address = a; object = n }) x.1)

has_either : (l m : List Pair) (a n : ℕ) → Has (l ++ m) a n → Has l a n ⊎ Has m a n
has_either l m a n x = elim (at_append l m x.0 (record { address = a; object = n }) x.1) [
  | inl h ↦ inl (x.0, h)
  | inr h ↦ inr (h.0, h.2)
]

pub has_none : (a n : ℕ) → Has [] a n → ⊥
has_none a n x = some-ne-none (record { address = a; object = n }) (sym x.1)

-- what is read at a place of a list stands there
pub stands_at : {A : Type 0} (l : List A) (k : ℕ) (d : A) → k < length l → get_elem? l k ≡ some (get_or l k d)
stands_at [] k d below = absurd (omega arith)
stands_at (x ∷ l) zero d below = refl
stands_at (x ∷ l) (suc k) d below = stands_at l k d (omega arith)

pub contains_at : (l : List ℕ) (p t : ℕ) → get_elem? l p ≡ some t → Contains l t
contains_at [] p t at = absurd (some-ne-none t (sym at))
contains_at (x ∷ l) zero t at = (0, omega arith, some-injective x t at)
contains_at (x ∷ l) (suc p) t at =
    let after = contains_at l p t at in (suc after.0, (let below = after.1 in omega arith), after.2)

module _ {R : Type 0} where
  -- What the seat of a mutator knows that comes back.
  pub record Back (m : Mutator R) : Type 0 where
    pub thread : (view_of m).thread ≡ m.thread
    pub one : (view_of m).parts ≡ 1
    pub alone : (view_of m).away ≡ []
    pub own : (view_of m).mine ≡ (view_of m).seen
    pub registers : StandFor (view_of m).known m.registers.regs m.values

  pub comes_back : (words : EpochWords) (m : Mutator R) → IsSeated words m → Back m
  comes_back words m seated =
      let here : knows_of seated.seat ≡ view_of m = sym (ap view_in seated.there) in
      record {
        thread = subst (λ (v : View). v.thread ≡ m.thread) here seated.thread;
        one = subst (λ (v : View). v.parts ≡ 1) here seated.one;
        alone = subst (λ (v : View). v.away ≡ []) here seated.alone;
        own = subst (λ (v : View). v.mine ≡ v.seen) here seated.idle.own;
        registers = subst (λ (v : View). StandFor v.known m.registers.regs m.values) here seated.registers;
      }

  -- numbers of both add up
  gathered_sum : (f : View → ℕ) → ((v w : View) → f (joined_view v w) ≡ f v + f w) → (v : View) (ms : List (Mutator R))
      → f (gathered v (map view_of ms)) ≡ f v + sum_by (λ (m : Mutator R). f (view_of m)) ms
  gathered_sum f joins v [] = omega arith
  gathered_sum f joins v (m ∷ ms) =
      let more = gathered_sum f joins (joined_view v (view_of m)) ms in
      let one = joins v (view_of m) in
      let sum = sum_by-cons (λ (x : Mutator R). f (view_of x)) m ms in
      omega arith

  pub all_sum : (f : View → ℕ) → ((v w : View) → f (joined_view v w) ≡ f v + f w) → f spent_view ≡ 0
      → (ms : List (Mutator R))
      → f (gathered_all (map view_of ms)) ≡ sum_by (λ (m : Mutator R). f (view_of m)) ms
  all_sum f joins none [] = none
  all_sum f joins none (m ∷ ms) =
      let more = gathered_sum f joins (view_of m) ms in
      let sum = sum_by-cons (λ (x : Mutator R). f (view_of x)) m ms in
      omega arith

  -- each seat speaks for one thread
  pub one_each : (ms : List (Mutator R)) → All Back ms → sum_by (λ (m : Mutator R). (view_of m).parts) ms ≡ length ms
  one_each [] back = refl
  one_each (m ∷ ms) back =
      let more = one_each ms (All-tail Back m ms back) in
      let one = (back 0 m (omega arith)).one in
      let sum = sum_by-cons (λ (x : Mutator R). (view_of x).parts) m ms in
      omega arith

  -- the first keeps its own
  pub gathered_first : {A : Type 0} (f : View → A) → ((v w : View) → f (joined_view v w) ≡ f v) → (v : View)
      (ms : List (Mutator R)) → f (gathered v (map view_of ms)) ≡ f v
  gathered_first f keeps v [] = refl
  gathered_first f keeps v (m ∷ ms) = gathered_first f keeps (joined_view v (view_of m)) ms ∙ keeps v (view_of m)

  -- what one of them found was found
  gathered_flag : (f : View → Bool) → ((v w : View) → f (joined_view v w) ≡ (f v || f w)) → (v : View)
      (ms : List (Mutator R)) → f v ≡ true → f (gathered v (map view_of ms)) ≡ true
  gathered_flag f joins v [] is = is
  gathered_flag f joins v (m ∷ ms) is =
      gathered_flag f joins (joined_view v (view_of m)) ms (joins v (view_of m) ∙ or_left (f v) (f (view_of m)) is)

  gathered_flag_at : (f : View → Bool) → ((v w : View) → f (joined_view v w) ≡ (f v || f w)) → (v : View)
      (ms : List (Mutator R)) (k : ℕ) (d : Mutator R) → k < length ms → f (view_of (get_or ms k d)) ≡ true
      → f (gathered v (map view_of ms)) ≡ true
  gathered_flag_at f joins v [] k d below is = absurd (omega arith)
  gathered_flag_at f joins v (m ∷ ms) zero d below is =
      gathered_flag f joins (joined_view v (view_of m)) ms (joins v (view_of m) ∙ or_right (f v) (f (view_of m)) is)
  gathered_flag_at f joins v (m ∷ ms) (suc k) d below is =
      gathered_flag_at f joins (joined_view v (view_of m)) ms k d (omega arith) is

  pub all_flag : (f : View → Bool) → ((v w : View) → f (joined_view v w) ≡ (f v || f w)) → (ms : List (Mutator R))
      (k : ℕ) (d : Mutator R) → k < length ms → f (view_of (get_or ms k d)) ≡ true
      → f (gathered_all (map view_of ms)) ≡ true
  all_flag f joins [] k d below is = absurd (omega arith)
  all_flag f joins (m ∷ ms) zero d below is = gathered_flag f joins (view_of m) ms is
  all_flag f joins (m ∷ ms) (suc k) d below is = gathered_flag_at f joins (view_of m) ms k d (omega arith) is

  -- what one of them knew is known
  gathered_has : (v : View) (ms : List (Mutator R)) (a n : ℕ) → Has v.known a n
      → Has (gathered v (map view_of ms)).known a n
  gathered_has v [] a n has = has
  gathered_has v (m ∷ ms) a n has =
      gathered_has (joined_view v (view_of m)) ms a n (has_left v.known (view_of m).known a n has)

  gathered_has_at : (v : View) (ms : List (Mutator R)) (k : ℕ) (m : Mutator R) (a n : ℕ) → get_elem? ms k ≡ some m
      → Has (view_of m).known a n → Has (gathered v (map view_of ms)).known a n
  gathered_has_at v [] k m a n at has = absurd (some-ne-none m (sym at))
  gathered_has_at v (x ∷ ms) zero m a n at has =
      let here : Has (view_of x).known a n =
      subst (λ (y : Mutator R). Has (view_of y).known a n) (sym (some-injective x m at)) has in
      gathered_has (joined_view v (view_of x)) ms a n (has_right v.known (view_of x).known a n here)
  gathered_has_at v (x ∷ ms) (suc k) m a n at has = gathered_has_at (joined_view v (view_of x)) ms k m a n at has

  pub all_has : (ms : List (Mutator R)) (a n : ℕ) → SomeKnows ms a n → Has (gathered_all (map view_of ms)).known a n
  all_has [] a n some_ = absurd (some-ne-none some_.mutator (sym some_.at))
  all_has (x ∷ ms) a n some_ = all_at x ms some_.place some_.mutator a n some_.at some_.is
    where
      all_at : (x : Mutator R) (ms : List (Mutator R)) (k : ℕ) (m : Mutator R) (a n : ℕ) → get_elem? (x ∷ ms) k ≡ some m
          → Has (view_of m).known a n → Has (gathered (view_of x) (map view_of ms)).known a n
      all_at x ms zero m a n at has =
          gathered_has (view_of x) ms a n
          (subst (λ (y : Mutator R). Has (view_of y).known a n) (sym (some-injective x m at)) has)
      all_at x ms (suc k) m a n at has = gathered_has_at (view_of x) ms k m a n at has

  -- What is so of the whole was so of one of them, where it is so of two together only by one of the two.
  module _ (Is : View → Type 0) (splits : (v w : View) → Is (joined_view v w) → Is v ⊎ Is w) where
    some_after : (x : Mutator R) (ms : List (Mutator R)) → SomeView ms Is → SomeView (x ∷ ms) Is
    some_after x ms one = record { place = suc one.place; mutator = one.mutator; at = one.at; is = one.is }

    gathered_some : (v : View) (ms : List (Mutator R)) → Is (gathered v (map view_of ms)) → Is v ⊎ SomeView ms Is
    gathered_some v [] is = inl is
    gathered_some v (m ∷ ms) is = elim (gathered_some (joined_view v (view_of m)) ms is) [
      | inl both ↦ elim (splits v (view_of m) both) [
        | inl first ↦ inl first
        | inr here ↦ inr (record { place = 0; mutator = m; at = refl; is = here })
      ]
      | inr more ↦ inr (some_after m ms more)
    ]

    all_some : (Is spent_view → ⊥) → (ms : List (Mutator R)) → Is (gathered_all (map view_of ms)) → SomeView ms Is
    all_some none [] is = absurd (none is)
    all_some none (m ∷ ms) is = elim (gathered_some (view_of m) ms is) [
      | inl here ↦ record { place = 0; mutator = m; at = refl; is = here }
      | inr more ↦ some_after m ms more
    ]

  -- nothing else is known
  pub all_only : (ms : List (Mutator R)) (a n : ℕ) → Has (gathered_all (map view_of ms)).known a n → SomeKnows ms a n
  all_only ms a n =
      all_some (λ (v : View). Has v.known a n) (λ v w. has_either v.known w.known a n) (has_none a n) ms

  -- and a cause to stop is that of one
  some_flag : (f : View → Bool) → ((v w : View) → f (joined_view v w) ≡ (f v || f w)) → f spent_view ≡ false
      → (ms : List (Mutator R)) → f (gathered_all (map view_of ms)) ≡ true → SomeView ms (λ (v : View). f v ≡ true)
  some_flag f joins none =
      all_some (λ (v : View). f v ≡ true) (λ v w both. or_cases (f v) (f w) (sym (joins v w) ∙ both))
      (λ is. false≢true (sym none ∙ is))

  causes : (f : View → Bool) → ((v : View) → f v ≡ true → has_cause v ≡ true) → (ms : List (Mutator R))
      → SomeView ms (λ (v : View). f v ≡ true) → SomeCause ms
  causes f cause ms one =
      record { place = one.place; mutator = one.mutator; at = one.at; is = cause (view_of one.mutator) one.is }

  pub some_cause : (ms : List (Mutator R)) → has_cause (gathered_all (map view_of ms)) ≡ true → SomeCause ms
  some_cause ms has =
      let all : View = gathered_all (map view_of ms) in
      elim (or_cases all.asked (all.spaced || all.forwarded) has) [
        | inl asked ↦ causes (λ v. v.asked) (λ v is. or_left v.asked (v.spaced || v.forwarded) is) ms
            (some_flag (λ v. v.asked) (λ v w. refl) refl ms asked)
        | inr lacks ↦ elim (or_cases all.spaced all.forwarded lacks) [
          | inl spaced ↦ causes (λ v. v.spaced)
              (λ v is. or_right v.asked (v.spaced || v.forwarded) (or_left v.spaced v.forwarded is)) ms
              (some_flag (λ v. v.spaced) (λ v w. refl) refl ms spaced)
          | inr forwarded ↦ causes (λ v. v.forwarded)
              (λ v is. or_right v.asked (v.spaced || v.forwarded) (or_right v.spaced v.forwarded is)) ms
              (some_flag (λ v. v.forwarded) (λ v w. refl) refl ms forwarded)
        ]
      ]

  -- the thread of a seat that was taken in, and what it had seen
  abbrev pub away_of : Mutator R → Away
  away_of m = record { thread = (view_of m).thread; seen = (view_of m).mine }

  pub gathered_away : (v : View) (ms : List (Mutator R)) → All Back ms
      → (gathered v (map view_of ms)).away ≡ v.away ++ map away_of ms
  gathered_away v [] back = sym (append-nil v.away)
  gathered_away v (m ∷ ms) back =
      gathered_away (joined_view v (view_of m)) ms (All-tail Back m ms back)
      ∙ (ap (λ (l : List Away). (v.away ++ away_of m ∷ l) ++ map away_of ms) (back 0 m (omega arith)).alone
      ∙ append_assoc v.away (away_of m ∷ []) (map away_of ms))

  threads_back : (ms : List (Mutator R)) → All Back ms
      → map (λ (a : Away). a.thread) (map away_of ms) ≡ map (λ (m : Mutator R). m.thread) ms
  threads_back [] back = refl
  threads_back (m ∷ ms) back =
      λ i. (back 0 m (omega arith)).thread i ∷ threads_back ms (All-tail Back m ms back) i

  pub away_is : (m : Mutator R) (ms : List (Mutator R)) → All Back (m ∷ ms)
      → (gathered (view_of m) (map view_of ms)).away ≡ map away_of ms
  away_is m ms back =
      gathered_away (view_of m) ms (All-tail Back m ms back)
      ∙ ap (λ (l : List Away). l ++ map away_of ms) (back 0 m (omega arith)).alone

  -- it speaks for all threads
  pub all_threads : (m : Mutator R) (ms : List (Mutator R)) → All Back (m ∷ ms)
      → threads_of (gathered (view_of m) (map view_of ms)) ≡ map (λ (x : Mutator R). x.thread) (m ∷ ms)
  all_threads m ms back =
      let first : (gathered (view_of m) (map view_of ms)).thread ≡ m.thread =
      gathered_first (λ (v : View). v.thread) (λ v w. refl) (view_of m) ms ∙ (back 0 m (omega arith)).thread in
      let others : map (λ (a : Away). a.thread) (gathered (view_of m) (map view_of ms)).away
      ≡ map (λ (x : Mutator R). x.thread) ms =
      ap (map (λ (a : Away). a.thread)) (away_is m ms back) ∙ threads_back ms (All-tail Back m ms back) in
      λ i. first i ∷ others i
