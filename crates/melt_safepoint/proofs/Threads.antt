-- Lists of threads of which one was set.
use Rattle.std.specs.Prelude.{Some, map, slice_get, sum, drop}
use Rattle.std.proofs.Common.{[], ◌≡◌, ◌≢◌, ℕ, ◌+◌, ◌≤◌, zero, suc, List, ◌∷◌, ◌++◌, length, take, refl, sym, ◌∙◌, ap}
use Rattle.std.proofs.Common.{subst, arith, inl, inr}
use Rattle.std.proofs.Math.ListN.{set, length-set}
use Rattle.std.proofs.lemmas.Bool.{cases_eq}
use Rattle.std.proofs.lemmas.List.{append-nil, set-get_or}
use Rattle.std.proofs.lemmas.List.Sums.{sum-map, sum_by-set, get_or-le-sum_by}
use Rattle.std.proofs.lemmas.Option.{same_Some, slice_get_within, get_or_from_slice_get}
use Rattle.melt_model.specs.declared.operations.Reply.{Reply}
use Rattle.melt_safepoint.specs.declared.thread.ThreadState.{ThreadState}
use Rattle.melt_safepoint.specs.Threads.{left, replies_of, to_reply, Later}
use Rattle.melt_safepoint.specs.Modes.{IsEnded}
use Rattle.melt_safepoint.proofs.Cuts.{replies_here}

-- an element of a list in which one was set
pub get_set_same : {A : Type 0} (xs : List A) (t : ℕ) (x y : A) → slice_get xs t ≡ Some x
    → slice_get (set xs t y) t ≡ Some y
get_set_same [] t x y at = absurd (cc)
get_set_same (z ∷ xs) zero x y at = refl
get_set_same (z ∷ xs) (suc t) x y at = get_set_same xs t x y at

-- the others stay as they were
pub get_set_other : {A : Type 0} (xs : List A) (t u : ℕ) (y : A) → u ≢ t → slice_get (set xs t y) u ≡ slice_get xs u
get_set_other [] t u y differ = refl
get_set_other (z ∷ xs) zero zero y differ = absurd (differ refl)
get_set_other (z ∷ xs) zero (suc u) y differ = refl
get_set_other (z ∷ xs) (suc t) zero y differ = refl
get_set_other (z ∷ xs) (suc t) (suc u) y differ = get_set_other xs t u y (λ same. differ (ap suc same))

-- an element that is set where it stands
pub set_got : (states : List ThreadState) (t : ℕ) (s : ThreadState) → slice_get states t ≡ Some s
    → set states t s ≡ states
set_got states t s at = subst (λ (y : ThreadState). set states t y ≡ states) (get_or_from_slice_get states t s s at)
    (set-get_or states t s)

-- the first of the elements that are left, where it stands, and what is left after it
pub drop_next : {A : Type 0} (xs rest : List A) (k : ℕ) (x : A) → drop k xs ≡ x ∷ rest → drop (suc k) xs ≡ rest
drop_next [] rest zero x is = absurd (cc)
drop_next [] rest (suc k) x is = absurd (cc)
drop_next (y ∷ xs) rest zero x is = cc
drop_next (y ∷ xs) rest (suc k) x is = drop_next xs rest k x is

-- with those before it, one element more is taken
pub take_next : {A : Type 0} (xs rest : List A) (k : ℕ) (x : A) → drop k xs ≡ x ∷ rest
    → take (suc k) xs ≡ take k xs ++ x ∷ []
take_next [] rest zero x is = absurd (cc)
take_next [] rest (suc k) x is = absurd (cc)
take_next (y ∷ xs) rest zero x is = cc
take_next (y ∷ xs) rest (suc k) x is = ap (λ (ys : List _). y ∷ ys) (take_next xs rest k x is)

-- it stands where so many were dropped
pub get_next : {A : Type 0} (xs rest : List A) (k : ℕ) (x : A) → drop k xs ≡ x ∷ rest → slice_get xs k ≡ Some x
get_next [] rest zero x is = absurd (cc)
get_next [] rest (suc k) x is = absurd (cc)
get_next (y ∷ xs) rest zero x is = cc
get_next (y ∷ xs) rest (suc k) x is = get_next xs rest k x is

-- a state that was set leaves the replies of other threads
pub replies_other : (states : List ThreadState) (t u : ℕ) (after : ThreadState) → u ≢ t
    → replies_of (set states t after) u ≡ replies_of states u
replies_other [] t u after differ = refl
replies_other (x ∷ states) zero zero after differ = absurd (differ refl)
replies_other (x ∷ states) zero (suc u) after differ = refl
replies_other (x ∷ states) (suc t) zero after differ = refl
replies_other (x ∷ states) (suc t) (suc u) after differ = replies_other states t u after (λ same. differ (ap suc same))

-- and gives its own thread those of the new state
pub replies_same : (states : List ThreadState) (t : ℕ) (s after : ThreadState) → slice_get states t ≡ Some s
    → replies_of (set states t after) t ≡ after.replies.items
replies_same states t s after at = replies_here (set states t after) t after (get_set_same states t s after at)

-- a thread that has not ended may get more replies
pub later_set : (states : List ThreadState) (t : ℕ) (s after : ThreadState) (extra : List Reply)
    → slice_get states t ≡ Some s → (IsEnded s.mode → ⊥) → after.replies.items ≡ s.replies.items ++ extra
    → Later states (set states t after)
later_set states t s after extra at runs grown =
    let here : replies_of (set states t after) t ≡ replies_of states t ++ extra =
    replies_same states t s after at
    ∙ (grown ∙ ap (λ (xs : List Reply). xs ++ extra) (sym (replies_here states t s at))) in
    record {
      count = length-set states t after;
      replies = λ u. elim (cases_eq u t) [
        | inl same ↦ subst (λ (k : ℕ). (more : List Reply)
            × (replies_of (set states t after) k ≡ replies_of states k ++ more)) (sym same) (extra, here)
        | inr differ ↦ ([], replies_other states t u after differ ∙ sym (append-nil (replies_of states u)))
      ];
      ended = λ u x there over. elim (cases_eq u t) [
        | inl same ↦ absurd (runs (subst (λ (y : ThreadState). IsEnded y.mode)
            (same_Some x s (sym (subst (λ (k : ℕ). slice_get states k ≡ Some x) same there) ∙ at)) over))
        | inr differ ↦ get_set_other states t u after differ ∙ there
      ];
    }

-- a sum over all states, where one was set
pub sum_set : (f : ThreadState → ℕ) (states : List ThreadState) (t : ℕ) (s after : ThreadState)
    → slice_get states t ≡ Some s → sum (map f (set states t after)) + f s ≡ sum (map f states) + f after
sum_set f states t s after at =
    omega (
      arith,
      sum-map f states,
      sum-map f (set states t after),
      sum_by-set f states t after s (slice_get_within states t s at),
      ap f (get_or_from_slice_get states t s s at),
    )

-- how many replies are to come, where a state was set
pub to_reply_set : (states : List ThreadState) (t : ℕ) (s after : ThreadState) → slice_get states t ≡ Some s
    → to_reply (set states t after) + length (left s) ≡ to_reply states + length (left after)
to_reply_set states t s after at = sum_set (λ (x : ThreadState). length (left x)) states t s after at

-- the replies to come of one thread are among those of all
pub to_reply_one : (states : List ThreadState) (t : ℕ) (s : ThreadState) → slice_get states t ≡ Some s
    → length (left s) ≤ to_reply states
to_reply_one states t s at =
    let f : ThreadState → ℕ = λ (x : ThreadState). length (left x) in
    omega (
      arith,
      sum-map f states,
      get_or-le-sum_by f states t s (slice_get_within states t s at),
      ap f (get_or_from_slice_get states t s s at),
    )
