-- What all threads have still to do gets less.
use Rattle.std.proofs.Common.{◌≡◌, ℕ, zero, suc, ◌+◌, ◌<◌, ◌≤◌, List, [], ◌∷◌, length, refl, sym, subst, ap, arith}
use Rattle.std.proofs.Math.ListN.{set}
use Rattle.std.proofs.lemmas.List.Sums.{sum-map, sum_by-cons}
use Rattle.std.proofs.lemmas.Option.{same_Some}
use Rattle.std.specs.Prelude.{Some, slice_get}
use Rattle.melt_safepoint.specs.Epochs.{to_do}
use Rattle.melt_safepoint.specs.Modes.{ForCollection, IsEnded, IsPaused, jobs}
use Rattle.melt_safepoint.specs.Passing.{CalledAt, CollectedAll, CollectedFor, Resumed}
use Rattle.melt_safepoint.specs.Threads.{AllEnded, jobs_of, left}
use Rattle.melt_safepoint.specs.declared.thread.Mode.{Mode}
use Rattle.melt_safepoint.specs.declared.thread.Mode.TheVariants.{Asked, Collecting, Due, Ended, Lacking, Running}
use Rattle.melt_safepoint.specs.declared.thread.Mode.TheVariants.{Silent}
use Rattle.melt_safepoint.specs.declared.thread.ThreadState.{ThreadState}
use Rattle.melt_safepoint.proofs.Passing.{collected_jobs}
use Rattle.melt_safepoint.proofs.Threads.{sum_set}

-- the first thread, and those after it
to_do_first : (s : ThreadState) (states : List ThreadState) → to_do (s ∷ states) ≡ jobs_of s + to_do states
to_do_first s states =
    omega (arith, sum-map jobs_of (s ∷ states), sum-map jobs_of states, sum_by-cons jobs_of s states)

-- no thread has more to do than before
abbrev pub NotMore : List ThreadState → List ThreadState → Type 0
NotMore states after = (t : ℕ) (s : ThreadState) → slice_get states t ≡ Some s
    → (x : ThreadState) × (slice_get after t ≡ Some x) × (jobs_of x ≤ jobs_of s)

-- so all together have not
pub to_do_within : (states after : List ThreadState) → length after ≡ length states → NotMore states after
    → to_do after ≤ to_do states
to_do_within [] [] count each = omega arith
to_do_within [] (x ∷ after) count each = absurd (omega (arith, count))
to_do_within (s ∷ states) [] count each = absurd (omega (arith, count))
to_do_within (s ∷ states) (x ∷ after) count each =
    let first : (y : ThreadState) × (Some x ≡ Some y) × (jobs_of y ≤ jobs_of s) = each 0 s refl in
    let fewer : jobs_of x ≤ jobs_of s =
    subst (λ (y : ThreadState). jobs_of y ≤ jobs_of s) (sym (same_Some x first.0 first.1)) first.2 in
    let later : to_do after ≤ to_do states =
    to_do_within states after (omega (arith, count)) (λ t y at. each (suc t) y at) in
    omega (arith, to_do_first s states, to_do_first x after, fewer, later)

-- and where one thread has less, all have less
pub to_do_under : (states after : List ThreadState) (t : ℕ) (s x : ThreadState) → length after ≡ length states
    → NotMore states after → slice_get states t ≡ Some s → slice_get after t ≡ Some x → jobs_of x < jobs_of s
    → to_do after < to_do states
to_do_under [] after t s x count each at now less = absurd (let none : slice_get [] t ≡ Some s = at in cc)
to_do_under (y ∷ states) [] t s x count each at now less = absurd (omega (arith, count))
to_do_under (y ∷ states) (z ∷ after) zero s x count each at now less =
    let was : y ≡ s = same_Some y s at in
    let is : z ≡ x = same_Some z x now in
    let later : to_do after ≤ to_do states =
    to_do_within states after (omega (arith, count)) (λ t q there. each (suc t) q there) in
    omega (arith, to_do_first y states, to_do_first z after, ap jobs_of was, ap jobs_of is, less, later)
to_do_under (y ∷ states) (z ∷ after) (suc t) s x count each at now less =
    let first : (q : ThreadState) × (Some z ≡ Some q) × (jobs_of q ≤ jobs_of y) = each 0 y refl in
    let fewer : jobs_of z ≤ jobs_of y =
    subst (λ (q : ThreadState). jobs_of q ≤ jobs_of y) (sym (same_Some z first.0 first.1)) first.2 in
    let later : to_do after < to_do states =
    to_do_under states after t s x (omega (arith, count)) (λ u q there. each (suc u) q there) at now less in
    omega (arith, to_do_first y states, to_do_first z after, fewer, later)

-- a thread was set that has less to do
pub to_do_set : (states : List ThreadState) (t : ℕ) (s after : ThreadState) → slice_get states t ≡ Some s
    → jobs_of after < jobs_of s → to_do (set states t after) < to_do states
to_do_set states t s after at less = omega (arith, sum_set jobs_of states t s after at, less)

-- or no more
pub to_do_within_set : (states : List ThreadState) (t : ℕ) (s after : ThreadState) → slice_get states t ≡ Some s
    → jobs_of after ≤ jobs_of s → to_do (set states t after) ≤ to_do states
to_do_within_set states t s after at less = omega (arith, sum_set jobs_of states t s after at, less)

-- threads that make their calls again have as much to do as before
pub resumed_same : (states after : List ThreadState) → Resumed states after → to_do after ≤ to_do states
resumed_same states after resumed = to_do_within states after resumed.count (λ t s at.
    let x : (x : ThreadState) × (slice_get after t ≡ Some x) × (jobs_of x ≡ jobs_of s) = resumed.each t s at in
    (x.0, x.1, omega (arith, x.2)))

-- the call of a thread was made, and it has less
pub called_less : (states after : List ThreadState) (t : ℕ) (s : ThreadState) → slice_get states t ≡ Some s
    → CalledAt states after t → to_do after < to_do states
called_less states after t s at called =
    let x : (x : ThreadState) × (after ≡ set states t x) × (jobs_of x < jobs_of s) × (IsPaused x.mode → ⊥) =
    called s at in
    omega (arith, ap to_do x.1, to_do_set states t s x.0 at x.2)

-- collections give none more to do
not_more_collected : (states mid : List ThreadState) → CollectedAll states mid → NotMore states mid
not_more_collected states mid all = λ t s at.
    let x : (x : ThreadState) × (slice_get mid t ≡ Some x) × CollectedFor s x = all.each t s at in
    (x.0, x.1, collected_jobs s x.0 x.2)

pub collected_within : (states mid : List ThreadState) → CollectedAll states mid → to_do mid ≤ to_do states
collected_within states mid all = to_do_within states mid all.count (not_more_collected states mid all)

-- and one for which a collection was made less
pub collected_less : (states mid : List ThreadState) (t : ℕ) (s : ThreadState) → CollectedAll states mid
    → slice_get states t ≡ Some s → ForCollection s.mode → to_do mid < to_do states
collected_less states mid t s all at for =
    let x : (x : ThreadState) × (slice_get mid t ≡ Some x) × CollectedFor s x = all.each t s at in
    to_do_under states mid t s x.0 all.count (not_more_collected states mid all) at x.1 (x.2.fewer for)

-- a thread that has nothing to do has ended
done_ended : (mode : Mode) (count : ℕ) → jobs mode count ≡ 0 → IsEnded mode
done_ended Running count none = absurd (omega (arith, none))
done_ended Due count none = absurd (omega (arith, none))
done_ended Silent count none = absurd (omega (arith, none))
done_ended Collecting count none = absurd (omega (arith, none))
done_ended Asked count none = absurd (omega (arith, none))
done_ended Lacking count none = absurd (omega (arith, none))
done_ended (Ended e) count none = tt

-- and one that has ended has nothing to do
ended_done : (mode : Mode) (count : ℕ) → IsEnded mode → jobs mode count ≡ 0
ended_done Running count is = absurd is
ended_done Due count is = absurd is
ended_done Silent count is = absurd is
ended_done Collecting count is = absurd is
ended_done Asked count is = absurd is
ended_done Lacking count is = absurd is
ended_done (Ended e) count is = refl

-- so it is with all together
pub done_at : (states : List ThreadState) (t : ℕ) (s : ThreadState) → to_do states ≡ 0 → slice_get states t ≡ Some s
    → IsEnded s.mode
done_at [] t s none at = absurd (let no : slice_get [] t ≡ Some s = at in cc)
done_at (x ∷ states) zero s none at =
    subst (λ (y : ThreadState). IsEnded y.mode) (same_Some x s at)
    (done_ended x.mode (length (left x)) (omega (arith, none, to_do_first x states)))
done_at (x ∷ states) (suc t) s none at = done_at states t s (omega (arith, none, to_do_first x states)) at

pub all_done : (states : List ThreadState) → AllEnded states → to_do states ≡ 0
all_done [] all = refl
all_done (x ∷ states) all =
    omega (
      arith,
      to_do_first x states,
      ended_done x.mode (length (left x)) (all 0 x refl),
      all_done states (λ t s at. all (suc t) s at),
    )
