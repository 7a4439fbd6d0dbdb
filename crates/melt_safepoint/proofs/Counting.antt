-- How many collections the replies of all threads bring.
use Rattle.std.specs.Prelude.{Some, slice_get, if◌then◌else◌, ◌⊎◌}
use Rattle.std.specs.List.{count_by}
use Rattle.std.proofs.Common.{[], ◌≡◌, ◌≢◌, ℕ, ◌+◌, ◌*◌, ◌/◌, ◌%◌, ◌<◌, ◌≤◌, zero, suc, false, List, ◌∷◌, length}
use Rattle.std.proofs.Common.{take, refl, sym, ◌∙◌, ap, arith, length-append, inl, inr}
use Rattle.std.proofs.Math.ListN.{length-set, set}
use Rattle.std.proofs.Math.Nat.{div-add-mod, mod-lt, mul-le-mul_left}
use Rattle.std.proofs.lemmas.Bool.{cases_eq, cases_lt}
use Rattle.std.proofs.lemmas.List.Sums.{sum-map, sum_by-cons}
use Rattle.std.proofs.lemmas.Option.{slice_get_within}
use Rattle.melt_model.specs.declared.config.Config.{Config}
use Rattle.melt_model.specs.declared.operations.Op.{Op}
use Rattle.melt_model.specs.declared.operations.Op.TheVariants as op
use Rattle.melt_model.specs.declared.operations.Op.TheVariants.{Collect}
use Rattle.melt_model.specs.declared.operations.Reply.{Reply}
use Rattle.melt_model.specs.declared.reports.ThreadEnd.TheVariants as end
use Rattle.melt_trace.specs.Script.{Script, operations}
use Rattle.melt_safepoint.specs.declared.thread.ThreadState.{ThreadState}
use Rattle.melt_safepoint.specs.declared.thread.Mode.{Mode}
use Rattle.melt_safepoint.specs.declared.thread.Mode.TheVariants.{Running, Due, Silent, Collecting, Asked, Lacking}
use Rattle.melt_safepoint.specs.declared.thread.Mode.TheVariants.{Ended}
use Rattle.melt_safepoint.specs.Counts.{CountsCollections, answers, over, overs}
use Rattle.melt_safepoint.specs.Asked.{collects, collects_of, is_collect, silent_in, total, collections, collections_of}
use Rattle.melt_safepoint.specs.Threads.{DueBy, owing, replies_of, TakesReply}
use Rattle.melt_safepoint.specs.Modes.{IsEnded, owes}
use Rattle.melt_safepoint.proofs.Cuts.{replies_here}
use Rattle.melt_safepoint.proofs.Threads.{replies_other, replies_same, sum_set}

-- the sum over all threads, where what each has is the same
pub total_same : (f g : ℕ → ℕ) (n : ℕ) → ((u : ℕ) → u < n → f u ≡ g u) → total f n ≡ total g n
total_same f g zero same = refl
total_same f g (suc n) same =
    let prefix : total f n ≡ total g n = total_same f g n (λ u below. same u (omega arith)) in
    let here : f n ≡ g n = same n (omega arith) in
    cc

-- and where what no thread but one has differs
total_at : (f g : ℕ → ℕ) (t n : ℕ) → t < n → ((u : ℕ) → u ≢ t → f u ≡ g u)
    → total f n + g t ≡ total g n + f t
total_at f g t zero below same = absurd (omega arith)
total_at f g t (suc n) below same = elim (cases_eq n t) [
  | inl here ↦
      let prefix : total f n ≡ total g n =
      total_same f g n (λ u under. same u (λ is. absurd (omega arith))) in
      omega (arith, prefix, ap f here, ap g here)
  | inr differ ↦
      let prefix : total f n + g t ≡ total g n + f t = total_at f g t n (omega arith) same in
      omega (arith, prefix, same n differ)
]

-- the `collect`s and the collections by the replies of a thread
asked_by : Script → ℕ → List Reply → ℕ
asked_by script u rs = count_by is_collect (take (length rs) (operations script u))

by_replies : Script → Config → ℕ → List Reply → ℕ
by_replies script config u rs = count_by is_collect (take (length rs) (operations script u)) + silent_in config.every
    (length rs)

-- those of another thread stay
asked_other : (script : Script) (states : List ThreadState) (t u : ℕ) (after : ThreadState) → u ≢ t
    → collects_of script (replies_of (set states t after)) u ≡ collects_of script (replies_of states) u
unfolding asked_by
asked_other script states t u after differ = ap (asked_by script u) (replies_other states t u after differ)

-- those of another thread stay
collections_other : (script : Script) (config : Config) (states : List ThreadState) (t u : ℕ) (after : ThreadState)
    → u ≢ t → collections_of script config (replies_of (set states t after)) u ≡ collections_of script config
    (replies_of states) u
unfolding by_replies
collections_other script config states t u after differ =
    ap (by_replies script config u) (replies_other states t u after differ)

-- an operation that is no collection does not count as one
pub is_no_collect : (o : Op) → o ≢ Collect → is_collect o ≡ false
is_no_collect (op.New dst refs nums) differ = refl
is_no_collect (op.Load dst src i) differ = refl
is_no_collect (op.Store obj i src) differ = refl
is_no_collect (op.Get src j) differ = refl
is_no_collect (op.Put obj j v) differ = refl
is_no_collect (op.GLoad dst g) differ = refl
is_no_collect (op.GStore g src) differ = refl
is_no_collect (op.Same a b) differ = refl
is_no_collect (op.Copy dst src) differ = refl
is_no_collect (op.Drop r) differ = refl
is_no_collect op.Collect differ = absurd (differ refl)

-- the quotients and rests of a number and the next one
record Divided (m n q p : ℕ) : Type 0 where
  pub now : m * p + (n + 1) % m ≡ n + 1
  pub was : m * q + n % m ≡ n
  pub rest : n % m < m
  pub over : (n + 1) % m < m

divided : (e n : ℕ) → Divided (suc e) n (n / suc e) ((n + 1) / suc e)
divided e n =
    let some : 0 < suc e = omega arith in
    record {
      now = div-add-mod (n + 1) (suc e);
      was = div-add-mod n (suc e);
      rest = mod-lt n some;
      over = mod-lt (n + 1) some;
    }

-- the quotient of the next number is one more where that has no rest
quotient_more : (m n q p : ℕ) → Divided m n q p → (n + 1) % m ≡ 0 → p ≡ q + 1
quotient_more m n q p d divides = elim (cases_lt q p) [
  | inl more ↦ elim (cases_lt (q + 1) p) [
    | inl far ↦ absurd (
        let large : m * (q + 2) ≤ m * p = mul-le-mul_left m (let two : q + 2 ≤ p = omega (arith, far) in two) in
        omega (arith, large, d.now, d.was, d.rest, divides))
    | inr one ↦ omega (arith, more, one)
  ]
  | inr less ↦ absurd (
      let large : m * p ≤ m * q = mul-le-mul_left m less in
      omega (arith, large, d.now, d.was, d.rest, divides))
]

-- and the same where it has one
quotient_same : (m n q p : ℕ) → Divided m n q p → 0 < (n + 1) % m → p ≡ q
quotient_same m n q p d some = elim (cases_lt q p) [
  | inl more ↦ absurd (
      let large : m * (q + 1) ≤ m * p = mul-le-mul_left m (let one : q + 1 ≤ p = omega (arith, more) in one) in
      omega (arith, large, d.now, d.was, d.rest, some))
  | inr less ↦ elim (cases_lt p q) [
    | inl far ↦ absurd (
        let large : m * (p + 1) ≤ m * q = mul-le-mul_left m (let one : p + 1 ≤ q = omega (arith, far) in one) in
        omega (arith, large, d.now, d.was, d.over))
    | inr one ↦ omega (arith, less, one)
  ]
]

-- after a reply whose number is a multiple one silent collection more
silent_due : (every n : ℕ) → every ≢ 0 → (n + 1) % every ≡ 0 → silent_in every (n + 1) ≡ silent_in every n + 1
silent_due zero n some divides = absurd (some refl)
silent_due (suc e) n some divides = quotient_more (suc e) n (n / suc e) ((n + 1) / suc e) (divided e n) divides

-- and none after another
silent_not : (every n : ℕ) → (every ≢ 0 → (n + 1) % every ≡ 0 → ⊥) → silent_in every (n + 1) ≡ silent_in every n
silent_not zero n not = refl
silent_not (suc e) n not =
    let some : 0 < (n + 1) % suc e = elim (cases_lt 0 ((n + 1) % suc e)) [
      | inl is ↦ is
      | inr none ↦ absurd (not (λ is. omega (arith, is)) (omega (arith, none)))
    ] in
    quotient_same (suc e) n (n / suc e) ((n + 1) / suc e) (divided e n) some

-- a mode is that of a thread with a silent collection to come or is not
due_cases : (mode : Mode) → (mode ≡ Due) ⊎ (mode ≡ Due → ⊥)
due_cases Running = inr (λ is. cc)
due_cases Due = inl refl
due_cases Silent = inr (λ is. cc)
due_cases Collecting = inr (λ is. cc)
due_cases Asked = inr (λ is. cc)
due_cases Lacking = inr (λ is. cc)
due_cases (Ended e) = inr (λ is. cc)

-- a reply brings a silent collection exactly where one is due after it
pub silent_told : (config : Config) (s after : ThreadState) (reply : Reply) → DueBy config.every s after
    → TakesReply s after reply → silent_in config.every (length s.replies.items + 1) ≡ silent_in config.every
    (length s.replies.items) + owes after.mode
silent_told config s after reply due takes =
    let k : ℕ = length s.replies.items in
    let count : length after.replies.items ≡ k + 1 =
    ap length takes.replies ∙ length-append s.replies.items (reply ∷ []) in
    let more : after.replies.items ≢ s.replies.items = λ same. omega (arith, ap length same, count) in
    let by = due more in
    elim (due_cases after.mode) [
      | inl is ↦
          let divides = by.0 is in
          omega (
            arith,
            silent_due config.every k divides.0 (ap (λ (n : ℕ). n % config.every) (sym count) ∙ divides.1),
            ap owes is,
          )
      | inr not ↦
          let none : owes after.mode ≡ 0 = elim takes.fits [
            | inl runs ↦ ap owes runs.0
            | inr rest ↦ elim rest [ inl is ↦ absurd (not is) | inr ended ↦ ap owes ended.0 ]
          ] in
          omega (
            arith,
            none,
            silent_not config.every k
                (λ some divides. not (by.1 (some, ap (λ (n : ℕ). n % config.every) count ∙ divides))),
          )
    ]

-- A thread got the reply to an operation, so that its `collect`s and its collections are counted anew.
pub record CountsTold (script : Script) (config : Config) (states : List ThreadState) (t : ℕ) (after : ThreadState)
    (op : Op) : Type 0 where
  pub asked : collects_of script (replies_of (set states t after)) t ≡ collects_of script (replies_of states) t
      + (if is_collect op then 1 else 0)
  pub collections : collections_of script config (replies_of (set states t after)) t ≡ collections_of script config
      (replies_of states) t + owes after.mode + (if is_collect op then 1 else 0)

-- the collections of a thread that got no reply
silent_collections : (script : Script) (config : Config) (states : List ThreadState) (t : ℕ) (s after : ThreadState)
    → slice_get states t ≡ Some s → after.replies.items ≡ s.replies.items
    → collections_of script config (replies_of (set states t after)) t ≡ collections_of script config
    (replies_of states) t
unfolding by_replies
silent_collections script config states t s after at same =
    ap (by_replies script config t) (replies_same states t s after at ∙ (same ∙ sym (replies_here states t s at)))

-- nor do its `collect`s change
silent_asked : (script : Script) (states : List ThreadState) (t : ℕ) (s after : ThreadState)
    → slice_get states t ≡ Some s → after.replies.items ≡ s.replies.items
    → collects_of script (replies_of (set states t after)) t ≡ collects_of script (replies_of states) t
unfolding asked_by
silent_asked script states t s after at same =
    ap (asked_by script t) (replies_same states t s after at ∙ (same ∙ sym (replies_here states t s at)))

-- how many threads have a silent collection still to come, where a state was set
pub owing_set : (states : List ThreadState) (t : ℕ) (s after : ThreadState) → slice_get states t ≡ Some s
    → owing (set states t after) + owes s.mode ≡ owing states + owes after.mode
owing_set states t s after at = sum_set (λ (x : ThreadState). owes x.mode) states t s after at

-- So many collections more were made for the replies that threads got, and for those that are no longer to come; so
-- many replies more they got at least, or have ended.
pub record Adds (script : Script) (config : Config) (states after : List ThreadState) (c paid : ℕ) : Type 0 where
  pub all : collections script config (replies_of after) (length script.programs) + owing states ≡ collections script
      config (replies_of states) (length script.programs) + owing after + c
  pub asked : collects script (replies_of after) (length script.programs) ≤ collects script (replies_of states)
      (length script.programs) + c
  pub pays : answers states + overs states + paid ≤ answers after + overs after

-- What a thread adds, of which the state was set.
pub record AddsHere (script : Script) (config : Config) (states : List ThreadState) (t c paid : ℕ)
    (s after : ThreadState) : Type 0 where
  pub all : collections_of script config (replies_of (set states t after)) t + owes s.mode ≡ collections_of script
      config (replies_of states) t + owes after.mode + c
  pub asked : collects_of script (replies_of (set states t after)) t ≤ collects_of script (replies_of states) t + c
  pub pays : length s.replies.items + over s.mode + paid ≤ length after.replies.items + over after.mode

-- where the replies of one thread change alone
pub adds_at : {script : Script} {config : Config} {states : List ThreadState} {t c pays : ℕ} {s after : ThreadState}
    → slice_get states t ≡ Some s → length states ≡ length script.programs
    → AddsHere script config states t c pays s after → Adds script config states (set states t after) c pays
adds_at {script} {config} {states} {t} {pays} {s} {after} at count here =
    let within : t < length states = slice_get_within states t s at in
    let below : t < length script.programs = omega (arith, within, count) in
    let A : (List ThreadState) → ℕ → ℕ = λ (xs : List ThreadState). collects_of script (replies_of xs) in
    let C : (List ThreadState) → ℕ → ℕ = λ (xs : List ThreadState). collections_of script config (replies_of xs) in
    record {
      all = omega (
        arith,
        here.all,
        owing_set states t s after at,
        total_at (C (set states t after)) (C states) t (length script.programs) below
            (λ u differ. collections_other script config states t u after differ),
      );
      asked = omega (
        arith,
        here.asked,
        total_at (A (set states t after)) (A states) t (length script.programs) below
            (λ u differ. asked_other script states t u after differ),
      );
      pays = omega (
        arith,
        here.pays,
        sum_set (λ (x : ThreadState). length x.replies.items) states t s after at,
        sum_set (λ (x : ThreadState). over x.mode) states t s after at,
      );
    }

-- nothing changes
pub adds_none : (script : Script) (config : Config) (states : List ThreadState) → Adds script config states states 0 0
adds_none script config states = record { all = omega arith; asked = omega arith; pays = omega arith }

-- one after the other
pub adds_then : (script : Script) (config : Config) (states mid after : List ThreadState)
    → Adds script config states mid 0 0 → Adds script config mid after 0 0 → Adds script config states after 0 0
adds_then script config states mid after first second = record {
  all = omega (arith, first.all, second.all);
  asked = omega (arith, first.asked, second.asked);
  pays = omega (arith, first.pays, second.pays);
}

-- a thread that has not ended
pub open_over : (mode : Mode) → (IsEnded mode → ⊥) → over mode ≡ 0
open_over Running goes = refl
open_over Due goes = refl
open_over Silent goes = refl
open_over Collecting goes = refl
open_over Asked goes = refl
open_over Lacking goes = refl
open_over (Ended e) goes = absurd (goes tt)

-- and one that has
pub ended_over : (mode : Mode) → IsEnded mode → over mode ≡ 1
ended_over Running ended = absurd ended
ended_over Due ended = absurd ended
ended_over Silent ended = absurd ended
ended_over Collecting ended = absurd ended
ended_over Asked ended = absurd ended
ended_over Lacking ended = absurd ended
ended_over (Ended e) ended = refl

-- no thread ends twice
pub over_most : (mode : Mode) → over mode ≤ 1
over_most Running = omega arith
over_most Due = omega arith
over_most Silent = omega arith
over_most Collecting = omega arith
over_most Asked = omega arith
over_most Lacking = omega arith
over_most (Ended e) = omega arith

-- no reply and the same silent collections to come
pub adds_mode : (script : Script) (config : Config) (states : List ThreadState) (t pays : ℕ) {s : ThreadState}
    (mode : Mode) → slice_get states t ≡ Some s → length states ≡ length script.programs → owes s.mode ≡ owes mode
    → over s.mode + pays ≤ over mode → Adds script config states (set states t (record s { mode = mode })) 0 pays
adds_mode script config states t pays {s} mode at count same ends =
    adds_at at count (record {
      all = omega (arith, same, silent_collections script config states t s (record s { mode = mode }) at refl);
      asked = omega (arith, silent_asked script states t s (record s { mode = mode }) at refl);
      pays = omega (arith, ends);
    })

-- a silent collection that was made for a thread
pub adds_silent : (script : Script) (config : Config) (states : List ThreadState) (t : ℕ) (s : ThreadState)
    (mode : Mode) → slice_get states t ≡ Some s → length states ≡ length script.programs → owes s.mode ≡ owes mode + 1
    → over s.mode ≡ 0 → Adds script config states (set states t (record s { mode = mode })) 1 0
adds_silent script config states t s mode at count same goes =
    adds_at at count (record {
      all = omega (arith, same, silent_collections script config states t s (record s { mode = mode }) at refl);
      asked = omega (arith, silent_asked script states t s (record s { mode = mode }) at refl);
      pays = omega (arith, goes);
    })

-- less is said so
pub adds_less : (script : Script) (config : Config) (states after : List ThreadState)
    → Adds script config states after 0 1 → Adds script config states after 0 0
adds_less script config states after adds =
    record { all = adds.all; asked = adds.asked; pays = omega (arith, adds.pays) }

-- all threads that have ended are some of all
pub overs_most : (states : List ThreadState) → overs states ≤ length states
overs_most [] = omega arith
overs_most (s ∷ states) =
    let f : ThreadState → ℕ = λ (x : ThreadState). over x.mode in
    omega (
      arith,
      over_most s.mode,
      overs_most states,
      sum-map f (s ∷ states),
      sum-map f states,
      sum_by-cons f s states,
    )

-- and not all where one has not
pub overs_less : (states : List ThreadState) (t : ℕ) (s : ThreadState) → slice_get states t ≡ Some s
    → (IsEnded s.mode → ⊥) → overs states + 1 ≤ length states
overs_less states t s at goes =
    let ended : ThreadState = record s { mode = Ended end.Done } in
    let f : ThreadState → ℕ = λ (x : ThreadState). over x.mode in
    omega (
      arith,
      sum_set f states t s ended at,
      open_over s.mode goes,
      overs_most (set states t ended),
      length-set states t ended,
    )

-- What was counted stays counted where nothing is added but replies and ends.
pub counts_on : (script : Script) (config : Config) (states after : List ThreadState) (made : ℕ)
    → CountsCollections script config 0 states made → Adds script config states after 0 0
    → CountsCollections script config 0 after made
counts_on script config states after made counts adds = record {
  collected = omega (arith, counts.collected, adds.all);
  asked = omega (arith, counts.asked, adds.asked);
  bounded = omega (arith, counts.bounded, adds.all, adds.pays);
  pays = omega (arith, overs_most after);
}

-- a reply, or the end of a thread, pays for three collections
pub counts_paid : (script : Script) (config : Config) (unpaid : ℕ) (states after : List ThreadState) (made : ℕ)
    → unpaid ≤ 3 → CountsCollections script config unpaid states made → Adds script config states after 0 1
    → CountsCollections script config 0 after made
counts_paid script config unpaid states after made few counts adds = record {
  collected = omega (arith, counts.collected, adds.all);
  asked = omega (arith, counts.asked, adds.asked);
  bounded = omega (arith, counts.bounded, adds.all, adds.pays, few);
  pays = omega (arith, overs_most after);
}

-- So many collections were made that no reply was told of.
pub record Spare (script : Script) (config : Config) (states : List ThreadState) (made : ℕ) : Type 0 where
  pub collected : collections script config (replies_of states) (length script.programs) + 1 ≤ made + owing states
  pub asked : collects script (replies_of states) (length script.programs) + 1 ≤ made
  pub bounded : made + owing states ≤ collections script config (replies_of states) (length script.programs)
      + 3 * (answers states + overs states) + 1

-- the thread for which it was made goes on
pub counts_taken : (script : Script) (config : Config) (states after : List ThreadState) (made : ℕ)
    → Spare script config states made → Adds script config states after 1 0
    → CountsCollections script config 0 after made
counts_taken script config states after made spare adds = record {
  collected = omega (arith, spare.collected, adds.all);
  asked = omega (arith, spare.asked, adds.asked);
  bounded = omega (arith, spare.bounded, adds.all, adds.pays);
  pays = omega (arith, overs_most after);
}

-- one collection more was made, of which no reply was told yet
pub counts_spare : (script : Script) (config : Config) (states : List ThreadState) (made more : ℕ)
    → more ≡ made + 1 → CountsCollections script config 0 states made → Spare script config states more
counts_spare script config states made more is counts = record {
  collected = omega (arith, is, counts.collected);
  asked = omega (arith, is, counts.asked);
  bounded = omega (arith, is, counts.bounded);
}

-- one may be unpaid, where a thread has not ended
pub counts_more : (script : Script) (config : Config) (states : List ThreadState) (made : ℕ)
    → overs states + 1 ≤ length states → CountsCollections script config 0 states made
    → CountsCollections script config 1 states made
counts_more script config states made open_ counts = record {
  collected = counts.collected;
  asked = counts.asked;
  bounded = omega (arith, counts.bounded);
  pays = omega (arith, open_);
}

-- it is one more that is to be paid for, where a thread has not ended
pub counts_made_more : (script : Script) (config : Config) (unpaid : ℕ) (states : List ThreadState) (made more : ℕ)
    → more ≡ made + 1 → unpaid ≤ 2 → overs states + 1 ≤ length states
    → CountsCollections script config unpaid states made → CountsCollections script config (suc unpaid) states more
counts_made_more script config unpaid states made more is few open_ counts = record {
  collected = omega (arith, is, counts.collected);
  asked = omega (arith, is, counts.asked);
  bounded = omega (arith, is, counts.bounded);
  pays = omega (arith, few, open_);
}
