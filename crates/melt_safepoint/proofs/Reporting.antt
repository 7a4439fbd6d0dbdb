-- A run begins with the threads of its script, and reports them when they have ended.
use Rattle.std.specs.Prelude.{Some, slice_get}
use Rattle.std.proofs.Common.{◌≡◌, ℕ, ◌+◌, ◌*◌, ◌≤◌, List, [], ◌∷◌, ◌++◌, length, refl, sym, ◌∙◌, ap, subst, arith}
use Rattle.std.proofs.Common.{length-append, inl, inr}
use Rattle.std.proofs.lemmas.List.Sums.{sum-map, sum_by_push}
use Rattle.melt_model.specs.declared.reports.ThreadReport.{ThreadReport}
use Rattle.melt_model.proofs.Histories.{last_place, slice_get-append_seam}
use Rattle.melt_trace.specs.Script.{Script, operations}
use Rattle.melt_safepoint.specs.declared.thread.ThreadState.{ThreadState}
use Rattle.melt_safepoint.specs.declared.thread.Mode.TheVariants.{Ended}
use Rattle.melt_safepoint.specs.Journals.{before}
use Rattle.melt_safepoint.specs.Threads.{left, to_reply, IsNewThread, AreNewThreads}
use Rattle.melt_safepoint.specs.Modes.{IsEnded}

-- the first k threads of a script before their first events, and how many operations they have together
pub record NewSoFar (script : Script) (k : ℕ) (states : List ThreadState) (amount : ℕ) : Type 0 where
  pub count : length states ≡ k
  pub each : (t : ℕ) (s : ThreadState) → slice_get states t ≡ Some s
      → IsNewThread (operations script t) script.globals s
  pub entries : amount ≡ to_reply states
  pub few : amount ≤ k * 1048576

-- there are none yet
pub new_none : (script : Script) → NewSoFar script 0 [] 0
new_none script =
    record {
      count = refl;
      each = λ t s at. absurd (let none : slice_get [] t ≡ Some s = at in cc);
      entries = refl;
      few = omega arith;
    }

-- and one more
pub new_more : (script : Script) (k amount n : ℕ) (states : List ThreadState) (s : ThreadState)
    → NewSoFar script k states amount → IsNewThread (operations script k) script.globals s
    → n ≡ length (operations script k) → n ≤ 1048576 → NewSoFar script (k + 1) (states ++ s ∷ []) (amount + n)
new_more script k amount n states s so_far new is few =
    let f : ThreadState → ℕ = λ (x : ThreadState). length (left x) in
    let all : to_reply (states ++ s ∷ []) ≡ to_reply states + length (left s) =
    omega (arith, sum-map f states, sum-map f (states ++ s ∷ []), sum_by_push f states s) in
    record {
      count = omega (arith, length-append states (s ∷ []), so_far.count);
      each = λ t x at. elim (last_place states s t x at) [
        | inl before ↦ so_far.each t x before.1
        | inr last ↦
            let place : k ≡ t = omega (arith, last.0, so_far.count) in
            subst (λ (y : ThreadState). IsNewThread (operations script t) script.globals y) last.1
            (subst (λ (u : ℕ). IsNewThread (operations script u) script.globals s) place new)
      ];
      entries = omega (arith, so_far.entries, all, is, ap length new.to_come);
      few = omega (arith, so_far.few, few);
    }

-- those of all threads
pub new_all : (script : Script) (k amount : ℕ) (states : List ThreadState) → k ≡ length script.programs → k ≤ 8
    → NewSoFar script k states amount → AreNewThreads script states amount
new_all script k amount states all eight so_far = record {
  count = so_far.count ∙ all;
  each = so_far.each;
  entries = so_far.entries;
  few = omega (arith, so_far.entries, so_far.few, eight);
}

-- a thread that a list has after others has ended
pub ended_next : (states before after : List ThreadState) (s : ThreadState) → before ++ s ∷ after ≡ states
    → ((t : ℕ) (x : ThreadState) → slice_get states t ≡ Some x → IsEnded x.mode) → IsEnded s.mode
ended_next states before after s is ended =
    ended (length before) s (ap (λ (xs : List ThreadState). slice_get xs (length before)) (sym is)
    ∙ slice_get-append_seam before s after)

-- the reports of threads have their replies and ends
pub record Reported (states : List ThreadState) (threads : List ThreadReport) : Type 0 where
  pub count : length threads ≡ length states
  pub each : (t : ℕ) (s : ThreadState) (r : ThreadReport) → slice_get states t ≡ Some s → slice_get threads t ≡ Some r
      → (r.replies ≡ s.replies.items) × (s.mode ≡ Ended r.end)

-- and one more
pub reported_more : (states : List ThreadState) (threads : List ThreadReport) (s : ThreadState) (r : ThreadReport)
    → Reported states threads → r.replies ≡ s.replies.items → s.mode ≡ Ended r.end
    → Reported (states ++ s ∷ []) (threads ++ r ∷ [])
reported_more states threads s r so_far replies ended = record {
  count = omega (arith, length-append states (s ∷ []), length-append threads (r ∷ []), so_far.count);
  each = λ t x y at is. elim (last_place states s t x at) [
    | inl before ↦ elim (last_place threads r t y is) [
      | inl there ↦ so_far.each t x y before.1 there.1
      | inr last ↦ absurd (omega (arith, before.0, last.0, so_far.count))
    ]
    | inr end ↦ elim (last_place threads r t y is) [
      | inl there ↦ absurd (omega (arith, end.0, there.0, so_far.count))
      | inr last ↦ (
        ap (λ (z : ThreadReport). z.replies) (sym last.1) ∙ (replies ∙ ap (λ (z : ThreadState). z.replies.items) end.1),
        ap (λ (z : ThreadState). z.mode) (sym end.1) ∙ (ended ∙ ap (λ (z : ThreadReport). Ended z.end) last.1),
      )
    ]
  ];
}
