-- Which collections a safepoint makes.
use Rattle.std.proofs.Common.{◌≡◌, ◌≢◌, ℕ, ◌+◌, ◌<◌, ◌≤◌, List, suc, length, take, refl}
use Rattle.std.proofs.Common.{sym, ◌∙◌, ap, subst, arith, inl, inr}
use Rattle.std.specs.Prelude.{Some, slice_get}
use Rattle.melt_safepoint.specs.declared.thread.ThreadState.{ThreadState}
use Rattle.melt_safepoint.specs.Epochs.{to_do}
use Rattle.melt_safepoint.specs.Journals.{Planned}
use Rattle.melt_safepoint.specs.Passing.{NoneLacks, CollectedAll, CollectedFor, OneWaits}
use Rattle.melt_safepoint.specs.Shown.{Shown}
use Rattle.melt_safepoint.specs.Threads.{collections_due}
use Rattle.melt_safepoint.specs.Modes.{collections_for}
use Rattle.melt_safepoint.proofs.Passing.{waits_for}
use Rattle.melt_safepoint.proofs.ToDo.{collected_less}
use Rattle.melt_safepoint.proofs.Safepoints.{own_one, planned_more, due_more, take_past, due_none}
use Rattle.melt_safepoint.specs.Rows.{JustCollected, KeepsRest, MakesFor, MakesForAll, MakesPlanned, journal_of, Row}

-- what was collected for the first threads
pub record MadeBelow (shown : Shown) (old new : Row) (n : ℕ) : Type 0 where
  pub made : collections_due (take n old.states) ≢ 0 → JustCollected new
  pub none : collections_due (take n old.states) ≡ 0 → new ≡ old
  pub planned : MakesPlanned (collections_due (take n old.states)) shown old new

-- nothing yet
pub below_none : (shown : Shown) (old : Row) → MadeBelow shown old old 0
below_none shown old = record {
  made = λ some. absurd (some refl);
  none = λ nothing. refl;
  planned = λ told script config rests. refl;
}

-- for one thread more
pub below_more : {shown mid : Shown} {old run next : Row} {n : ℕ} {s : ThreadState} → MadeBelow shown old run n
    → slice_get old.states n ≡ Some s → KeepsRest shown mid old run → MakesFor s mid run next
    → MadeBelow shown old next (n + 1)
below_more {old} {run} {next} {n} {s} so_far at keeps makes =
    let m : ℕ = collections_due (take n old.states) in
    let k : ℕ = collections_for s.mode in
    let next_n : n + 1 ≡ suc n = omega arith in
    let sum : collections_due (take (n + 1) old.states) ≡ m + k =
    ap (λ (j : ℕ). collections_due (take j old.states)) next_n ∙ due_more old.states n s at in
    record {
      made = λ some. elim (own_one s.mode) [
        | inl own ↦ makes.made own.0
        | inr not ↦ subst JustCollected (sym (makes.none not.0))
            (so_far.made (λ none. some (omega (arith, sum, none, not.1))))
      ];
      none = λ nothing. elim (own_one s.mode) [
        | inl own ↦ absurd (omega (arith, sum, nothing, own.1))
        | inr not ↦ makes.none not.0 ∙ so_far.none (omega (arith, sum, nothing))
      ];
      planned = λ told script config rests.
          subst (λ (j : ℕ). Planned config j (journal_of old) (journal_of next)) (sym sum)
          (planned_more config m k (journal_of old) (journal_of run) (journal_of next)
          (elim (own_one s.mode) [ inl own ↦ omega (arith, own.1) | inr not ↦ omega (arith, not.1) ])
          (so_far.planned told script config rests)
          (makes.planned told script config (keeps told script config rests)));
    }

-- for all threads
pub below_all : (shown : Shown) (old new : Row) (n : ℕ) → MadeBelow shown old new n → length old.states ≤ n
    → MakesForAll shown old new
below_all shown old new n below all =
    let same : collections_due (take n old.states) ≡ collections_due old.states =
    ap collections_due (take_past old.states n all) in
    record {
      made = λ some. below.made (λ none. some (sym same ∙ none));
      none = λ nothing. below.none (same ∙ nothing);
      planned = subst (λ (j : ℕ). MakesPlanned j shown old new) same below.planned;
    }

-- a thread waited, and none lacks room after the collections: so one was made for it, and it has less to do
pub own_less : (states mid : List ThreadState) → CollectedAll states mid → OneWaits states → NoneLacks mid
    → to_do mid < to_do states
own_less states mid all waits none = elim (waits_for waits.1.0.mode waits.1.2) [
  | inl own ↦ collected_less states mid waits.0 waits.1.0 all waits.1.1 own
  | inr lacks ↦
      let x : (x : ThreadState) × (slice_get mid waits.0 ≡ Some x) × CollectedFor waits.1.0 x =
      all.each waits.0 waits.1.0 waits.1.1 in
      absurd (none waits.0 x.0 x.1 (ap (λ (z : ThreadState). z.mode) (x.2.same lacks.1) ∙ lacks.0))
]

-- a thread waited, and none lacks room after the collections: so there was one
pub own_due : (old mid : Row) → CollectedAll old.states mid.states → OneWaits old.states
    → NoneLacks mid.states → collections_due old.states ≢ 0
own_due old mid all waits none = λ nothing. elim (waits_for waits.1.0.mode waits.1.2) [
  | inl own ↦ due_none old.states waits.0 waits.1.0 nothing waits.1.1 own
  | inr lacks ↦
      let x : (x : ThreadState) × (slice_get mid.states waits.0 ≡ Some x) × CollectedFor waits.1.0 x =
      all.each waits.0 waits.1.0 waits.1.1 in
      none waits.0 x.0 x.1 (ap (λ (z : ThreadState). z.mode) (x.2.same lacks.1) ∙ lacks.0)
]
