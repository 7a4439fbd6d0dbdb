-- A journal grows by collections that were planned or forced.
use Rattle.std.specs.Prelude.{Bool, Option, Some, slice_get}
use Rattle.std.proofs.Common.{◌≡◌, ◌≢◌, ℕ, ◌+◌, ◌<◌, ◌≤◌, zero, suc, true, false, ◌⊎◌, List, [], ◌∷◌, ◌++◌, length}
use Rattle.std.proofs.Common.{refl, sym, ◌∙◌, ap, subst, arith, length-append, inl, inr}
use Rattle.std.proofs.lemmas.List.Elements.{All-push}
use Rattle.melt_model.specs.declared.config.Config.{Config}
use Rattle.melt_model.specs.declared.reports.Journal.{Journal}
use Rattle.melt_model.specs.declared.reports.Phase.{Phase}
use Rattle.melt_model.specs.declared.reports.Phase.TheVariants.{Inactive, Mark, Move}
use Rattle.melt_model.proofs.Histories.{last_place, slice_get-append_seam}
use Rattle.melt_move.specs.Planned.{phase_done}
use Rattle.melt_move.specs.declared.planned.Plan.{Plan}
use Rattle.melt_safepoint.specs.declared.thread.ThreadState.{ThreadState}
use Rattle.melt_safepoint.specs.Threads.{AreHalted}
use Rattle.melt_safepoint.specs.Journals.{next_of, before, end_of, IsTight, MayMove, IsJournalOf}
use Rattle.melt_safepoint.specs.Counts.{overs}
use Rattle.melt_safepoint.specs.Losses.{CountsLosses, losses}
use Rattle.melt_safepoint.specs.Modes.{IsEnded}
use Rattle.melt_safepoint.proofs.Losses.{counts_same, losses_halted}
use Rattle.melt_safepoint.proofs.Counting.{overs_less}

-- one more at the end leaves those before
get_before : (js : List Journal) (e : Journal) (k : ℕ) → k < length js → slice_get (js ++ e ∷ []) k ≡ slice_get js k
get_before [] e k below = absurd (omega arith)
get_before (j ∷ js) e zero below = refl
get_before (j ∷ js) e (suc k) below = get_before js e k (omega arith)

before_push : (js : List Journal) (e : Journal) (k : ℕ) → k ≤ length js → before (js ++ e ∷ []) k ≡ before js k
before_push js e zero within = refl
before_push js e (suc k) within = get_before js e k (omega arith)

-- it is the last one now
pub before_end : (js : List Journal) (e : Journal) → before (js ++ e ∷ []) (length (js ++ e ∷ [])) ≡ Some e
before_end js e =
    let count : length (js ++ e ∷ []) ≡ suc (length js) = omega (arith, length-append js (e ∷ [])) in
    ap (before (js ++ e ∷ [])) count ∙ slice_get-append_seam js e []

-- What holds of each collection and the one before it, of these collections.
abbrev FollowEach : (Journal → Option Journal → Type 0) → List Journal → Type 0
FollowEach P js = (k : ℕ) (j : Journal) → slice_get js k ≡ Some j → P j (before js k)

-- and so of one more
follow_push : (P : Journal → Option Journal → Type 0) (js : List Journal) (e : Journal) → FollowEach P js
    → P e (before js (length js)) → FollowEach P (js ++ e ∷ [])
follow_push P js e each last = λ k j at. elim (last_place js e k j at) [
  | inl old ↦ subst (P j) (sym (before_push js e k (omega (arith, old.0)))) (each k j old.1)
  | inr new ↦
      let place : length js ≡ k = omega (arith, new.0) in
      let here : P e (before js k) = subst (λ (n : ℕ). P e (before js n)) place last in
      subst (P j) (sym (before_push js e k (omega (arith, place))))
      (subst (λ (x : Journal). P x (before js k)) new.1 here)
]

-- how a collection may follow the one before it
abbrev pub MayBe : Config → Option Journal → Phase → Type 0
MayBe config last phase = (phase ≡ next_of config last) ⊎ ((phase ≡ Move) × IsTight config last)

-- one collection more
pub journal_push : (config : Config) (js : List Journal) (e : Journal) → IsJournalOf config js
    → MayBe config (before js (length js)) e.phase → (e.held ≤ e.live) × (e.live ≤ config.heap)
    → end_of (before js (length js)) ≤ e.end → e.end ≤ config.disk → IsJournalOf config (js ++ e ∷ [])
journal_push config js e is may words grows within = record {
  phases = follow_push (λ j last. MayBe config last j.phase) js e is.phases may;
  words = All-push (λ (j : Journal). (j.held ≤ j.live) × (j.live ≤ config.heap)) js e is.words words;
  ends = follow_push (λ j last. end_of last ≤ j.end) js e is.ends grows;
  limit = All-push (λ (j : Journal). j.end ≤ config.disk) js e is.limit within;
}

-- a collection is the one that was planned, or a Move that was forced
pub may_be : (config : Config) (last : Option Journal) (force : Bool) (next : Phase)
    → (force ≡ true → IsTight config last) → next ≡ next_of config last → MayBe config last (phase_done force next)
may_be config last true next tight plan = inr (refl, tight refl)
may_be config last false next tight plan = inl plan

-- a Move may be made so
pub may_move : (config : Config) (last : Option Journal) (force : Bool) (next : Phase)
    → (force ≡ true → IsTight config last) → next ≡ next_of config last → phase_done force next ≡ Move
    → MayMove config last
may_move config last true next tight plan is = inr (tight refl)
may_move config last false next tight plan is = inl (sym plan ∙ is)

-- a phase is Move or another
pub phase_cases : (phase : Phase) → (phase ≡ Move) ⊎ (phase ≢ Move)
phase_cases Inactive = inr (λ is. cc)
phase_cases Mark = inr (λ is. cc)
phase_cases Move = inl refl

-- the plan by the numbers of a configuration
abbrev pub plan_for : Config → Phase → Plan
plan_for config next = record { next = next; mark = config.mark; move_ = config.move_ }

-- So many collections are unpaid, and one more may be, as a thread has not ended.
pub record MayOwe (unpaid : ℕ) (states : List ThreadState) : Type 0 where
  pub few : unpaid ≤ 2
  pub open_ : overs states + 1 ≤ length states

-- so it may where this thread has not ended
pub may_owe : (unpaid : ℕ) (states : List ThreadState) (t : ℕ) (s : ThreadState) → unpaid ≤ 2
    → slice_get states t ≡ Some s → (IsEnded s.mode → ⊥) → MayOwe unpaid states
may_owe unpaid states t s few at goes = record { few = few; open_ = overs_less states t s at goes }

-- no more are lost where all are halted and no read failed
pub halted_counts : (states after : List ThreadState) (a b : ℕ) → AreHalted states after → b ≡ a
    → CountsLosses states after a b
halted_counts states after a b halts same =
    counts_same states after a b (ap losses halts ∙ losses_halted states) (omega (arith, same))
