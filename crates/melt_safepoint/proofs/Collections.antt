-- The collections for which threads wait: each goes on after its own.
use Rattle.std.specs.Prelude.{Option, Some, slice_get}
use Rattle.std.proofs.Common.{◌≡◌, ℕ, ◌<◌, suc, true, false, ◌⊎◌, List, [], ◌∷◌, ◌++◌, length, length-append, refl}
use Rattle.std.proofs.Common.{sym, ◌∙◌, ap, subst, arith, inl, inr}
use Rattle.std.proofs.Math.ListN.{set}
use Rattle.std.proofs.lemmas.List.{append-nil}
use Rattle.melt_model.specs.declared.config.Config.{Config}
use Rattle.melt_model.specs.declared.history.Entry.{Entry}
use Rattle.melt_model.specs.declared.operations.Op.{Op}
use Rattle.melt_model.specs.declared.operations.Op.TheVariants.{Collect}
use Rattle.melt_model.specs.declared.operations.Reply.{Reply}
use Rattle.melt_model.specs.declared.operations.Reply.TheVariants as reply
use Rattle.melt_model.specs.declared.reports.Journal.{Journal}
use Rattle.melt_model.specs.declared.reports.ThreadEnd.TheVariants as end
use Rattle.melt_trace.specs.Script.{Script}
use Rattle.melt_safepoint.specs.declared.thread.ThreadState.{ThreadState}
use Rattle.melt_safepoint.specs.declared.thread.Mode.{Mode}
use Rattle.melt_safepoint.specs.declared.thread.Mode.TheVariants.{Running, Due, Silent, Collecting, Asked, Lacking}
use Rattle.melt_safepoint.specs.declared.thread.Mode.TheVariants.{Ended}
use Rattle.melt_safepoint.specs.Passing.{CollectedFor}
use Rattle.melt_safepoint.specs.Threads.{DueBy, RunsOrEnds, TakesReply, jobs_of, left, with_first}
use Rattle.melt_safepoint.specs.Modes.{ForCollection, HadNoRoom, IsEnded, IsPaused, collections_for, jobs, lost, owes, owes_silent}
use Rattle.melt_safepoint.specs.Cuts.{Moment}
use Rattle.melt_safepoint.specs.Endings.{HaveMoments}
use Rattle.melt_safepoint.specs.Losses.{losses}
use Rattle.melt_safepoint.proofs.Losses.{losses_same, told_lost}
use Rattle.melt_safepoint.proofs.InOrder.{HaveMoments_later, none_set}
use Rattle.melt_safepoint.proofs.Threads.{later_set}

-- the moments of the collections stay those of a run in which a thread got a reply
pub moments_reply : {script : Script} {config : Config} (log : List Entry) (states : List ThreadState) (t : ℕ)
    {s : ThreadState} (after : ThreadState) (extra : List Reply) (journal : List Journal) → slice_get states t ≡ Some s
    → (IsEnded s.mode → ⊥) → after.replies.items ≡ s.replies.items ++ extra → (HadNoRoom after.mode → ⊥)
    → {moments : List Moment} → HaveMoments script log states config journal moments
    → HaveMoments script log (set states t after) config journal moments
moments_reply {script} {config} log states t {s} after extra journal at goes grown room {moments} have =
    subst (λ (h : List Entry). HaveMoments script h (set states t after) config journal moments) (append-nil log)
    (HaveMoments_later script log [] config journal (later_set states t s after extra at goes grown)
    (none_set states t s after at room) have)

-- it only has another mode
pub goes_on_mode : (s after : ThreadState) → RunsOrEnds s after → (mode : Mode) × (after ≡ record s { mode = mode })
    × (owes mode ≡ 0) × (lost mode ≡ 0) × (HadNoRoom mode → ⊥)
goes_on_mode s after on = elim on [
  | inl runs ↦ (Running, runs.1, refl, refl, λ none. none)
  | inr ended ↦ (Ended end.Done, ended.1, refl, refl, λ none. none)
]

-- How a thread goes on after the collection for which it waited.
pub record TakesCollection (every : ℕ) (s after : ThreadState) : Type 0 where
  pub takes : s.mode ≡ Collecting → TakesReply s after reply.Done
  pub due : s.mode ≡ Collecting → DueBy every s after
  pub silent : s.mode ≡ Silent → RunsOrEnds s after

-- a thread that waits for a collection waits for a silent one or for its own
pub waits_cases : (mode : Mode) → ForCollection mode → (mode ≡ Silent) ⊎ (mode ≡ Collecting)
waits_cases Running waits = absurd waits
waits_cases Due waits = absurd waits
waits_cases Silent waits = inl refl
waits_cases Collecting waits = inr refl
waits_cases Asked waits = absurd waits
waits_cases Lacking waits = absurd waits
waits_cases (Ended e) waits = absurd waits

-- and it has not ended
pub own_open : (mode : Mode) → ForCollection mode → IsEnded mode → ⊥
own_open mode waits ended = elim (waits_cases mode waits) [
  | inl silent ↦ subst IsEnded silent ended
  | inr own ↦ subst IsEnded own ended
]

-- what a thread has to do, told by its mode and its operations
jobs_by : (s : ThreadState) (mode : Mode) (n : ℕ) → s.mode ≡ mode → length (left s) ≡ n → jobs_of s ≡ jobs mode n
jobs_by s mode n is to_come = rw (is, to_come) refl

-- a thread that got the reply to its collection has less to do
answered_fewer : (s after : ThreadState) → s.mode ≡ Collecting → s.op ≡ Some Collect → TakesReply s after reply.Done
    → CollectedFor s after
answered_fewer s after mode next takes =
    let n : ℕ = length s.cursor.operations in
    let had : jobs_of s ≡ jobs Collecting (suc n) =
    jobs_by s Collecting (suc n) mode (ap (λ (o : Option Op). length (with_first o s.cursor.operations)) next) in
    let to_come : length (left after) ≡ n = ap length takes.to_come in
    let less : jobs_of after < jobs_of s = elim takes.fits [
      | inl runs ↦ omega (arith, had, jobs_by after Running n runs.0 to_come)
      | inr rest ↦ elim rest [
        | inl due ↦ omega (arith, had, jobs_by after Due n due to_come)
        | inr ended ↦ omega (arith, had, jobs_by after (Ended end.Done) n ended.0 to_come)
      ]
    ] in
    record {
      fewer = λ waits. less;
      goes = λ waits paused. elim takes.fits [
        | inl runs ↦ subst IsPaused runs.0 paused
        | inr rest ↦ elim rest [ inl due ↦ subst IsPaused due paused | inr ended ↦ subst IsPaused ended.0 paused ]
      ];
      owes =
          λ waits owes. (next, omega (arith, ap length takes.replies, length-append s.replies.items (reply.Done ∷ [])));
      same = λ never. absurd (never (subst ForCollection (sym mode) tt));
    }

-- and so has one that goes on
goes_on_fewer : (s after : ThreadState) → s.mode ≡ Silent → RunsOrEnds s after → CollectedFor s after
goes_on_fewer s after mode on =
    let n : ℕ = length (left s) in
    let had : jobs_of s ≡ jobs Silent n = jobs_by s Silent n mode refl in
    let less : jobs_of after < jobs_of s = elim on [
      | inl runs ↦ omega (arith, had, ap jobs_of runs.1)
      | inr ended ↦ omega (arith, had, ap jobs_of ended.1)
    ] in
    record {
      fewer = λ waits. less;
      goes = λ waits paused. elim on [
        | inl runs ↦ subst (λ (x : ThreadState). IsPaused x.mode) runs.1 paused
        | inr ended ↦ subst (λ (x : ThreadState). IsPaused x.mode) ended.1 paused
      ];
      owes = λ waits owes. absurd (elim on [
        | inl runs ↦ let wrong : false ≡ true = sym (ap (λ (x : ThreadState). owes_silent x.mode) runs.1) ∙ owes in cc
        | inr ended ↦ let wrong : false ≡ true = sym (ap (λ (x : ThreadState). owes_silent x.mode) ended.1) ∙ owes in cc
      ]);
      same = λ never. absurd (never (subst ForCollection (sym mode) tt));
    }

-- a thread whose collection was made has less to do
pub taken_fewer : (every : ℕ) (s after : ThreadState) → ForCollection s.mode → TakesCollection every s after
    → (s.mode ≡ Collecting → s.op ≡ Some Collect) → CollectedFor s after
taken_fewer every s after waits takes next = elim (waits_cases s.mode waits) [
  | inl silent ↦ goes_on_fewer s after silent (takes.silent silent)
  | inr own ↦ answered_fewer s after own (next own) (takes.takes own)
]

-- it is not lost
taken_lost : (every : ℕ) (s after : ThreadState) → ForCollection s.mode → TakesCollection every s after
    → lost after.mode ≡ lost s.mode
taken_lost every s after waits takes = elim (waits_cases s.mode waits) [
  | inl silent ↦
      let by = goes_on_mode s after (takes.silent silent) in
      ap (λ (x : ThreadState). lost x.mode) by.1 ∙ (by.3 ∙ sym (ap lost silent))
  | inr own ↦ told_lost s after reply.Done (takes.takes own) ∙ sym (ap lost own)
]

-- so as many are lost as before
pub taken_losses : (every : ℕ) (states mid : List ThreadState) (t : ℕ) (s after : ThreadState) → mid ≡ states
    → slice_get states t ≡ Some s → ForCollection s.mode → TakesCollection every s after
    → losses (set mid t after) ≡ losses states
taken_losses every states mid t s after same at waits takes =
    ap (λ (xs : List ThreadState). losses (set xs t after)) same
    ∙ losses_same states t s after at (taken_lost every s after waits takes)

-- a thread that waits for no collection stays as it is
pub other_stays : (s : ThreadState) → (ForCollection s.mode → ⊥) → CollectedFor s s
other_stays s never = record {
  fewer = λ waits. absurd (never waits);
  goes = λ waits. absurd (never waits);
  owes = λ waits. absurd (never waits);
  same = λ stays. refl;
}

-- of other modes none waits for a collection
pub waits_none : (mode : Mode) → (mode ≡ Silent → ⊥) → (mode ≡ Collecting → ⊥) → ForCollection mode → ⊥
waits_none mode silent own waits =
    elim (waits_cases mode waits) [ inl is ↦ silent is | inr is ↦ own is ]

-- one is due to a thread that waits for one, and none to another
pub own_one : (mode : Mode) → ForCollection mode → collections_for mode ≡ 1
own_one mode waits = elim (waits_cases mode waits) [
  | inl silent ↦ ap collections_for silent
  | inr own ↦ ap collections_for own
]

pub own_none : (mode : Mode) → (ForCollection mode → ⊥) → collections_for mode ≡ 0
own_none Running never = refl
own_none Due never = refl
own_none Silent never = absurd (never tt)
own_none Collecting never = absurd (never tt)
own_none Asked never = refl
own_none Lacking never = refl
own_none (Ended e) never = refl
