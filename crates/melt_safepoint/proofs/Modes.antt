-- What the mode of a thread says, and why a thread has ended.
use Rattle.std.specs.Prelude.{Bool, Option, None, Some, IsSome, slice_get, ◌⊎◌}
use Rattle.std.proofs.Common.{[], ◌≡◌, ◌≢◌, ℕ, ◌+◌, ◌<◌, ◌≤◌, true, false, List, ◌∷◌, ◌++◌, length, refl, sym, ◌∙◌, ap}
use Rattle.std.proofs.Common.{subst, arith, length-append, inl, inr}
use Rattle.std.proofs.Math.ListN.{set}
use Rattle.std.proofs.lemmas.List.{append-nil}
use Rattle.std.proofs.lemmas.Option.{same_Some}
use Rattle.melt_model.specs.declared.config.Config.{Config}
use Rattle.melt_model.specs.declared.history.Entry.{Entry}
use Rattle.melt_model.specs.declared.operations.Op.{Op}
use Rattle.melt_model.specs.declared.operations.Reply.{Reply}
use Rattle.melt_model.specs.declared.reports.Journal.{Journal}
use Rattle.melt_model.specs.declared.reports.ThreadEnd.TheVariants as end
use Rattle.melt_model.specs.declared.reports.ThreadEnd.{ThreadEnd}
use Rattle.melt_trace.specs.Script.{Script}
use Rattle.melt_core.specs.declared.answer.Pause.{Pause}
use Rattle.melt_core.specs.declared.answer.Pause.TheVariants as pause
use Rattle.melt_core.specs.declared.answer.Refusal.{Refusal}
use Rattle.melt_core.specs.declared.answer.Refusal.TheVariants as refusal
use Rattle.melt_safepoint.specs.declared.thread.ThreadState.{ThreadState}
use Rattle.melt_safepoint.specs.declared.thread.Mode.{Mode}
use Rattle.melt_safepoint.specs.declared.thread.Mode.TheVariants.{Running, Due, Silent, Collecting, Asked, Lacking}
use Rattle.melt_safepoint.specs.declared.thread.Mode.TheVariants.{Ended}
use Rattle.melt_safepoint.specs.Cuts.{IsDue, Moment}
use Rattle.melt_safepoint.specs.Run.{LoadsNext}
use Rattle.melt_safepoint.specs.Threads.{DueBy, with_first, replies_of, Later, TakesReply}
use Rattle.melt_safepoint.specs.Modes.{CallsAgain, HadNoRoom, owes_silent, owes, mode_for, MayGo, IsEnded, FitsMode, Waits, words_lacked_by}
use Rattle.melt_safepoint.specs.Endings.{EndsSo, HaveMoments, IsLostBy}
use Rattle.melt_safepoint.proofs.Cuts.{replies_here}
use Rattle.melt_safepoint.proofs.InOrder.{HaveMoments_later, none_set}
use Rattle.melt_safepoint.proofs.Threads.{replies_same, later_set}

-- why a thread has ended stays so
pub ends_later : (told : Bool) (script : Script) (log more : List Entry) {states after : List ThreadState}
    (config : Config) (u : ℕ) {s : ThreadState} {mode : Mode} → Later states after → slice_get states u ≡ Some s
    → replies_of after u ≡ replies_of states u → s.mode ≡ mode → EndsSo told script log states config u mode
    → EndsSo told script (log ++ more) after config u mode
ends_later told script log more config u {mode = Running} later at same is ends = tt
ends_later told script log more config u {mode = Due} later at same is ends = tt
ends_later told script log more config u {mode = Silent} later at same is ends = tt
ends_later told script log more config u {mode = Collecting} later at same is ends = tt
ends_later told script log more config u {mode = Asked} later at same is ends = tt
ends_later told script log more config u {mode = Lacking} later at same is ends = tt
ends_later told script log more config u {mode = Ended end.Done} later at same is ends = ap length same ∙ ends
ends_later told script log more config u {mode = Ended (end.OutOfHeap held_words need)} later at same is ends = tt
ends_later told script log more config u {mode = Ended end.DiskFault} later at same is ends =
    subst (LoadsNext script u) (ap length (sym same)) ends
ends_later told script log more config u {mode = Ended (end.Damaged home place word)} later at same is ends =
    (ends.0, subst (LoadsNext script u) (ap length (sym same)) ends.1, ends.2)
ends_later told script log more config u {mode = Ended end.Halted} later at same is ends = absurd ends

-- how a thread whose call paused waits
pub paused_cases : (cause : Pause)
    → (mode_for (refusal.Pause cause) ≡ Asked) ⊎ (mode_for (refusal.Pause cause) ≡ Lacking)
paused_cases pause.Asked = inl refl
paused_cases (pause.Space need) = inr refl
paused_cases pause.Forward = inr refl

-- a thread that could not read the disk has ended
pub lost_ends : (told : Bool) (finish : ℕ) (r : Refusal) → IsLostBy told finish r → IsEnded (mode_for r)
lost_ends told finish (refusal.Pause cause) cause_is = absurd cause_is
lost_ends told finish refusal.DiskFault cause_is = tt
lost_ends told finish (refusal.Damaged damaged) cause_is = tt

-- whatever the operation is, a thread that has ended fits it
pub ended_fits : (mode : Mode) (o : Option Op) → IsEnded mode → FitsMode mode o
ended_fits Running o over = absurd over
ended_fits Due o over = tt
ended_fits Silent o over = tt
ended_fits Collecting o over = absurd over
ended_fits Asked o over = absurd over
ended_fits Lacking o over = absurd over
ended_fits (Ended e) o over = tt

-- and makes no call again
pub ended_again : (mode : Mode) → IsEnded mode → CallsAgain mode → ⊥
ended_again Asked over again = over
ended_again Lacking over again = over
ended_again mode over again = again

-- no refusal leaves a silent collection to come
pub refused_owes : (r : Refusal) → owes_silent (mode_for r) ≡ false
refused_owes (refusal.Pause pause.Asked) = refl
refused_owes (refusal.Pause (pause.Space need)) = refl
refused_owes (refusal.Pause pause.Forward) = refl
refused_owes refusal.DiskFault = refl
refused_owes (refusal.Damaged damaged) = refl

-- why a thread has ended that could not read the disk
pub lost_so : (told : Bool) {script : Script} (log : List Entry) (states : List ThreadState) (config : Config) {t : ℕ}
    (finish : ℕ) (r : Refusal) → finish ≤ config.disk → LoadsNext script t (length (replies_of states t))
    → IsLostBy told finish r → EndsSo told script log states config t (mode_for r)
lost_so told log states config finish (refusal.Pause cause) within loads is = absurd is
lost_so told log states config finish refusal.DiskFault within loads is = loads
lost_so told log states config finish (refusal.Damaged damaged) within loads is =
    (is.untold, loads, is.read config within)

-- its mode fits its next operation
pub told_fits : (s after : ThreadState) (reply : Reply) → TakesReply s after reply → FitsMode after.mode after.op
told_fits s after reply takes =
    elim takes.fits [
      | inl runs ↦ subst (λ (m : Mode). FitsMode m after.op) (sym runs.0) runs.1
      | inr rest ↦ elim rest [
        | inl due ↦ subst (λ (m : Mode). FitsMode m after.op) (sym due) tt
        | inr ended ↦ subst (λ (m : Mode). FitsMode m after.op) (sym ended.0) tt
      ]
    ]

-- and it makes no call again
pub told_again : {s after : ThreadState} {reply : Reply} → TakesReply s after reply → CallsAgain after.mode → ⊥
told_again {s} {after} takes again =
    elim takes.fits [
      | inl runs ↦ subst CallsAgain runs.0 again
      | inr rest ↦ elim rest [
        | inl due ↦ subst CallsAgain due again
        | inr ended ↦ subst CallsAgain ended.0 again
      ]
    ]

-- if a silent collection is due after the reply, it is by the number of replies
pub told_due : (config : Config) (s after : ThreadState) (reply : Reply) → DueBy config.every s after
    → TakesReply s after reply → owes_silent after.mode ≡ true → IsDue config (length after.replies.items)
told_due config s after reply due takes owes =
    let count : length after.replies.items ≡ length s.replies.items + 1 =
    ap length takes.replies ∙ length-append s.replies.items (reply ∷ []) in
    let more : after.replies.items ≢ s.replies.items = λ same. omega (arith, ap length same, count) in
    let is : after.mode ≡ Due = elim takes.fits [
      | inl runs ↦ absurd (let wrong : false ≡ true = sym (ap owes_silent runs.0) ∙ owes in cc)
      | inr rest ↦ elim rest [
        | inl due ↦ due
        | inr ended ↦ absurd (let wrong : false ≡ true = sym (ap owes_silent ended.0) ∙ owes in cc)
      ]
    ] in
    let by = (due more).0 is in
    record { asked = by.0; some = λ none. omega (arith, none, count); divides = by.1 }

-- a thread that can go on has not ended
pub goes_on : (mode : Mode) → MayGo mode → IsEnded mode → ⊥
goes_on Running goes over = over
goes_on Due goes over = over
goes_on Silent goes over = over
goes_on Collecting goes over = over
goes_on Asked goes over = over
goes_on Lacking goes over = over
goes_on (Ended e) goes over = goes

-- a next operation is one of those that are left
pub first_counts : (o : Option Op) (ops : List Op) → IsSome o → 0 < length (with_first o ops)
first_counts None ops is = absurd (cc)
first_counts (Some o) ops is = omega arith

-- a mode that was set leaves each thread its replies
pub later_mode : (states : List ThreadState) (t : ℕ) (s : ThreadState) (mode : Mode) → slice_get states t ≡ Some s
    → (IsEnded s.mode → ⊥) → Later states (set states t (record s { mode = mode }))
later_mode states t s mode at goes =
    later_set states t s (record s { mode = mode }) [] at goes (sym (append-nil s.replies.items))

-- and the moments of collections are those that they were
pub moments_mode : {script : Script} (config : Config) (log : List Entry) (states : List ThreadState) (t : ℕ)
    {s : ThreadState} (mode : Mode) (journal : List Journal) → slice_get states t ≡ Some s → (IsEnded s.mode → ⊥)
    → (HadNoRoom mode → ⊥) → {moments : List Moment} → HaveMoments script log states config journal moments
    → HaveMoments script log (set states t (record s { mode = mode })) config journal moments
moments_mode {script} config log states t {s} mode journal at goes room {moments} have =
    let after : List ThreadState = set states t (record s { mode = mode }) in
    subst (λ (h : List Entry). HaveMoments script h after config journal moments) (append-nil log)
    (HaveMoments_later script log [] config journal (later_mode states t s mode at goes)
    (none_set states t s (record s { mode = mode }) at room) have)

module _ (told : Bool) (script : Script) (config : Config) where
  -- a thread that has not ended need not say why
  pub ends_open : (log : List Entry) (states : List ThreadState) (t : ℕ) (mode : Mode) → (IsEnded mode → ⊥)
      → EndsSo told script log states config t mode
  ends_open log states t Running free = tt
  ends_open log states t Due free = tt
  ends_open log states t Silent free = tt
  ends_open log states t Collecting free = tt
  ends_open log states t Asked free = tt
  ends_open log states t Lacking free = tt
  ends_open log states t (Ended e) free = absurd (free tt)

  -- why a thread may have ended, untold
  pub ends_untold : (log : List Entry) (states : List ThreadState) (t : ℕ) (mode : Mode)
      → EndsSo told script log states config t mode → EndsSo false script log states config t mode
  ends_untold log states t Running ends = tt
  ends_untold log states t Due ends = tt
  ends_untold log states t Silent ends = tt
  ends_untold log states t Collecting ends = tt
  ends_untold log states t Asked ends = tt
  ends_untold log states t Lacking ends = tt
  ends_untold log states t (Ended end.Done) ends = ends
  ends_untold log states t (Ended (end.OutOfHeap held_words need)) ends = tt
  ends_untold log states t (Ended end.DiskFault) ends = ends
  ends_untold log states t (Ended (end.Damaged home at word)) ends =
      (λ (tells : false ≡ true). absurd (cc), ends.1, ends.2)
  ends_untold log states t (Ended end.Halted) ends = absurd ends

  -- why a thread ends is so when it has ended
  pub ends_gone : (log : List Entry) (states : List ThreadState) (t : ℕ) {s : ThreadState} (e : ThreadEnd)
      → slice_get states t ≡ Some s → (IsEnded s.mode → ⊥) → EndsSo told script log states config t (Ended e)
      → EndsSo told script log (set states t (record s { mode = Ended e })) config t (Ended e)
  ends_gone log states t {s} end.Done at goes ends =
      let after : ThreadState = record s { mode = Ended end.Done } in
      ap length (replies_same states t s after at ∙ sym (replies_here states t s at)) ∙ ends
  ends_gone log states t {s} (end.OutOfHeap held_words need) at goes ends = tt
  ends_gone log states t {s} end.DiskFault at goes ends =
      let after : ThreadState = record s { mode = Ended end.DiskFault } in
      subst (LoadsNext script t) (ap length (replies_here states t s at ∙ sym (replies_same states t s after at))) ends
  ends_gone log states t {s} (end.Damaged home place word) at goes ends =
      let after : ThreadState = record s { mode = Ended (end.Damaged home place word) } in (
        ends.0,
        subst (LoadsNext script t) (ap length (replies_here states t s at ∙ sym (replies_same states t s after at)))
            ends.1,
        ends.2,
      )
  ends_gone log states t {s} end.Halted at goes ends = absurd ends

-- a thread that can go on does not wait
pub goes_waits : (mode : Mode) → MayGo mode → Waits mode → ⊥
goes_waits Running goes waits = waits
goes_waits Due goes waits = waits
goes_waits Silent goes waits = goes
goes_waits Collecting goes waits = goes
goes_waits Asked goes waits = goes
goes_waits Lacking goes waits = goes
goes_waits (Ended e) goes waits = goes

-- a thread that got a reply does not wait for the stop word
pub told_runs : (s after : ThreadState) (reply : Reply) → TakesReply s after reply → after.mode ≡ Asked → ⊥
told_runs s after reply takes asked = elim takes.fits [
  | inl runs ↦ let is : after.mode ≡ Running = runs.0 in cc
  | inr rest ↦ elim rest [
    | inl due ↦ let is : after.mode ≡ Due = due in cc
    | inr ended ↦ let is : after.mode ≡ Ended end.Done = ended.0 in cc
  ]
]

-- nor for anything else
pub told_goes : (s after : ThreadState) (reply : Reply) → TakesReply s after reply → Waits after.mode → ⊥
told_goes s after reply takes waits = elim takes.fits [
  | inl runs ↦ subst Waits runs.0 waits
  | inr rest ↦ elim rest [ inl due ↦ subst Waits due waits | inr ended ↦ subst Waits ended.0 waits ]
]

-- the call of a thread did not pause
abbrev pub NoPause : Refusal → Type 0
NoPause (refusal.Pause cause) = ⊥
NoPause why = Unit {0}

-- one that lacks words was refused for them
pub lacks_space : (why : Refusal) (need : ℕ) → words_lacked_by why ≡ Some need
    → why ≡ refusal.Pause (pause.Space need)
lacks_space (refusal.Pause pause.Asked) need is = absurd (cc)
lacks_space (refusal.Pause (pause.Space words)) need is =
    ap (λ (n : ℕ). refusal.Pause (pause.Space n)) (same_Some words need is)
lacks_space (refusal.Pause pause.Forward) need is = absurd (cc)
lacks_space refusal.DiskFault need is = absurd (cc)
lacks_space (refusal.Damaged damaged) need is = absurd (cc)

-- a thread that can go on runs, or a silent collection is due
pub running_or_due : (mode : Mode) → MayGo mode → (mode ≡ Running) ⊎ (mode ≡ Due)
running_or_due Running goes = inl refl
running_or_due Due goes = inr refl
running_or_due Silent goes = absurd goes
running_or_due Collecting goes = absurd goes
running_or_due Asked goes = absurd goes
running_or_due Lacking goes = absurd goes
running_or_due (Ended e) goes = absurd goes

-- how a thread has ended
pub ended_so : (mode : Mode) → IsEnded mode → (e : ThreadEnd) × (mode ≡ Ended e)
ended_so Running over = absurd over
ended_so Due over = absurd over
ended_so Silent over = absurd over
ended_so Collecting over = absurd over
ended_so Asked over = absurd over
ended_so Lacking over = absurd over
ended_so (Ended e) over = (e, refl)
