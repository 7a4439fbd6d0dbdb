-- How many threads are lost, as faults are counted.
use Rattle.std.specs.Prelude.{Some, slice_get, if◌then◌else◌, Bool, map, ◌⊎◌}
use Rattle.std.proofs.Common.{[], ◌≡◌, ℕ, ◌+◌, ◌-◌, ◌^◌, ◌<◌, ◌≤◌, suc, false, List, ◌∷◌, refl, sym, ap, subst, arith}
use Rattle.std.proofs.Common.{inl, inr}
use Rattle.std.proofs.Math.ListN.{set}
use Rattle.std.proofs.Math.Nat.{min-eq_left, min-eq_right}
use Rattle.std.proofs.lemmas.Bool.{cases_lt}
use Rattle.std.proofs.lemmas.List.Sums.{sum-map, sum_by-cons}
use Rattle.melt_model.specs.declared.operations.Reply.{Reply}
use Rattle.melt_model.specs.declared.reports.ThreadEnd.TheVariants as end
use Rattle.melt_io.specs.Outside.{counted, Rose}
use Rattle.melt_core.specs.declared.answer.Refusal.{Refusal}
use Rattle.melt_core.specs.declared.answer.Refusal.TheVariants as refusal
use Rattle.melt_core.specs.declared.answer.Pause.TheVariants as pause
use Rattle.melt_core.specs.declared.answer.StepResult.TheVariants.{Refused}
use Rattle.melt_safepoint.specs.declared.thread.ThreadState.{ThreadState}
use Rattle.melt_safepoint.specs.declared.thread.Mode.{Mode}
use Rattle.melt_safepoint.specs.declared.thread.Mode.TheVariants.{Running, Due, Silent, Collecting, Asked, Lacking}
use Rattle.melt_safepoint.specs.declared.thread.Mode.TheVariants.{Ended}
use Rattle.melt_safepoint.specs.Run.{HasRisen}
use Rattle.melt_safepoint.specs.Threads.{halted, TakesReply}
use Rattle.melt_safepoint.specs.Modes.{halted_mode, mode_for, lost, lost_mode}
use Rattle.melt_safepoint.specs.Losses.{losses, CountsLoss, CountsLosses}
use Rattle.melt_safepoint.proofs.Threads.{sum_set}

-- how many threads are lost, where a state was set
pub losses_set : (states : List ThreadState) (t : ℕ) (s after : ThreadState) → slice_get states t ≡ Some s
    → losses (set states t after) + lost s.mode ≡ losses states + lost after.mode
losses_set states t s after at = sum_set (λ (x : ThreadState). lost x.mode) states t s after at

-- a state that was set is lost where the one before was, so as many are lost
pub losses_same : (states : List ThreadState) (t : ℕ) (s after : ThreadState) → slice_get states t ≡ Some s
    → lost after.mode ≡ lost s.mode → losses (set states t after) ≡ losses states
losses_same states t s after at same = omega (arith, same, losses_set states t s after at)

-- nor one that got a reply
pub told_lost : (s after : ThreadState) (reply : Reply) → TakesReply s after reply → lost after.mode ≡ 0
told_lost s after reply takes = elim takes.fits [
  | inl runs ↦ ap lost runs.0
  | inr rest ↦ elim rest [ inl is ↦ ap lost is | inr ended ↦ ap lost ended.0 ]
]

-- where none is lost of all threads, their number is 0
pub losses_none : (states : List ThreadState)
    → ((t : ℕ) (s : ThreadState) → slice_get states t ≡ Some s → lost s.mode ≡ 0) → losses states ≡ 0
losses_none [] none = refl
losses_none (s ∷ states) none =
    let here : lost s.mode ≡ 0 = none 0 s refl in
    let rest : losses states ≡ 0 = losses_none states (λ t x at. none (suc t) x at) in
    cc

-- a thread that is halted was not lost, and is not
halted_lost : (mode : Mode) → lost (halted_mode mode) ≡ lost mode
halted_lost Running = refl
halted_lost Due = refl
halted_lost Silent = refl
halted_lost Collecting = refl
halted_lost Asked = refl
halted_lost Lacking = refl
halted_lost (Ended e) = refl

-- the first thread, and those after it
losses_first : (s : ThreadState) (states : List ThreadState) → losses (s ∷ states) ≡ lost s.mode + losses states
losses_first s states =
    let f : ThreadState → ℕ = λ (x : ThreadState). lost x.mode in
    omega (arith, sum-map f (s ∷ states), sum-map f states, sum_by-cons f s states)

-- so as many are lost where all are halted
pub losses_halted : (states : List ThreadState) → losses (map halted states) ≡ losses states
losses_halted [] = refl
losses_halted (s ∷ states) =
    let here : lost (halted_mode s.mode) ≡ lost s.mode = halted_lost s.mode in
    omega (
      arith,
      losses_first s states,
      losses_first (halted s) (map halted states),
      here,
      losses_halted states,
    )

-- where as many are lost as before, they were counted
pub counts_same : (states after : List ThreadState) (a b : ℕ) → losses after ≡ losses states → a ≤ b
    → CountsLosses states after a b
counts_same states after a b same rises = record { counted = inl (omega (arith, same, rises)); rises = inl rises }

-- where one thread changed and was counted, all were
pub counts_set : (states : List ThreadState) (t : ℕ) (s after : ThreadState) (a b : ℕ) → slice_get states t ≡ Some s
    → CountsLoss s after a b → CountsLosses states (set states t after) a b
counts_set states t s after a b at counts = record {
  counted = elim counts.counted [
    | inl few ↦ inl (omega (arith, few, losses_set states t s after at))
    | inr full ↦ inr full
  ];
  rises = inl counts.rises;
}

-- they are counted by their number alone
pub counts_by : (states states' after after' : List ThreadState) (a b : ℕ) → losses states' ≡ losses states
    → losses after' ≡ losses after → CountsLosses states after a b → CountsLosses states' after' a b
counts_by states states' after after' a b before later counts = record {
  counted = elim counts.counted [
    | inl few ↦ inl (omega (arith, few, before, later))
    | inr full ↦ inr full
  ];
  rises = counts.rises;
}

-- One count further on another, as far as they go: a word has its end where it counts no more.
rises_open : (a b f g : ℕ) → HasRisen a (b + f) → HasRisen f g → HasRisen a (b + g)
rises_open a b f g first second = elim second [
  | inl on ↦ elim first [
    | inl up ↦ inl (omega (arith, up, on))
    | inr past ↦ inr (far b f g (2 ^ 64 - 1) past on)
  ]
  | inr full ↦ inr (omega (arith, full))
]
  where
    far : (b f g end : ℕ) → end ≤ b + f → f ≤ g → end ≤ b + g
    far b f g end past on = omega (arith, past, on)

-- On one reader after others, of which so many faults were counted already: those that were lost meanwhile are counted
-- with the rest.
pub counts_open : {states mid after : List ThreadState} {a : ℕ} (b : ℕ) {f g : ℕ} → CountsLosses states mid a (b + f)
    → CountsLosses mid after f g → CountsLosses states after a (b + g)
counts_open {a} b {f} {g} first second = record {
  counted = elim second.counted [
    | inl more ↦ elim first.counted [
      | inl few ↦ inl (omega (arith, few, more))
      | inr past ↦ elim second.rises [
        | inl on ↦ inr (omega (arith, past, on))
        | inr full ↦ inr (omega (arith, full))
      ]
    ]
    | inr full ↦ inr (omega (arith, full))
  ];
  rises = rises_open a b f g first.rises second.rises;
}

-- and so one after the other
pub counts_then : (states mid after : List ThreadState) (a b c : ℕ) → CountsLosses states mid a b
    → CountsLosses mid after b c → CountsLosses states after a c
counts_then states mid after a b c first second =
    subst (CountsLosses states after a) (omega arith)
    (counts_open 0 (subst (CountsLosses states mid a) (omega arith) first) second)

-- a sum that a word has no room for leaves it at its end
pub counted_cases : (b f : ℕ) → (counted b f ≡ b + f) ⊎ (counted b f ≡ 2 ^ 64 - 1)
counted_cases b f = elim (cases_lt (2 ^ 64 - 1) (b + f)) [
  | inl past ↦ inr (min-eq_right (omega (arith, past)))
  | inr within ↦ inl (min-eq_left within)
]

-- A reader was given back, and its faults were added to those of the disk.
pub counts_back : (states after : List ThreadState) (a b f : ℕ) → CountsLosses states after a (b + f)
    → CountsLosses states after a (counted b f)
counts_back states after a b f counts = elim (counted_cases b f) [
  | inl same ↦ subst (CountsLosses states after a) (sym same) counts
  | inr full ↦
      let end : 2 ^ 64 - 1 ≤ counted b f = omega (arith, full) in
      record { counted = inr end; rises = inr end }
]

-- nor is it lost
pub told_kept : (s after : ThreadState) (reply : Reply) → TakesReply s after reply → lost_mode after.mode ≡ false
told_kept s after reply takes = elim takes.fits [
  | inl runs ↦ ap lost_mode runs.0
  | inr rest ↦ elim rest [ inl due ↦ ap lost_mode due | inr ended ↦ ap lost_mode ended.0 ]
]

-- A thread that is not lost, and an event that counts no fault less.
pub counts_none : (s after : ThreadState) (faults faults_after : ℕ) → lost_mode after.mode ≡ false
    → faults ≤ faults_after → CountsLoss s after faults faults_after
counts_none s after faults faults_after kept rises =
    let none : lost after.mode ≡ 0 = ap (λ (b : Bool). if b then 1 else 0) kept in
    record { counted = inl (omega (arith, none, rises)); rises = rises }

-- a thread that is lost, and the fault that was counted
counts_one : (s after : ThreadState) (faults faults_after : ℕ) → lost after.mode ≡ 1 → Rose faults faults_after
    → faults ≤ faults_after → CountsLoss s after faults faults_after
counts_one s after faults faults_after one rose rises = record {
  counted =
      elim (cases_lt faults (2 ^ 64 - 1)) [
        | inl below ↦ let more : faults < faults_after = rose below in inl (omega (arith, one, more))
        | inr above ↦ inr (omega (arith, above, rises))
      ];
  rises = rises;
}

-- each fault for which a call was refused is counted
pub refused_counts : (s : ThreadState) (why : Refusal) (faults faults_after : ℕ)
    → (Refused why ≡ Refused refusal.DiskFault → Rose faults faults_after) → faults ≤ faults_after
    → CountsLoss s (record s { mode = mode_for why }) faults faults_after
refused_counts s (refusal.Pause pause.Asked) faults faults_after fault rises =
    counts_none s (record s { mode = Asked }) faults faults_after refl rises
refused_counts s (refusal.Pause (pause.Space need)) faults faults_after fault rises =
    counts_none s (record s { mode = Lacking }) faults faults_after refl rises
refused_counts s (refusal.Pause pause.Forward) faults faults_after fault rises =
    counts_none s (record s { mode = Lacking }) faults faults_after refl rises
refused_counts s refusal.DiskFault faults faults_after fault rises =
    counts_one s (record s { mode = Ended end.DiskFault }) faults faults_after refl (fault refl) rises
refused_counts s (refusal.Damaged damaged) faults faults_after fault rises =
    counts_none s (record s { mode = mode_for (refusal.Damaged damaged) }) faults faults_after refl rises

-- no thread was lost before a reader that was lent anew
pub fresh_counts : {states mid after : List ThreadState} {a b f g : ℕ} → mid ≡ states → b ≡ a → f ≡ 0
    → CountsLosses mid after f g → CountsLosses states after a (b + g)
fresh_counts {states} {mid} {a} {b} {f} same reads none counts =
    counts_open b (counts_same states mid a (b + f) (ap losses same) (omega (arith, reads))) counts

-- where no thread is lost, the count of them that has risen is enough
pub counts_risen : (states after : List ThreadState) (a b : ℕ) → losses after ≡ losses states → HasRisen a b
    → CountsLosses states after a b
counts_risen states after a b same risen = record {
  counted = elim risen [ inl up ↦ inl (omega (arith, up, same)) | inr full ↦ inr full ];
  rises = risen;
}

-- What was counted of the disk and of the threads since a run began to pass a safepoint.
pub record CountsBefore (states after : List ThreadState) (faults faults_after reads reads_after : ℕ) : Type 0 where
  pub count : faults ≤ faults_after
  pub lost : CountsLosses states after reads reads_after

-- after one collection more, no thread more is lost, and no read more failed
pub counts_made : {states mid after : List ThreadState} (a b c : ℕ) {x y z : ℕ} → after ≡ mid → a ≤ b → b ≤ c
    → CountsLosses states mid x y → z ≡ y → CountsBefore states after a c x z
counts_made {states} {after} a b c {x} {y} same first second lost reads = record {
  count = omega (arith, first, second);
  lost = subst (CountsLosses states after x) (sym reads)
      (subst (λ (xs : List ThreadState). CountsLosses states xs x y) (sym same) lost);
}
