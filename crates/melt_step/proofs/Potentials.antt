-- A run gets nearer to its end with each event and with each safepoint.
use Rattle.std.proofs.Common.{◌≡◌, ◌≢◌, ℕ, zero, suc, ◌+◌, ◌*◌, ◌<◌, ◌≤◌, ◌⊎◌, inl, inr, List, [], ◌∷◌, length, drop}
use Rattle.std.proofs.Common.{Bool, true, false, get_or, refl, sym, ◌∙◌, ap, subst, arith}
use Rattle.std.proofs.Math.ListN.{set}
use Rattle.std.proofs.lemmas.Option.{same_Some}
use Rattle.std.specs.Prelude.{Option, None, Some, IsSome, slice_get}
use Rattle.melt_model.specs.declared.config.Config.{Config}
use Rattle.melt_model.specs.declared.operations.Op.{Op}
use Rattle.melt_model.specs.declared.reports.ThreadEnd.TheVariants as end
use Rattle.melt_trace.specs.Script.{Script}
use Rattle.melt_core.specs.declared.answer.Refusal.TheVariants as refusal
use Rattle.melt_scion.specs.Heaps.{OnDisk}
use Rattle.melt_core.specs.declared.call.Call.{Call}
use Rattle.melt_core.specs.Views.{View, call_of}
use Rattle.melt_safepoint.specs.declared.thread.Mode.{Mode}
use Rattle.melt_safepoint.specs.declared.thread.Mode.TheVariants.{Running, Due, Silent, Collecting, Asked, Lacking}
use Rattle.melt_safepoint.specs.declared.thread.Mode.TheVariants.{Ended}
use Rattle.melt_safepoint.specs.declared.thread.ThreadState.{ThreadState}
use Rattle.melt_safepoint.specs.Modes.{mode_for, MayGo, IsEnded, owes_silent, jobs}
use Rattle.melt_safepoint.specs.Threads.{jobs_of, left, with_first}
use Rattle.melt_safepoint.proofs.Modes.{lost_ends, paused_cases, running_or_due}
use Rattle.melt_safepoint.specs.Tables.{ThreadWaits, ThreadGoes, ThreadRefused, ThreadLost, ThreadTold, ThreadStep}
use Rattle.melt_safepoint.specs.Tables.{TableStands, turn_left, potential}

-- what a thread in this mode with so many operations to come has still to do
abbrev amount : Mode → ℕ → Option Call → ℕ
amount mode count call = 2000000 * jobs mode count + turn_left mode call

-- the same of a thread
abbrev part : ThreadState → Option Call → ℕ
part s call = amount s.mode (length (left s)) call

-- the first thread, and then the others
potential-first : (s : ThreadState) (states : List ThreadState) (calls : List (Option Call))
    → potential (s ∷ states) calls ≡ part s (get_or calls 0 None) + potential states (drop 1 calls)
potential-first s states [] = refl
potential-first s states (c ∷ calls) = refl

-- the calls after the first
get_or-drop_first : (calls : List (Option Call)) (u : ℕ) → get_or (drop 1 calls) u None ≡ get_or calls (suc u) None
get_or-drop_first [] u = refl
get_or-drop_first (c ∷ calls) u = refl

-- the same calls give the same
potential-same : (states : List ThreadState) (a b : List (Option Call)) → ((u : ℕ) → get_or b u None ≡ get_or a u None)
    → potential states b ≡ potential states a
potential-same [] a b same = refl
potential-same (s ∷ states) a b same =
    let later : potential states (drop 1 b) ≡ potential states (drop 1 a) =
    potential-same states (drop 1 a) (drop 1 b)
    (λ u. get_or-drop_first b u ∙ (same (suc u) ∙ sym (get_or-drop_first a u))) in
    let here : part s (get_or b 0 None) ≡ part s (get_or a 0 None) = ap (part s) (same 0) in
    omega (arith, potential-first s states a, potential-first s states b, later, here)

-- one thread has less to do, and the others have as much as before
potential-less : (states : List ThreadState) (a b : List (Option Call)) (t : ℕ) (s after : ThreadState)
    → slice_get states t ≡ Some s → ((u : ℕ) → u ≢ t → get_or b u None ≡ get_or a u None)
    → part after (get_or b t None) < part s (get_or a t None) → potential (set states t after) b < potential states a
potential-less [] a b t s after at same less = absurd (let none : slice_get [] t ≡ Some s = at in cc)
potential-less (x ∷ states) a b zero s after at same less =
    let here : x ≡ s = same_Some x s at in
    let later : potential states (drop 1 b) ≡ potential states (drop 1 a) =
    potential-same states (drop 1 a) (drop 1 b)
    (λ u. get_or-drop_first b u ∙ (same (suc u) (omega arith) ∙ sym (get_or-drop_first a u))) in
    let part_is : part x (get_or a 0 None) ≡ part s (get_or a 0 None) =
    ap (λ (y : ThreadState). part y (get_or a 0 None)) here in
    omega (arith, potential-first x states a, potential-first after states b, later, part_is, less)
potential-less (x ∷ states) a b (suc t) s after at same less =
    let here : part x (get_or b 0 None) ≡ part x (get_or a 0 None) = ap (part x) (same 0 (omega arith)) in
    let lower : part after (get_or (drop 1 b) t None) < part s (get_or (drop 1 a) t None) =
    rw (get_or-drop_first b t, get_or-drop_first a t) less in
    let later : potential (set states t after) (drop 1 b) < potential states (drop 1 a) =
    potential-less states (drop 1 a) (drop 1 b) t s after at
    (λ u differ. get_or-drop_first b u ∙ (same (suc u) (omega (arith, differ)) ∙ sym (get_or-drop_first a u))) lower in
    omega (arith, potential-first x states a, potential-first x (set states t after) b, later, here)

-- what a thread has to do, told by what its mode and its operations are
part_less : (s after : ThreadState) (c d : Option Call) {m k : Mode} {n p : ℕ} → s.mode ≡ m → length (left s) ≡ n
    → after.mode ≡ k → length (left after) ≡ p → amount k p d < amount m n c → part after d < part s c
part_less s after c d e f g h less = rw (e, f, g, h) less

-- a thread that waits from now on
waits_less : (v w : View) (t : ℕ) (s after : ThreadState) (mode : Mode) → ThreadWaits v w t s after mode
    → part after (call_of w t) < part s (call_of v t)
waits_less v w t s after mode x =
    let to_come : length (left after) ≡ length (left s) = ap (λ (y : ThreadState). length (left y)) x.only in
    let now : after.mode ≡ mode = ap (λ (y : ThreadState). y.mode) x.only in
    elim x.before [
      | inl own ↦ part_less s after (call_of v t) (call_of w t) own.0 refl (now ∙ own.2) to_come (omega arith)
      | inr silent ↦ part_less s after (call_of v t) (call_of w t) silent.0 refl (now ∙ silent.1) to_come (omega arith)
    ]

-- a call that goes on
goes_less : (v w : View) (t : ℕ) (s after : ThreadState) → ThreadGoes v w t s after
    → part after (call_of w t) < part s (call_of v t)
goes_less v w t s after x =
    part_less s after (call_of v t) (call_of w t) x.running refl (ap (λ (y : ThreadState). y.mode) x.same ∙ x.running)
    (ap (λ (y : ThreadState). length (left y)) x.same) (omega (arith, x.nearer))

-- a call that was refused
refused_less : (v w : View) (t : ℕ) (s after : ThreadState) → ThreadRefused v w t s after
    → part after (call_of w t) < part s (call_of v t)
refused_less v w t s after x =
    let to_come : length (left after) ≡ length (left s) = ap (λ (y : ThreadState). length (left y)) x.only in
    let now : after.mode ≡ mode_for (refusal.Pause x.cause) = ap (λ (y : ThreadState). y.mode) x.only in
    let n : ℕ = length (left s) in
    elim (paused_cases x.cause) [
      | inl asked ↦ part_less s after (call_of v t) (call_of w t) x.running refl (now ∙ asked) to_come (omega arith)
      | inr lacks ↦ part_less s after (call_of v t) (call_of w t) x.running refl (now ∙ lacks) to_come (omega arith)
    ]

-- One operation less. The next one takes fewer events than that outweighs.
reply_less : (s after : ThreadState) (c d : Option Call) (m : Mode) (n : ℕ) → s.mode ≡ m → length (left s) ≡ suc n
    → length (left after) ≡ n → 2000000 * (3 + 2 * n) ≤ amount m (suc n) c → d ≡ None → (after.mode ≡ Running)
    × IsSome after.op ⊎ ((after.mode ≡ Due) ⊎ ((after.mode ≡ Ended end.Done) × (left after ≡ [])))
    → part after d < part s c
reply_less s after c d m n is had to_come least over fits = elim fits [
  | inl runs ↦ part_less s after c d is had runs.0 to_come (rw over (omega (arith, least)))
  | inr other ↦ elim other [
    | inl due ↦ part_less s after c d is had due to_come (omega (arith, least))
    | inr ended ↦ part_less s after c d is had ended.0 to_come (omega (arith, least))
  ]
]

-- a reply
told_less : (told : Bool) (v w : View) (t : ℕ) (s after : ThreadState) → MayGo s.mode → ThreadTold told v w t s after
    → part after (call_of w t) < part s (call_of v t)
told_less told v w t s after goes x =
    let had : length (left s) ≡ suc (length s.cursor.operations) =
    ap (λ (o : Option Op). length (with_first o s.cursor.operations)) x.next in
    let to_come : length (left after) ≡ length s.cursor.operations =
    ap (λ (ops : List Op). length ops) x.takes.to_come in
    elim (running_or_due s.mode goes) [
      | inl runs ↦ reply_less s after (call_of v t) (call_of w t) Running (length s.cursor.operations) runs had to_come
          (omega arith) x.call x.takes.fits
      | inr due ↦ reply_less s after (call_of v t) (call_of w t) Due (length s.cursor.operations) due had to_come
          (omega arith) x.call x.takes.fits
    ]

-- a thread that has ended has nothing to do
ended_nothing : (mode : Mode) (count : ℕ) (call : Option Call) → IsEnded mode → amount mode count call ≡ 0
ended_nothing Running count call over = absurd over
ended_nothing Due count call over = absurd over
ended_nothing Silent count call over = absurd over
ended_nothing Collecting count call over = absurd over
ended_nothing Asked count call over = absurd over
ended_nothing Lacking count call over = absurd over
ended_nothing (Ended e) count call over = refl

-- one whose record could not be read, or is none
lost_less : {told : Bool} {finish : ℕ} {v w : View} {t : ℕ} {s after : ThreadState} → MayGo s.mode
    → ThreadLost told finish v w t s after → part after (call_of w t) < part s (call_of v t)
lost_less {told} {finish} {v} {w} {t} {s} {after} goes x =
    let over : IsEnded after.mode =
    subst IsEnded (sym (ap (λ (y : ThreadState). y.mode) x.only)) (lost_ends told finish x.refusal x.cause) in
    let none : part after (call_of w t) ≡ 0 = ended_nothing after.mode (length (left after)) (call_of w t) over in
    let runs : s.mode ≡ Running = elim (running_or_due s.mode goes) [
      | inl running ↦ running
      | inr due ↦ absurd (let wrong : true ≡ false = sym (ap owes_silent due) ∙ x.not_due in cc)
    ] in
    let some : 0 < amount Running (length (left s)) (call_of v t) = omega arith in
    let here : part s (call_of v t) ≡ amount Running (length (left s)) (call_of v t) =
    ap (λ (m : Mode). amount m (length (left s)) (call_of v t)) runs in
    omega (arith, none, some, here)

-- an event of a thread that can go on
pub step_nearer : {told : Bool} {script : Script} {config : Config} {disk : OnDisk} {v w : View}
    {states : List ThreadState} {t : ℕ} {s after : ThreadState} → TableStands told script config disk v states
    → slice_get states t ≡ Some s → MayGo s.mode → ThreadStep told disk v w t s after → length w.calls ≡ length v.calls
    → potential (set states t after) w.calls < potential states v.calls
step_nearer {told} {v} {w} {states} {t} {s} {after} table at goes step same =
    potential-less states v.calls w.calls t s after at step.others.calls (elim step.what [
      | inl waits ↦ waits_less v w t s after waits.0 waits.1
      | inr a ↦ elim a [
        | inl going ↦ goes_less v w t s after going
        | inr b ↦ elim b [
          | inl refused ↦ refused_less v w t s after refused
          | inr c ↦ elim c [
            | inl lost ↦ lost_less goes lost
            | inr got ↦ told_less told v w t s after goes got
          ]
        ]
      ]
    ])

-- what a thread has still to do, told by what its mode and its operations are
jobs_less : (s after : ThreadState) (m k : Mode) (n p : ℕ) → s.mode ≡ m → length (left s) ≡ n → after.mode ≡ k
    → length (left after) ≡ p → jobs k p ≤ jobs m n → jobs_of after ≤ jobs_of s
jobs_less s after m k n p e f g h less = rw (e, f, g, h) less

-- a thread that got its reply
reply_jobs : (s after : ThreadState) (m : Mode) (n : ℕ) → s.mode ≡ m → length (left s) ≡ suc n
    → length (left after) ≡ n → 3 + 2 * n ≤ jobs m (suc n) → (after.mode ≡ Running) × IsSome after.op
    ⊎ ((after.mode ≡ Due) ⊎ ((after.mode ≡ Ended end.Done) × (left after ≡ []))) → jobs_of after ≤ jobs_of s
reply_jobs s after m n is had to_come least fits = elim fits [
  | inl runs ↦ jobs_less s after m Running (suc n) n is had runs.0 to_come (omega (arith, least))
  | inr other ↦ elim other [
    | inl due ↦ jobs_less s after m Due (suc n) n is had due to_come (omega (arith, least))
    | inr ended ↦ jobs_less s after m (Ended end.Done) (suc n) n is had ended.0 to_come (omega arith)
  ]
]

-- one that has ended has nothing to do
ended_jobs : (mode : Mode) (count : ℕ) → IsEnded mode → jobs mode count ≡ 0
ended_jobs Running count over = absurd over
ended_jobs Due count over = absurd over
ended_jobs Silent count over = absurd over
ended_jobs Collecting count over = absurd over
ended_jobs Asked count over = absurd over
ended_jobs Lacking count over = absurd over
ended_jobs (Ended e) count over = refl

-- an event gives its thread no more to do
pub step_jobs : {told : Bool} {disk : OnDisk} {v w : View} {t : ℕ} {s after : ThreadState} → MayGo s.mode
    → ThreadStep told disk v w t s after → jobs_of after ≤ jobs_of s
step_jobs {told} {disk} {s} {after} goes step =
    let n : ℕ = length (left s) in
    elim step.what [
      | inl waits ↦
          let x = waits.1 in
          let to_come : length (left after) ≡ n = ap (λ (y : ThreadState). length (left y)) x.only in
          let now : after.mode ≡ waits.0 = ap (λ (y : ThreadState). y.mode) x.only in
          elim x.before [
            | inl own ↦ jobs_less s after Running Collecting n n own.0 refl (now ∙ own.2) to_come (omega arith)
            | inr silent ↦ jobs_less s after Due Silent n n silent.0 refl (now ∙ silent.1) to_come (omega arith)
          ]
      | inr a ↦ elim a [
        | inl going ↦ omega (arith, ap jobs_of going.same)
        | inr b ↦ elim b [
          | inl refused ↦
              let to_come : length (left after) ≡ n = ap (λ (y : ThreadState). length (left y)) refused.only in
              let now : after.mode ≡ mode_for (refusal.Pause refused.cause) =
              ap (λ (y : ThreadState). y.mode) refused.only in
              elim (paused_cases refused.cause) [
                | inl asked ↦ jobs_less s after Running Asked n n refused.running refl (now ∙ asked) to_come
                    (omega arith)
                | inr lacks ↦ jobs_less s after Running Lacking n n refused.running refl (now ∙ lacks) to_come
                    (omega arith)
              ]
          | inr c ↦ elim c [
            | inl lost ↦
                let over : IsEnded after.mode =
                subst IsEnded (sym (ap (λ (y : ThreadState). y.mode) lost.only))
                (lost_ends told disk.end lost.refusal lost.cause) in
                omega (arith, ended_jobs after.mode (length (left after)) over)
            | inr got ↦
                let had : n ≡ suc (length s.cursor.operations) =
                ap (λ (o : Option Op). length (with_first o s.cursor.operations)) got.next in
                let to_come : length (left after) ≡ length s.cursor.operations =
                ap (λ (ops : List Op). length ops) got.takes.to_come in
                elim (running_or_due s.mode goes) [
                  | inl runs ↦ reply_jobs s after Running (length s.cursor.operations) runs had to_come (omega arith)
                      got.takes.fits
                  | inr due ↦ reply_jobs s after Due (length s.cursor.operations) due had to_come (omega arith)
                      got.takes.fits
                ]
          ]
        ]
      ]
    ]
