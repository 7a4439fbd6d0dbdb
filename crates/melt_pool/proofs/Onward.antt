-- A thread goes on in an epoch, one call after another.
use Rattle.std.proofs.Common.{[], ◌≡◌, ◌≢◌, ℕ, suc, ◌+◌, ◌<◌, ◌≤◌, List, ◌∷◌, ◌++◌, length, take, refl, sym}
use Rattle.std.proofs.Common.{◌∙◌, ap, subst, arith, length-append, inl, inr, true, false}
use Rattle.std.proofs.lemmas.List.{append-nil, append_assoc}
use Rattle.std.proofs.lemmas.List.Sums.{sum_by_push}
use Rattle.std.specs.Prelude.{Bool, Option, Some, if◌then◌else◌}
use Rattle.std.specs.List.{count_by}
use Rattle.melt_model.specs.Thread.{own}
use Rattle.melt_model.specs.declared.operations.Op.{Op}
use Rattle.melt_model.specs.declared.operations.Op.TheVariants.{Collect}
use Rattle.melt_model.specs.declared.operations.Reply.{Reply}
use Rattle.melt_model.specs.declared.reports.ThreadEnd.TheVariants as end
use Rattle.melt_trace.specs.Script.{Script, operations}
use Rattle.melt_core.specs.declared.answer.Pause.TheVariants as pause
use Rattle.melt_core.specs.declared.answer.Refusal.{Refusal}
use Rattle.melt_core.specs.declared.answer.Refusal.TheVariants as refusal
use Rattle.melt_core.specs.declared.answer.Refusal.TheVariants.{Pause}
use Rattle.melt_epoch.specs.Ends.{view_of}
use Rattle.melt_epoch.specs.declared.mutator.Mutator.{Mutator}
use Rattle.melt_safepoint.specs.Modes.{IsEnded, MayGo, jobs, mode_for, owes, owes_silent}
use Rattle.melt_safepoint.specs.Asked.{is_collect}
use Rattle.melt_safepoint.specs.Threads.{DueBy, TakesReply, jobs_of, left, with_first}
use Rattle.melt_safepoint.specs.declared.thread.Mode.{Mode}
use Rattle.melt_safepoint.specs.declared.thread.Mode.TheVariants.{Running, Due, Silent, Collecting, Asked}
use Rattle.melt_safepoint.specs.declared.thread.Mode.TheVariants.{Lacking, Ended}
use Rattle.melt_safepoint.specs.declared.thread.ThreadState.{ThreadState}
use Rattle.melt_safepoint.proofs.Counting.{is_no_collect}
use Rattle.melt_safepoint.proofs.Threads.{take_next}
use Rattle.melt_pool.specs.Programs.{DueOnly, ThreadWentOn, IsDueAfter, OwesSilent, ProgramStands, collects_in}
use Rattle.melt_pool.specs.Programs.{made_again}
use Rattle.melt_pool.specs.Programs.{mode_again}
use Rattle.melt_pool.proofs.Owing.{again_owes, mode_owes, owes_on, refused_owes}

-- 1 for true
abbrev as_number : Bool → ℕ
as_number b = if b then 1 else 0

-- and for true alone
owed_as : (a b : Bool) → as_number a ≡ as_number b → a ≡ true → b ≡ true
owed_as true true same is = refl
owed_as true false same is = absurd (omega (arith, same))
owed_as false b same is = absurd (cc)

-- one that is due after a reply
pub reply_due : (every : ℕ) (s after : ThreadState) (reply : Reply) → DueBy every s after → TakesReply s after reply
    → DueOnly every s after
reply_due every s after reply due takes owing =
    let count : length after.replies.items ≡ length s.replies.items + 1 =
    ap length takes.replies ∙ length-append s.replies.items (reply ∷ []) in
    let more : after.replies.items ≢ s.replies.items = λ same. omega (arith, ap length same, count) in
    let is : after.mode ≡ Due = elim takes.fits [
      | inl runs ↦ absurd (let no : false ≡ true = sym (ap owes_silent runs.0) ∙ owing in cc)
      | inr over ↦ elim over [
        | inl due ↦ due
        | inr ended ↦ absurd (let no : false ≡ true = sym (ap owes_silent ended.0) ∙ owing in cc)
      ]
    ] in
    let divides = (due more).0 is in
    inr (divides.0, (λ none. omega (arith, none, count)), divides.1)

-- a mode that owes as much as another owes where that does
pub mode_due : (every : ℕ) (s after : ThreadState) (mode : Mode) → after ≡ record s { mode = mode }
    → owes mode ≡ owes s.mode → DueOnly every s after
mode_due every s after mode is same owing =
    let now : owes_silent mode ≡ true = sym (ap (λ (x : ThreadState). owes_silent x.mode) is) ∙ owing in
    inl (owed_as (owes_silent mode) (owes_silent s.mode) same now, ap (λ (x : ThreadState). x.replies.items) is)

-- none is due where a call was refused
pub refusal_due : (every : ℕ) (s after : ThreadState) (why : Refusal) (mode : Mode) → s.mode ≡ Running
    → mode ≡ mode_for why → after ≡ record s { mode = mode } → DueOnly every s after
refusal_due every s after why mode runs is same =
    mode_due every s after mode same (ap owes is ∙ (refused_owes why ∙ sym (ap owes runs)))

-- one part after another
due_on : (every : ℕ) (s mid after : ThreadState) → DueOnly every s mid → DueOnly every mid after
    → DueOnly every s after
due_on every s mid after first second owing = elim (second owing) [
  | inl kept ↦ elim (first kept.0) [
    | inl before ↦ inl (before.0, kept.1 ∙ before.1)
    | inr brought ↦ inr (subst (λ (rs : List Reply). IsDueAfter every (length rs)) (sym kept.1) brought)
  ]
  | inr brought ↦ inr brought
]

pub jobs_by : (s : ThreadState) (mode : Mode) (n : ℕ) → s.mode ≡ mode → length (left s) ≡ n → jobs_of s ≡ jobs mode n
jobs_by s mode n is to_come = rw (is, to_come) refl

-- a reply leaves less to do
pub reply_less : (s after : ThreadState) (op : Op) (reply : Reply) → s.mode ≡ Running → s.op ≡ Some op
    → TakesReply s after reply → jobs_of after < jobs_of s
reply_less s after op reply runs next takes =
    let n : ℕ = length s.cursor.operations in
    let had : jobs_of s ≡ jobs Running (suc n) =
    jobs_by s Running (suc n) runs (ap (λ (o : Option Op). length (with_first o s.cursor.operations)) next) in
    let few : length (left after) ≡ n = ap length takes.to_come in
    elim takes.fits [
      | inl runs_on ↦ omega (arith, had, jobs_by after Running n runs_on.0 few)
      | inr over ↦ elim over [
        | inl due ↦ omega (arith, had, jobs_by after Due n due few)
        | inr ended ↦ omega (arith, had, jobs_by after (Ended end.Done) n ended.0 few)
      ]
    ]

-- a call that was refused leaves no more
refused_jobs : (why : Refusal) (n : ℕ) → jobs (mode_for why) n ≤ jobs Running n
refused_jobs (Pause pause.Asked) n = omega arith
refused_jobs (Pause (pause.Space need)) n = omega arith
refused_jobs (Pause pause.Forward) n = omega arith
refused_jobs refusal.DiskFault n = omega arith
refused_jobs (refusal.Damaged damaged) n = omega arith

pub refused_few : (s : ThreadState) (why : Refusal) → s.mode ≡ Running
    → jobs (mode_for why) (length (left s)) ≤ jobs_of s
refused_few s why runs =
    let had : jobs_of s ≡ jobs Running (length (left s)) = jobs_by s Running (length (left s)) runs refl in
    let few = refused_jobs why (length (left s)) in
    omega (arith, had, few)

-- nor does one that waits for its collection
pub collecting_few : (s : ThreadState) → s.mode ≡ Running → jobs Collecting (length (left s)) ≤ jobs_of s
collecting_few s runs =
    let had : jobs_of s ≡ jobs Running (length (left s)) = jobs_by s Running (length (left s)) runs refl in
    omega (arith, had)

pub silent_few : (s : ThreadState) → MayGo s.mode → (s.mode ≡ Running → ⊥) → jobs Silent (length (left s)) ≤ jobs_of s
silent_few s may other = by s.mode (length (left s)) may other
  where
    by : (mode : Mode) (n : ℕ) → MayGo mode → (mode ≡ Running → ⊥) → jobs Silent n ≤ jobs mode n
    by Running n may other = absurd (other refl)
    by Due n may other = omega arith
    by Silent n may other = absurd may
    by Collecting n may other = absurd may
    by Asked n may other = absurd may
    by Lacking n may other = absurd may
    by (Ended e) n may other = absurd may

-- one that is made again leaves as many
again_jobs : (mode : Mode) (n : ℕ) → jobs (mode_again mode) n ≤ jobs mode n
again_jobs Running n = omega arith
again_jobs Due n = omega arith
again_jobs Silent n = omega arith
again_jobs Collecting n = omega arith
again_jobs Asked n = omega arith
again_jobs Lacking n = omega arith
again_jobs (Ended e) n = omega arith

-- a thread that has ended has none
pub ended_jobs : (s : ThreadState) → IsEnded s.mode → jobs_of s ≡ 0
ended_jobs s over = by s.mode (length (left s)) over
  where
    by : (mode : Mode) (n : ℕ) → IsEnded mode → jobs mode n ≡ 0
    by Running n over = absurd over
    by Due n over = absurd over
    by Silent n over = absurd over
    by Collecting n over = absurd over
    by Asked n over = absurd over
    by Lacking n over = absurd over
    by (Ended e) n over = refl

-- an operation that is no collection, and is answered, leaves the count of these
collects_told : (script : Script) (t : ℕ) (s after : ThreadState) (op : Op) (reply : Reply) → ProgramStands script t s
    → s.op ≡ Some op → op ≢ Collect → TakesReply s after reply → collects_in script t after ≡ collects_in script t s
collects_told script t s after op reply p next other takes =
    let ops : List Op = operations script t in
    let k : ℕ = length s.replies.items in
    let C : ℕ → ℕ = λ (n : ℕ). count_by is_collect (take n ops) in
    let first : left s ≡ op ∷ s.cursor.operations = ap (λ (o : Option Op). with_first o s.cursor.operations) next in
    let count : length after.replies.items ≡ suc k =
    omega (arith, ap length takes.replies, length-append s.replies.items (reply ∷ [])) in
    let taken : take (suc k) ops ≡ take k ops ++ op ∷ [] =
    take_next ops s.cursor.operations k op (sym p.to_come ∙ first) in
    let more : C (suc k) ≡ C k + as_number (is_collect op) =
    ap (count_by is_collect) taken ∙ sum_by_push (λ (o : Op). if is_collect o then 1 else 0) (take k ops) op in
    let none : as_number (is_collect op) ≡ 0 = ap as_number (is_no_collect op other) in
    omega (arith, more, none, ap C count)

module _ {R : Type 0} (every : ℕ) (script : Script) (m n : Mutator R) (s : ThreadState) where
  -- a thread goes on in another mode alone
  pub mode_goes : (after : ThreadState) (mode : Mode) → after ≡ record s { mode = mode } → n.thread ≡ m.thread
      → own (view_of n).seen m.thread ≡ own (view_of m).seen m.thread → owes mode ≡ owes s.mode
      → jobs mode (length (left s)) ≤ jobs_of s → ThreadWentOn every script m n s after
  mode_goes after mode is thread same owed few =
      let moved : ThreadState = record s { mode = mode } in
      let here : ThreadWentOn every script m n s moved = record {
        thread = thread;
        extra = [];
        grows = sym (append-nil s.replies.items);
        owes = mode_owes every s moved mode refl owed;
        due = mode_due every s moved mode refl owed;
        collects = refl;
        less = few;
        entries = omega (arith, ap length same);
      } in
      subst (ThreadWentOn every script m n s) (sym is) here

  -- with a reply
  pub reply_goes : (after : ThreadState) (op : Op) (reply : Reply) → n.thread ≡ m.thread
      → ProgramStands script m.thread s → s.mode ≡ Running → s.op ≡ Some op → op ≢ Collect
      → TakesReply s after reply → OwesSilent every s after → DueOnly every s after
      → length (own (view_of n).seen m.thread) ≤ length (own (view_of m).seen m.thread) + 1
      → ThreadWentOn every script m n s after
  reply_goes after op reply thread program runs next other takes owing due few = record {
    thread = thread;
    extra = reply ∷ [];
    grows = takes.replies;
    owes = owing;
    due = due;
    collects = collects_told script m.thread s after op reply program next other takes;
    less = let less : jobs_of after < jobs_of s = reply_less s after op reply runs next takes in omega (arith, less);
    entries =
        let count : length after.replies.items ≡ length s.replies.items + 1 =
        ap length takes.replies ∙ length-append s.replies.items (reply ∷ []) in
        omega (arith, count, few);
  }

-- a call is made again
pub again_goes : {R : Type 0} (every : ℕ) (script : Script) (m : Mutator R) (s after : ThreadState)
    → after ≡ made_again s → ThreadWentOn every script m m s after
again_goes every script m s after is =
    mode_goes every script m m s after (mode_again s.mode) is refl refl (again_owes s.mode)
    (again_jobs s.mode (length (left s)))

-- one part after another
pub goes_then : {R : Type 0} {every : ℕ} {script : Script} {m n k : Mutator R} {s mid after : ThreadState}
    → ThreadWentOn every script m n s mid → ThreadWentOn every script n k mid after
    → ThreadWentOn every script m k s after
goes_then {every} {script} {m} {n} {k} {s} {mid} {after} first second =
    let collects : collects_in script m.thread after ≡ collects_in script m.thread mid =
    subst (λ (t : ℕ). collects_in script t after ≡ collects_in script t mid) first.thread second.collects in
    let entries : length (own (view_of k).seen m.thread) + length mid.replies.items
    ≤ length (own (view_of n).seen m.thread) + length after.replies.items =
    subst
    (λ (t : ℕ). length (own (view_of k).seen t) + length mid.replies.items
    ≤ length (own (view_of n).seen t) + length after.replies.items) first.thread second.entries in
    let fewer : jobs_of mid ≤ jobs_of s = first.less in
    let few : jobs_of after ≤ jobs_of mid = second.less in
    record {
      thread = second.thread ∙ first.thread;
      extra = first.extra ++ second.extra;
      grows = second.grows
          ∙ (ap (λ (rs : List Reply). rs ++ second.extra) first.grows
          ∙ append_assoc s.replies.items first.extra second.extra);
      owes = owes_on every s mid after first.owes second.owes;
      due = due_on every s mid after first.due second.due;
      collects = collects ∙ first.collects;
      less = omega (arith, fewer, few);
      entries = omega (arith, first.entries, entries);
    }

-- that does not rest on readers
pub goes_with : {R : Type 0} {every : ℕ} {script : Script} {m n : Mutator R} {s after : ThreadState} (p q : Option R)
    → ThreadWentOn every script m n s after → ThreadWentOn every script (record m { reader = p }) (record n {
      reader = q;
    }) s after
goes_with p q on = record {
  thread = on.thread;
  extra = on.extra;
  grows = on.grows;
  owes = on.owes;
  due = on.due;
  collects = on.collects;
  less = on.less;
  entries = on.entries;
}
