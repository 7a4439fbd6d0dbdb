-- What an event leaves for the next one, and a call for the next call.
use Rattle.std.proofs.Common.{◌≡◌, ℕ, ◌+◌, ◌≤◌, inl, inr, List, [], ◌∷◌, ◌++◌}
use Rattle.std.proofs.Common.{length, refl, sym, ◌∙◌, ap, subst, arith, length-append}
use Rattle.std.proofs.lemmas.Bool.{cases_eq}
use Rattle.std.specs.Prelude.{true, false, Option, None, Some}
use Rattle.melt_model.specs.declared.history.Entry.{Entry}
use Rattle.melt_model.specs.declared.history.Act.{Act}
use Rattle.melt_model.specs.declared.operations.Op.{Op}
use Rattle.melt_scion.specs.Heaps.{OnDisk}
use Rattle.melt_core.specs.declared.answer.Pause.TheVariants.{Asked, Space, Forward}
use Rattle.melt_core.specs.declared.answer.Refusal.{Refusal}
use Rattle.melt_core.specs.declared.answer.Refusal.TheVariants as refusal
use Rattle.melt_core.specs.declared.answer.StepResult.{StepResult}
use Rattle.melt_core.specs.declared.answer.StepResult.TheVariants.{Going, Answered, Refused}
use Rattle.melt_core.specs.declared.call.Call.{Call}
use Rattle.melt_core.specs.Answering.{entry, with_entry}
use Rattle.melt_core.specs.Advances.{AdvancesWhere, Continues, CallGoesOn, KeepsOthers, KeepsOwn, StepOutcome}
use Rattle.melt_core.specs.Stages.{events_left}
use Rattle.melt_core.specs.Views.{View, call_of, stage_in, stage_of, Standing}

pub KeepsOthers_both : (u v w : View) (t : ℕ) → KeepsOthers u v t → KeepsOthers v w t → KeepsOthers u w t
KeepsOthers_both u v w t one two = record {
  globals = two.globals ∙ one.globals;
  words = two.words ∙ one.words;
  forwards = two.forwards ∙ one.forwards;
  threads = two.threads ∙ one.threads;
  capacity = two.capacity ∙ one.capacity;
  calls = λ k differ. two.calls k differ ∙ one.calls k differ;
  records = λ k differ. two.records k differ ∙ one.records k differ;
  registers = λ k differ. two.registers k differ ∙ one.registers k differ;
  values = λ k differ. two.values k differ ∙ one.values k differ;
}

-- the call is over, and the history has at most one entry more
pub record IsOver (v w : View) (t : ℕ) : Type 0 where
  pub call : call_of w t ≡ None
  pub history : length w.log ≤ length v.log + 1

entry_longer : (t : ℕ) (log after : List Entry) (act : Option Act) → after ≡ with_entry t log act
    → length after ≤ length log + 1
entry_longer t log after None is = let same : length after ≡ length log = ap length is in omega arith
entry_longer t log after (Some act) is =
    let same : length after ≡ length (log ++ entry t act ∷ []) = ap length is in
    omega (arith, length-append log (entry t act ∷ []))

own_over : (v w : View) (t : ℕ) → call_of w t ≡ None → KeepsOwn v w t → IsOver v w t
own_over v w t over own =
    record { call = over; history = let same : length w.log ≡ length v.log = ap length own.history in omega arith }

refused_over : (tells : Type 0) (disk : OnDisk) {v : View} (w : View) (t : ℕ) (o : Op) (why : Refusal)
    → StepOutcome tells disk v w t o (Refused why) → IsOver v w t
refused_over tells disk {v} w t o (refusal.Pause Asked) is =
    subst (λ (x : View). IsOver v x t) (sym is.same) (record { call = is.first; history = omega arith })
refused_over tells disk {v} w t o (refusal.Pause (Space need)) is = own_over v w t is.call is.own
refused_over tells disk {v} w t o (refusal.Pause Forward) is = own_over v w t is.call is.own
refused_over tells disk {v} w t o refusal.DiskFault is = own_over v w t is.1.call is.1.own
refused_over tells disk {v} w t o (refusal.Damaged damaged) is = own_over v w t is.lost.call is.lost.own

-- an event that does not leave the call going ends it
pub event_over : (tells : Type 0) (disk : OnDisk) {v : View} (w : View) (t : ℕ) (o : Op) (result : StepResult)
    → (result ≡ Going → ⊥) → StepOutcome tells disk v w t o result → IsOver v w t
event_over tells disk {v} w t o Going ends is = absurd (ends refl)
event_over tells disk {v} w t o (Answered reply) ends is =
    record { call = is.call; history = entry_longer t v.log w.log is.history.0 is.history.1 }
event_over tells disk {v} w t o (Refused why) ends is = refused_over tells disk w t o why is

-- an event after which the call goes on
pub going : (tells : Type 0) (disk : OnDisk) (v w : View) (t : ℕ) (o : Op) {result : StepResult} → result ≡ Going
    → StepOutcome tells disk v w t o result → CallGoesOn disk v w t o
going tells disk v w t o is outcome = subst (StepOutcome tells disk v w t o) is outcome

pub going_continues : (disk : OnDisk) (v w : View) (t : ℕ) (o : Op) → CallGoesOn disk v w t o
    → Continues (call_of w t) o
going_continues disk v w t o is = subst (λ (c : Option Call). Continues c o) (sym is.call) refl

pub going_nearer : (disk : OnDisk) (v w : View) (t : ℕ) (o : Op) (most : ℕ) → length v.forward ≤ most
    → CallGoesOn disk v w t o → events_left most (stage_of w t) + 1 ≤ events_left most (stage_of v t)
going_nearer disk v w t o most few is =
    let at : events_left most (stage_of w t) ≡ events_left most (Some is.stage) =
    ap (λ (c : Option Call). events_left most (stage_in c)) is.call in
    omega (arith, at, is.nearer most few)

-- what an event leaves of the call, and of the history
record Leaves (v w : View) (t : ℕ) (o : Op) : Type 0 where
  pub continues : Continues (call_of w t) o
  pub history : length w.log ≤ length v.log + 1

over_leaves : (v w : View) (t : ℕ) (o : Op) → IsOver v w t → Leaves v w t o
over_leaves v w t o over =
    record { continues = subst (λ (c : Option Call). Continues c o) (sym over.call) tt; history = over.history }

leaves : (tells : Type 0) (disk : OnDisk) {v : View} (w : View) (t : ℕ) (o : Op) (result : StepResult)
    → StepOutcome tells disk v w t o result → Leaves v w t o
leaves tells disk {v} w t o Going is = record {
  continues = going_continues disk v w t o is;
  history = let same : length w.log ≡ length v.log = ap length is.own.history in omega arith;
}
leaves tells disk {v} w t o (Answered reply) is =
    over_leaves v w t o (event_over tells disk w t o (Answered reply) (λ e. absurd (cc)) is)
leaves tells disk {v} w t o (Refused why) is =
    over_leaves v w t o (event_over tells disk w t o (Refused why) (λ e. absurd (cc)) is)

-- The words stand after some events, each call in flight is of the operation, the history has at most so many entries
-- more, and all else that a call needs is as before.
pub record Onward (disk : OnDisk) (u w : View) (o : Op) (entries : ℕ) : Type 0 where
  pub stands : Standing false disk w
  pub globals : length w.globals ≡ length u.globals
  pub threads : length w.held ≡ length u.held
  pub capacity : w.capacity ≡ u.capacity
  pub continues : (t : ℕ) → Continues (call_of w t) o
  pub history : length w.log ≤ length u.log + entries

-- so it is after one event more
pub onward_event : {tells : Type 0} {disk : OnDisk} {u v w : View} {t : ℕ} {o : Op} {entries : ℕ} {result : StepResult}
    → AdvancesWhere tells disk v w t o result → Onward disk u v o entries → Onward disk u w o (entries + 1)
onward_event {tells} {disk} {v} {w} {t} {o} {result} event before =
    let left : Leaves v w t o = leaves tells disk w t o result event.outcome in
    record {
      stands = event.keeps false (λ (told : false ≡ true). absurd (cc)) before.stands;
      globals = event.others.globals ∙ before.globals;
      threads = event.others.threads ∙ before.threads;
      capacity = event.others.capacity ∙ before.capacity;
      continues = λ k. elim (cases_eq k t) [
        | inl same ↦ subst (λ (j : ℕ). Continues (call_of w j) o) (sym same) left.continues
        | inr other ↦ subst (λ (c : Option Call). Continues c o) (sym (event.others.calls k other)) (before.continues k)
      ];
      history = omega (arith, left.history, before.history);
    }
