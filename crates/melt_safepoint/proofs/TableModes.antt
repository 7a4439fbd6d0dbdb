-- What a run keeps where the mode of a thread changes, and what it knows of the stop word.
use Rattle.std.proofs.Common.{◌≡◌, ◌≢◌, ℕ, true, false, List, [], length, refl, sym, ◌∙◌, ap, subst, arith, inl, ◌⊎◌}
use Rattle.std.proofs.Common.{inr}
use Rattle.std.proofs.Math.ListN.{set, length-set}
use Rattle.std.proofs.lemmas.Bool.{cases_eq}
use Rattle.std.proofs.lemmas.List.{append-nil}
use Rattle.std.proofs.lemmas.Option.{same_Some}
use Rattle.std.specs.Prelude.{Bool, replicate, Option, None, Some, IsSome, slice_get}
use Rattle.melt_model.specs.declared.config.Config.{Config}
use Rattle.melt_model.specs.declared.history.Entry.{Entry}
use Rattle.melt_model.specs.declared.operations.Op.{Op}
use Rattle.melt_model.specs.declared.reports.ThreadEnd.{ThreadEnd}
use Rattle.melt_model.specs.declared.reports.ThreadEnd.TheVariants as end
use Rattle.melt_trace.specs.Script.{Script}
use Rattle.melt_scion.specs.Heaps.{OnDisk}
use Rattle.melt_core.specs.Views.{View, call_of, rest_of, registers_in}
use Rattle.melt_core.proofs.Registers.{registers_other}
use Rattle.melt_core.specs.Advances.{KeepsOthers}
use Rattle.melt_core.specs.Epochs.{HasDropped, no_registers}
use Rattle.melt_safepoint.specs.declared.thread.ThreadState.{ThreadState}
use Rattle.melt_safepoint.specs.declared.thread.Mode.{Mode}
use Rattle.melt_safepoint.specs.declared.thread.Mode.TheVariants.{Running, Due, Silent, Collecting, Asked, Lacking}
use Rattle.melt_safepoint.specs.declared.thread.Mode.TheVariants.{Ended}
use Rattle.melt_safepoint.specs.Threads.{with_first, left, AllWait, SomeGoesOn}
use Rattle.melt_safepoint.specs.Modes.{MayGo, IsEnded, Waits}
use Rattle.melt_safepoint.specs.Endings.{EndsSo}
use Rattle.melt_safepoint.proofs.Cuts.{replies_here}
use Rattle.melt_safepoint.proofs.Threads.{get_set_same, get_set_other}
use Rattle.melt_safepoint.proofs.Modes.{ends_gone, goes_waits}
use Rattle.melt_safepoint.specs.Tables.{ThreadStands, TableStands, KnowsStop, SetsStop, DropsIfEnded}
use Rattle.melt_safepoint.proofs.Tables.{ThreadEvent, Table_moves, mode_stands, same_moves, stands_so, told_so}

-- the stop word is of no thread
pub stop_keeps : (v : View) (stop : Bool) (t : ℕ) → KeepsOthers v (record v { stop = stop }) t
stop_keeps v stop t = record {
  globals = refl;
  words = refl;
  forwards = refl;
  threads = refl;
  capacity = refl;
  calls = λ u differ. refl;
  records = λ u differ. refl;
  registers = λ u differ. refl;
  values = λ u differ. refl;
}

-- where nothing changes, the others are as they were
pub nothing_keeps : (v : View) (t : ℕ) → KeepsOthers v v t
nothing_keeps v t = stop_keeps v v.stop t

-- a thread that has ended has dropped its registers, and else nothing has changed
pub drop_cases : (v w : View) (t : ℕ) (mode : Mode) → DropsIfEnded v w t mode → (IsEnded mode × HasDropped v w t)
    ⊎ ((IsEnded mode → ⊥) × (w ≡ v))
drop_cases v w t Running drops = inr (λ is. is, drops)
drop_cases v w t Due drops = inr (λ is. is, drops)
drop_cases v w t Silent drops = inr (λ is. is, drops)
drop_cases v w t Collecting drops = inr (λ is. is, drops)
drop_cases v w t Asked drops = inr (λ is. is, drops)
drop_cases v w t Lacking drops = inr (λ is. is, drops)
drop_cases v w t (Ended e) drops = inl (tt, drops)

-- a thread without a call in flight runs on with its next operation
pub Table_runs : {told : Bool} {script : Script} {config : Config} {disk : OnDisk} {v : View}
    {states : List ThreadState} (t : ℕ) {s : ThreadState} → TableStands told script config disk v states
    → slice_get states t ≡ Some s → (IsEnded s.mode → ⊥) → IsSome s.op → call_of v t ≡ None
    → TableStands told script config disk v (set states t (record s { mode = Running }))
Table_runs {told} {script} {config} {v} {states} t {s} table at goes op no_call =
    let runs : ThreadStands told script v t (record s { mode = Running }) =
    mode_stands v Running (table.each t s at) goes (λ over. over) refl refl op (λ again. absurd again)
    (λ c is. absurd (cc)) in
    Table_moves table at goes table.stands (nothing_keeps v t)
    (same_moves config v states s Running (λ owes. absurd (let wrong : false ≡ true = owes in cc))
    (λ over. over) refl runs)

-- a thread that has no operation left has its replies
pub ends_done : {told : Bool} {script : Script} {config : Config} {disk : OnDisk} {v : View} {states : List ThreadState}
    (t : ℕ) {s : ThreadState} → TableStands told script config disk v states → slice_get states t ≡ Some s → s.op ≡ None
    → EndsSo told script v.log states config t (Ended end.Done)
ends_done {told} {script} {v} {states} t {s} table at none =
    let st : ThreadStands told script v t s = table.each t s at in
    let nothing : left s ≡ [] = ap (λ (o : Option Op). with_first o s.cursor.operations) none ∙ st.none_left none in
    omega (arith, ap length (replies_here states t s at), st.within, ap length nothing)

-- a thread that drops its registers leaves the others as they were
pub dropped_keeps : (v w : View) (t : ℕ) → HasDropped v w t → KeepsOthers v w t
dropped_keeps v w t dropped = record {
  globals = ap (λ (x : View). length x.globals) dropped.only;
  words = ap (λ (x : View). length x.space.list) dropped.only;
  forwards = ap (λ (x : View). length x.forward) dropped.only;
  threads = ap (λ (x : View). length x.held) dropped.only ∙ length-set v.held t no_registers;
  capacity = ap (λ (x : View). x.capacity) dropped.only;
  calls = λ u differ. ap (λ (x : View). call_of x u) dropped.only;
  records = λ u differ. ap (λ (x : View). rest_of x u) dropped.only;
  registers = λ u differ. ap (λ (x : View). registers_in x.held u) dropped.only
      ∙ registers_other v.held t u (replicate 16 0) differ;
  values = dropped.others;
}

-- a thread that has ended stands, with registers that were dropped
gone_stands : {told : Bool} {script : Script} {v w : View} {t : ℕ} {s : ThreadState} (e : ThreadEnd)
    → ThreadStands told script v t s → HasDropped v w t → call_of v t ≡ None
    → ThreadStands told script w t (record s { mode = Ended e })
gone_stands {w} {t} e st dropped no_call =
    stands_so w (Ended e) st
    (λ tells. told_so w (Ended e) (st.replies_stand tells) (ap (λ (x : View). x.log) dropped.only) (inl tt))
    (λ over. dropped.here)
    (λ c is. absurd (let none : call_of w t ≡ None = ap (λ (x : View). call_of x t) dropped.only ∙ no_call in cc)) tt
    (λ again. absurd again)

-- a thread ends, and its registers are dropped
pub Table_gone : {told : Bool} {script : Script} {config : Config} {disk : OnDisk} {v w : View}
    {states : List ThreadState} {t : ℕ} {s : ThreadState} (e : ThreadEnd) → TableStands told script config disk v states
    → slice_get states t ≡ Some s → (IsEnded s.mode → ⊥) → HasDropped v w t → call_of v t ≡ None
    → EndsSo told script v.log states config t (Ended e)
    → TableStands told script config disk w (set states t (record s { mode = Ended e }))
Table_gone {told} {script} {config} {disk} {v} {w} {states} {t} {s} e table at goes dropped no_call ends =
    let after : ThreadState = record s { mode = Ended e } in
    let history : w.log ≡ v.log = ap (λ (x : View). x.log) dropped.only in
    let moves : ThreadEvent told script config v w states t s after = record {
      act = None;
      extra = [];
      grown = history;
      replies = sym (append-nil s.replies.items);
      stands = gone_stands e (table.each t s at) dropped no_call;
      due = λ owes. absurd (let wrong : false ≡ true = owes in cc);
      ends = subst (λ (h : List Entry). EndsSo told script h (set states t after) config t (Ended e)) (sym history)
          (ends_gone told script config v.log states t e at goes ends);
      entries = let same : length w.log ≡ length v.log = ap length history in omega arith;
    } in
    Table_moves table at goes (dropped.keeps told disk table.stands) (dropped_keeps v w t dropped) moves

-- some thread of the run waits
abbrev SomeWaits : List ThreadState → Type 0
SomeWaits states = (t : ℕ) × ((s : ThreadState) × (slice_get states t ≡ Some s) × Waits s.mode)

-- what is known of the stop word stays known
pub stop_known : (v w : View) (states : List ThreadState) (t : ℕ) (s after : ThreadState) → KnowsStop v states
    → slice_get states t ≡ Some s → MayGo s.mode → SetsStop v w after → KnowsStop w (set states t after)
stop_known v w states t s after known at goes sets = record {
  waits = λ u x is waits. elim (cases_eq u t) [
    | inl same ↦
        let is_after : after ≡ x =
        same_Some after x (sym (get_set_same states t s after at)
        ∙ (ap (λ (k : ℕ). slice_get (set states t after) k) (sym same) ∙ is)) in
        sets.waits (subst (λ (y : ThreadState). Waits y.mode) (sym is_after) waits)
    | inr differ ↦ sets.stays (known.waits u x (sym (get_set_other states t u after differ) ∙ is) waits)
  ];
  stop = λ is. elim (sets.stop is) [
    | inl was ↦
        let waits : SomeWaits states = known.stop was in
        let u : ℕ = waits.0 in
        let x : ThreadState = waits.1.0 in
        let differ : u ≢ t = λ same.
        let is_s : x ≡ s = same_Some x s (sym waits.1.1 ∙ (ap (λ (k : ℕ). slice_get states k) same ∙ at)) in
        goes_waits s.mode goes (subst (λ (y : ThreadState). Waits y.mode) is_s waits.1.2) in
        (u, (x, get_set_other states t u after differ ∙ waits.1.1, waits.1.2))
    | inr waits ↦ (t, (after, get_set_same states t s after at, waits))
  ];
  asked = λ u x is mode. elim (cases_eq u t) [
    | inl same ↦
        let is_after : after ≡ x =
        same_Some after x (sym (get_set_same states t s after at)
        ∙ (ap (λ (k : ℕ). slice_get (set states t after) k) (sym same) ∙ is)) in
        sets.asked (ap (λ (y : ThreadState). y.mode) is_after ∙ mode)
    | inr differ ↦ sets.stays (known.asked u x (sym (get_set_other states t u after differ) ∙ is) mode)
  ];
}

-- a thread that can not go on waits, or was refused as another does
waits_by : (v : View) (states : List ThreadState) → KnowsStop v states → (t : ℕ) (s : ThreadState) (mode : Mode)
    → slice_get states t ≡ Some s → s.mode ≡ mode → (MayGo mode → ⊥) → (IsEnded mode → ⊥) → SomeWaits states
waits_by v states known t s Running at is stays goes = absurd (stays tt)
waits_by v states known t s Due at is stays goes = absurd (stays tt)
waits_by v states known t s Silent at is stays goes = (t, (s, at, subst Waits (sym is) tt))
waits_by v states known t s Collecting at is stays goes = (t, (s, at, subst Waits (sym is) tt))
waits_by v states known t s Asked at is stays goes = known.stop (known.asked t s at is)
waits_by v states known t s Lacking at is stays goes = (t, (s, at, subst Waits (sym is) tt))
waits_by v states known t s (Ended e) at is stays goes = absurd (goes tt)

-- where no thread can go on, one waits
pub someone_waits : (v : View) (states : List ThreadState) → KnowsStop v states → AllWait states → SomeGoesOn states
    → (t : ℕ) × ((s : ThreadState) × (slice_get states t ≡ Some s) × Waits s.mode)
someone_waits v states known waits some =
    waits_by v states known some.0 some.1.0 some.1.0.mode some.1.1 refl (waits some.0 some.1.0 some.1.1) some.1.2
