-- The stale bit stays tied to the history in an epoch of a run.
use Rattle.std.proofs.Common.{◌≡◌, ℕ, zero, suc, true, false, List, [], ◌∷◌, length, refl, sym, ◌∙◌, ap, subst, inl}
use Rattle.std.proofs.Common.{inr}
use Rattle.std.proofs.Math.ListN.{length-map, length-set}
use Rattle.std.proofs.Math.Path.{fun_ext}
use Rattle.std.proofs.lemmas.List.{length-replicate}
use Rattle.std.specs.Prelude.{Bool, Option, Some, slice_get, slice_set, take}
use Rattle.melt_model.specs.Standing.{Reaches}
use Rattle.melt_model.specs.Thread.{Deed, Thread, beginning, does, found, next_given, number, thread_after, value_in}
use Rattle.melt_model.specs.declared.config.Config.{Config}
use Rattle.melt_model.specs.declared.history.Act.TheVariants.{Read, Write}
use Rattle.melt_model.specs.declared.history.Entry.{Entry}
use Rattle.melt_model.specs.declared.history.Slot.TheVariants.{Cell, Field}
use Rattle.melt_model.specs.declared.history.Value.{Value}
use Rattle.melt_model.specs.declared.history.Value.TheVariants.{Nil, Num}
use Rattle.melt_model.specs.declared.operations.Op.{Op}
use Rattle.melt_model.specs.declared.operations.Op.TheVariants as op
use Rattle.melt_model.specs.declared.operations.Reply.{Reply}
use Rattle.melt_model.specs.declared.operations.Reply.TheVariants as reply
use Rattle.melt_model.proofs.Transcripts.{number_at, on_part_is, reference_at}
use Rattle.melt_trace.specs.Script.{Script, operations}
use Rattle.melt_scion.specs.Heaps.{OnDisk}
use Rattle.melt_core.specs.declared.answer.StepResult.{StepResult}
use Rattle.melt_core.specs.declared.answer.StepResult.TheVariants.{Going}
use Rattle.melt_core.specs.Advances.{AdvancesOver, AdvancesWhere, CallGoesOn, MakesEventsBy, MayMakeEvent, TellsDisk}
use Rattle.melt_core.specs.Epochs.{HasFinished}
use Rattle.melt_core.specs.StaleBits.{BitsTold, HasRegisters, TiedTo, sight}
use Rattle.melt_core.specs.Views.{IsQuiet, Standing, View, call_in, held_value, maps_of, registers_in, stage_in}
use Rattle.melt_core.proofs.Asked.{asks_over}
use Rattle.melt_core.proofs.AtOnce.{may_on}
use Rattle.melt_core.proofs.Disks.{stands_untold}
use Rattle.melt_core.proofs.NoHomes.{as_told_by}
use Rattle.melt_core.proofs.StaleBitsEvents.{event_tied}
use Rattle.melt_core.proofs.StaleBitsTying.{tied_first, tied_tells}
use Rattle.melt_safepoint.specs.Modes.{IsEnded}
use Rattle.melt_safepoint.specs.Shown.{Underlies}
use Rattle.melt_safepoint.specs.Tables.{DropsIfEnded, RepliesStand, TableStands}
use Rattle.melt_safepoint.specs.declared.thread.Mode.{Mode}
use Rattle.melt_safepoint.specs.declared.thread.ThreadState.{ThreadState}
use Rattle.melt_safepoint.proofs.Finishing.{same_word}
use Rattle.melt_safepoint.proofs.TableModes.{drop_cases}
use Rattle.melt_step.specs.Tied.{KeepsTied}

-- an event of a thread
pub event_ties : {finish : ℕ} {image : Option (List ℕ)} {v w : View} {t : ℕ} {o : Op} (result : StepResult)
    → MayMakeEvent v t o
    → ((disk : OnDisk) → disk.end ≡ finish → AdvancesWhere (TellsDisk image disk) disk v w t o result)
    → KeepsTied finish image v w t
event_ties {v} {t} {o} result may event begun disk under stands sixteen tied =
    event_tied begun result stands (asks_over v t o may disk (stands_untold true disk v stands)) sixteen
    (as_told_by (under.tells refl) (event disk under.ends)) tied

-- events of one call, each right after the one before
pub events_tie : {finish : ℕ} {image : Option (List ℕ)} (more : ℕ) {v : View} (w : View) {t : ℕ} {o : Op}
    (result : StepResult)
    → MayMakeEvent v t o → MakesEventsBy more v w t o result → KeepsTied finish image v w t
events_tie zero {v} w {t} {o} result may moves begun disk under stands sixteen tied =
    let untold : Standing false disk v = stands_untold true disk v stands in
    event_tied begun result stands (asks_over v t o may disk untold) sixteen (moves.over disk untold) tied
events_tie (suc more) {v} w {t} {o} result may moves begun disk under stands sixteen tied =
    let untold : Standing false disk v = stands_untold true disk v stands in
    let event : AdvancesOver disk v moves.0 t o Going = moves.1.over disk untold in
    let goes : CallGoesOn disk v moves.0 t o = event.outcome in
    events_tie more w result (may_on v moves.0 t o may moves.1) moves.2 begun disk under
    (event.keeps true (λ is. tt) stands) (ap length goes.own.registers ∙ sixteen)
    (event_tied begun Going stands (asks_over v t o may disk untold) sixteen event tied)

-- a thread that drops its registers if it has ended
pub drop_ties : (begun v w : View) (t : ℕ) (mode : Mode) → DropsIfEnded v w t mode → TiedTo begun v → TiedTo begun w
drop_ties begun v w t mode drops tied = elim (drop_cases v w t mode drops) [
  | inl ended ↦ subst (TiedTo begun) (sym ended.1.only) tied
  | inr goes ↦ subst (TiedTo begun) (sym goes.1) tied
]

-- as an epoch begins, with no call in flight
pub tied_begins : (v : View) → IsQuiet v → TiedTo v v
tied_begins v quiet = tied_first (sight v) (λ t. ap stage_in (quiet t))

-- and as it ends
pub bits_told : {disk : OnDisk} (v w : View) → Standing true disk v → IsQuiet w → TiedTo v w
    → BitsTold (sight v) (sight w)
bits_told v w stands quiet tied =
    tied_tells (sight v) (sight w) ((stands.holds.tells refl).one_address) (λ t. ap stage_in (quiet t)) tied

-- An operation leaves as many registers as there were,
deed_size : (h : List Entry) (rs : List Value) (o : Op) (x : Value) → length (does h rs o x).registers ≡ length rs
deed_size h rs (op.New dst refs nums) x = length-set rs dst x
deed_size h rs (op.Load dst src i) x =
    on_part_is (λ (d : Deed). length d.registers ≡ length rs) (reference_at i) h rs (value_in rs src)
    (λ (n : ℕ). record { act = Some (Read (Field n i) x); reply = found x; registers = slice_set rs dst x })
    (λ r. refl) (λ n. length-set rs dst x)
deed_size h rs (op.Store obj i src) x =
    on_part_is (λ (d : Deed). length d.registers ≡ length rs) (reference_at i) h rs (value_in rs obj)
    (λ (n : ℕ). record { act = Some (Write (Field n i) (value_in rs src)); reply = reply.Done; registers = rs })
    (λ r. refl) (λ n. refl)
deed_size h rs (op.Get src j) x =
    on_part_is (λ (d : Deed). length d.registers ≡ length rs) (number_at j) h rs (value_in rs src)
    (λ (n : ℕ). record {
      act = Some (Read (Cell n j) (Num (number x)));
      reply = reply.Num (number x);
      registers = rs;
    }) (λ r. refl) (λ n. refl)
deed_size h rs (op.Put obj j v) x =
    on_part_is (λ (d : Deed). length d.registers ≡ length rs) (number_at j) h rs (value_in rs obj)
    (λ (n : ℕ). record { act = Some (Write (Cell n j) (Num v)); reply = reply.Done; registers = rs })
    (λ r. refl) (λ n. refl)
deed_size h rs (op.GLoad dst g) x = length-set rs dst x
deed_size h rs (op.GStore g src) x = refl
deed_size h rs (op.Same a b) x = refl
deed_size h rs (op.Copy dst src) x = length-set rs dst (value_in rs src)
deed_size h rs (op.Drop r) x = length-set rs r Nil
deed_size h rs op.Collect x = refl

reached_size : (h : List Entry) (a b : Thread) (ops : List Op) (replies : List Reply) → Reaches h a ops replies b
    → length b.registers ≡ length a.registers
reached_size h a b [] [] reached = ap (λ (x : Thread). length x.registers) (sym reached)
reached_size h a b (o ∷ ops) (r ∷ replies) reached =
    reached_size h (thread_after h a o) b ops replies reached.3
    ∙ deed_size h a.registers o (next_given h a.places)
reached_size h a b [] (r ∷ replies) reached = absurd reached
reached_size h a b (o ∷ ops) [] reached = absurd reached

-- so a thread of a told run that has not ended has all its registers
pub has_registers : {told : Bool} {script : Script} {config : Config} {disk : OnDisk} {v : View}
    {states : List ThreadState} (t : ℕ) {s : ThreadState} → TableStands told script config disk v states → told ≡ true
    → slice_get states t ≡ Some s → (IsEnded s.mode → ⊥) → HasRegisters v t
has_registers {script} {v} t {s} table is at goes =
    let replies : RepliesStand script v t s = (table.each t s at).replies_stand is in
    let size : length replies.registers ≡ 16 =
    reached_size v.log (beginning v.log t) (record { registers = replies.registers; places = [] })
    (take (length s.replies.items) (operations script t)) s.replies.items replies.stands.reached ∙ length-replicate 16 Nil in
    elim replies.in_registers [
      | inl over ↦ absurd (goes over)
      | inr same ↦
          sym (length-map (registers_in v.held t) (held_value v.names)) ∙ (ap length (sym same) ∙ size)
    ]

-- what the bit is tied to is the same after the end of an epoch
pub finished_sight : (v w : View) → HasFinished v w → sight w ≡ sight v
finished_sight v w is = λ i. record {
  log = is.log i;
  maps = maps_of (is.names i);
  word = fun_ext (λ k. same_word v.space w.space k is.words) i;
  stage = λ t. stage_in (call_in (is.calls i) t);
}
