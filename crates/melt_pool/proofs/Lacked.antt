-- The call that was made first in an epoch, and alone, lacked words: the run stands as it stood.
use Rattle.std.proofs.Common.{◌≡◌, ℕ, ◌+◌, ◌<◌, ◌≤◌, true, Bool, List, refl, sym, ◌∙◌, ap, subst}
use Rattle.std.specs.Prelude.{[], Some, slice_get}
use Rattle.melt_model.specs.History.{last, shape}
use Rattle.melt_model.specs.Alive.{Held, words_of}
use Rattle.melt_model.specs.Thread.{value_in}
use Rattle.melt_model.specs.declared.config.Config.{Config}
use Rattle.melt_model.specs.declared.history.Entry.{Entry}
use Rattle.melt_model.specs.declared.history.Slot.{Slot}
use Rattle.melt_model.specs.declared.history.Value.{Value}
use Rattle.melt_model.specs.declared.operations.Op.{Op}
use Rattle.melt_model.specs.declared.operations.Op.TheVariants as op
use Rattle.melt_trace.specs.Script.{Script}
use Rattle.melt_word.specs.declared.header.Shape.{Shape}
use Rattle.melt_word.specs.Words.{cost_of}
use Rattle.melt_record.specs.declared.head.Kind.TheVariants.{Body}
use Rattle.melt_scion.specs.GhostMaps.{named}
use Rattle.melt_scion.specs.Heaps.{OnDisk}
use Rattle.melt_scion.specs.Placed.{HeadIs}
use Rattle.melt_core.specs.Made.{HasMade}
use Rattle.melt_core.specs.StaleBits.{BitsTold, sight}
use Rattle.melt_core.specs.Views.{Standing, View, value, values_of}
use Rattle.melt_rule.specs.Shown.{base_at}
use Rattle.melt_rule.specs.declared.began.Began.{Began}
use Rattle.melt_safepoint.specs.Collections.{AllMarked, MadeSoFar, NoneForwarded}
use Rattle.melt_safepoint.specs.Endings.{TiedMoments}
use Rattle.melt_safepoint.specs.Needs.{NeedsObject, NeedsWords}
use Rattle.melt_safepoint.specs.Rows.{AwaitsCall, CollectorStands, LacksWords, Row, StandsBut}
use Rattle.melt_safepoint.specs.Shown.{Shown, Underlies}
use Rattle.melt_safepoint.specs.Tables.{Renewed, TableStands}
use Rattle.melt_safepoint.specs.declared.collector.Collector.{Collector}
use Rattle.melt_safepoint.specs.declared.thread.ThreadState.{ThreadState}
use Rattle.melt_safepoint.proofs.LackingWords.{lacks_words}
use Rattle.melt_safepoint.proofs.Staying.{one_address, tied_still}
use Rattle.melt_safepoint.proofs.TableCounts.{counts_of}
use Rattle.melt_safepoint.proofs.Tables.{Table_renewed}
use Rattle.melt_pool.specs.Epochs.{NeedsFrom, RefersTo}

-- What is so after an epoch in which nothing was done: all stands as before, over the disk as the epoch began with it,
-- where told; and no register holds an object whose home has its Body there.
pub record NothingDone (told : Bool) (b : Began) (shown : Shown) (old new : Row) : Type 0 where
  pub disk : OnDisk
  pub under : Underlies told shown.end shown.image disk
  pub none_free : disk.free_homes ≡ []
  pub renewed : Renewed told disk old.view new.view
  pub marked : told ≡ true → AllMarked old.view → AllMarked new.view
  pub bits : told ≡ true → BitsTold (sight old.view) (sight new.view)
  pub made : told ≡ true → (past : ℕ) → HasMade past old.view → HasMade past new.view
  pub nowhere : told ≡ true → (home n : ℕ) (z : Shape) → named b.maps.homes home ≡ Some n
      → HeadIs (base_at b) home (record { shape = z; kind = Body }) → Held (value new.view) n → ⊥
  pub states : new.states ≡ old.states
  pub collector : new.collector ≡ old.collector
  pub words : new.words ≡ old.words
  pub every : new.every ≡ old.every
  pub told_same : new.told ≡ old.told

-- the values in registers are those of before
same_values : (v w : View) → ((t : ℕ) → values_of w t ≡ values_of v t) → (u r : ℕ) → value w u r ≡ value v u r
same_values v w same u r = ap (λ (xs : List Value). value_in xs r) (same u)

-- so the run stands
pub nothing_stands : {unpaid : ℕ} {told : Bool} {script : Script} {config : Config} {b : Began} {shown : Shown}
    {old new : Row} → StandsBut unpaid told script config shown old → NothingDone told b shown old new
    → StandsBut unpaid told script config shown new
nothing_stands {unpaid} {told} {script} {config} {shown} {old} {new} stands done = record {
  disk = done.disk;
  under = done.under;
  none_free = done.none_free;
  table = subst (TableStands told script config done.disk new.view) (sym done.states)
      (Table_renewed stands.table done.renewed);
  quiet = done.renewed.quiet;
  words = done.words ∙ stands.words;
  every = done.every ∙ stands.every;
  told_is = done.told_same ∙ stands.told_is;
  collector = subst (CollectorStands config shown) (sym done.collector) stands.collector;
  moments = λ tells.
      subst (λ (c : Collector). TiedMoments script (sight new.view) new.states config c.journal.items) (sym done.collector)
      (subst (λ (xs : List ThreadState). TiedMoments script (sight new.view) xs config old.collector.journal.items)
      (sym done.states)
      (tied_still done.renewed.history
      (one_address (subst (λ (b : Bool). Standing b done.disk new.view) tells done.renewed.stands)) (done.bits tells)
      (stands.moments tells)));
  made = λ tells. subst (λ (c : Collector). MadeSoFar config new.view c.journal.items) (sym done.collector)
      (done.made tells _ (stands.made tells));
  counts = counts_of script config new old.states old.collector done.states done.collector stands.counts;
}

-- an object to which the slot referred, and whose home has its Body, is what the call wanted words for
refers_needs : (b : Began) (h : List Entry) (held : ℕ → ℕ → Value) (slot : Slot) (need : ℕ) → b.history ≡ h
    → ((home n : ℕ) (z : Shape) → named b.maps.homes home ≡ Some n
    → HeadIs (base_at b) home (record { shape = z; kind = Body }) → Held held n → ⊥)
    → RefersTo b slot need → NeedsObject h held slot need
refers_needs b h held slot need same nowhere refers = record {
  number = refers.object;
  refers = ap (λ (g : List Entry). last g slot) (sym same) ∙ refers.refers;
  not_held = nowhere refers.home refers.object refers.z refers.homed refers.body;
  words = refers.words ∙ cost_words refers.z ∙ sym (words_are h refers.object refers.z
      (ap (λ (g : List Entry). shape g refers.object) (sym same) ∙ refers.shaped));
}
  where
    cost_words : (z : Shape) → cost_of z ≡ 2 + z.refs + z.nums
    cost_words z = refl

    words_are : (g : List Entry) (n : ℕ) (z : Shape) → shape g n ≡ Some (record { refs = z.refs; nums = z.nums })
        → words_of g n ≡ 2 + z.refs + z.nums
    words_are g n z is = rw is refl

-- and so whatever the operation is
pub from_needs : (b : Began) (v : View) (t : ℕ) (o : Op) (need : ℕ) → b.history ≡ v.log
    → ((home n : ℕ) (z : Shape) → named b.maps.homes home ≡ Some n
    → HeadIs (base_at b) home (record { shape = z; kind = Body }) → Held (value v) n → ⊥)
    → NeedsFrom b (values_of v t) o need → NeedsWords v.log (value v) t o need
from_needs b v t (op.New dst refs nums) need same nowhere is = is
from_needs b v t (op.Load dst src i) need same nowhere is =
    (is.0, is.1, refers_needs b v.log (value v) _ need same nowhere is.2)
from_needs b v t (op.GLoad dst g) need same nowhere is = refers_needs b v.log (value v) _ need same nowhere is
from_needs b v t (op.Store obj i src) need same nowhere is = absurd is
from_needs b v t (op.Get src j) need same nowhere is = absurd is
from_needs b v t (op.Put obj j x) need same nowhere is = absurd is
from_needs b v t (op.GStore g src) need same nowhere is = absurd is
from_needs b v t (op.Same a c) need same nowhere is = absurd is
from_needs b v t (op.Copy dst src) need same nowhere is = absurd is
from_needs b v t (op.Drop r) need same nowhere is = absurd is
from_needs b v t op.Collect need same nowhere is = absurd is

-- the thread lacks these words
pub lacked_from : {told : Bool} {script : Script} {config : Config} {forced : ℕ} {b : Began} {shown : Shown}
    {old new : Row} {t : ℕ} (need : ℕ) → AwaitsCall told script config shown forced old t
    → (done : NothingDone told b shown old new) → b.history ≡ old.view.log → config.heap + 1 < old.view.free + need
    → need ≤ 126 → NoneForwarded new.view → (o : Op)
    → ((s : ThreadState) → slice_get old.states t ≡ Some s → s.op ≡ Some o)
    → (told ≡ true → NeedsFrom b (values_of old.view t) o need) → LacksWords told script config shown forced new t need
lacked_from {told} {script} {config} {forced} {b} {old} {new} {t} need awaits done same above small none o next needs =
    let v : View = old.view in
    let w : View = new.view in
    let values : (u r : ℕ) → value w u r ≡ value v u r = same_values v w done.renewed.values in
    lacks_words awaits (nothing_stands awaits.stands done) (record {
      states = done.states;
      collector = done.collector;
      history = done.renewed.history;
      values = values;
      above = above;
      small = small;
      none_forwarded = none;
      marked = done.marked;
      bits = done.bits;
      op = o;
      next = next;
      needs = λ tells. from_needs b v t o need same
          (λ home n z homed body holds. done.nowhere tells home n z homed body (record {
            thread = holds.thread;
            register = holds.register;
            holds = values holds.thread holds.register ∙ holds.holds;
          })) (needs tells);
    })
