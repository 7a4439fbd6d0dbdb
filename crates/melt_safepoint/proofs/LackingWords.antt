-- A call that was made first, and alone, lacked words: what is known after it.
use Rattle.std.proofs.Common.{◌≡◌, ℕ, ◌+◌, ◌<◌, ◌≤◌, zero, suc, true, List, length, refl, sym, ◌∙◌, ap, subst, arith}
use Rattle.std.specs.Prelude.{Bool, Some, slice_get}
use Rattle.melt_model.specs.Alive.{Held, words_of, CostsSum}
use Rattle.melt_model.specs.declared.config.Config.{Config}
use Rattle.melt_model.specs.declared.history.Entry.{Entry}
use Rattle.melt_model.specs.declared.operations.Op.{Op}
use Rattle.melt_model.specs.declared.reports.Journal.{Journal}
use Rattle.melt_model.proofs.Sums.{CostsSum-one}
use Rattle.melt_trace.specs.Script.{Script}
use Rattle.melt_core.specs.StaleBits.{BitsTold, sight}
use Rattle.melt_core.specs.Views.{View, value}
use Rattle.melt_safepoint.specs.Collections.{AllMarked, NoneForwarded}
use Rattle.melt_safepoint.specs.Journals.{IsTight, before}
use Rattle.melt_safepoint.specs.Needs.{NeedsWords}
use Rattle.melt_safepoint.specs.Passing.{NoneOwn, WaitsForRoom}
use Rattle.melt_safepoint.specs.Rows.{AwaitsCall, JustCollected, LacksBy, LacksWords, LeftBy, OnlyHeld, Row, StandsBut}
use Rattle.melt_safepoint.specs.Rows.{last_of}
use Rattle.melt_safepoint.specs.Shown.{Shown}
use Rattle.melt_safepoint.specs.Threads.{OweAfterCollects}
use Rattle.melt_safepoint.specs.declared.collector.Collector.{Collector}
use Rattle.melt_safepoint.specs.declared.thread.ThreadState.{ThreadState}
use Rattle.melt_safepoint.proofs.AtSafepoint.{safe_still}
use Rattle.melt_safepoint.proofs.Cuts.{held_words_same, needs_same}
use Rattle.melt_safepoint.proofs.Journals.{before_end}

-- after a collection that left a claim of a call no room, an object of the largest size may have none
tight_after : (config : Config) (run : Row) (words need : ℕ) → JustCollected run → words ≡ config.heap
    → words + 1 < run.view.free + need → need ≤ 126 → IsTight config (last_of run.collector)
tight_after config run words need collected is above small =
    let last : last_of run.collector ≡ Some collected.last =
    ap (λ (js : List Journal). before js (length js)) collected.journal
    ∙ before_end collected.prefix collected.last in
    let tight : config.heap < collected.last.live + 126 = omega (arith, above, small, is, collected.free) in
    subst (IsTight config) (sym last) tight

-- what the Moves that were forced tell of a call that lacked words after them
left_by : (config : Config) (forced : ℕ) (v w : View) (need : ℕ) → LeftBy forced v → (AllMarked v → AllMarked w)
    → w.log ≡ v.log → ((u r : ℕ) → value w u r ≡ value v u r) → config.heap + 1 < v.free + need
    → LacksBy config forced w need
left_by config zero v w need by marked history values above = tt
left_by config (suc zero) v w need by marked history values above = marked by
left_by config (suc (suc k)) v w need by marked history values above = λ held holds.
    let only : OnlyHeld v = by in
    let here : CostsSum (words_of v.log) (Held (value w)) held =
    subst (λ (h : List Entry). CostsSum (words_of h) (Held (value w)) held) history holds in
    let there : CostsSum (words_of v.log) (Held (value v)) held =
    held_words_same v.log (value w) (value v) held values here in
    let one : held ≡ only.words = CostsSum-one (words_of v.log) (Held (value v)) held only.words there only.holds in
    omega (arith, one, above, only.free)

-- What such a call leaves of a run: so many words end past the last one, and nothing else came of it. The operation is
-- the next one of its thread, and wants these words.
pub record LeavesLacking (told : Bool) (config : Config) (old new : Row) (t need : ℕ) : Type 0 where
  pub states : new.states ≡ old.states
  pub collector : new.collector ≡ old.collector
  pub history : new.view.log ≡ old.view.log
  pub values : (u r : ℕ) → value new.view u r ≡ value old.view u r
  pub above : config.heap + 1 < old.view.free + need
  pub small : need ≤ 126
  pub none_forwarded : NoneForwarded new.view
  pub marked : told ≡ true → AllMarked old.view → AllMarked new.view
  pub bits : told ≡ true → BitsTold (sight old.view) (sight new.view)
  pub op : Op
  pub next : (s : ThreadState) → slice_get old.states t ≡ Some s → s.op ≡ Some op
  pub needs : told ≡ true → NeedsWords old.view.log (value old.view) t op need

-- so the thread lacks them
pub lacks_words : {told : Bool} {script : Script} {config : Config} {shown : Shown} {forced : ℕ} {old new : Row}
    {t need : ℕ} → AwaitsCall told script config shown forced old t
    → StandsBut (suc forced) told script config shown new → LeavesLacking told config old new t need
    → LacksWords told script config shown forced new t need
lacks_words {told} {script} {config} {shown} {forced} {old} {new} {t} {need} awaits stands is =
    let v : View = old.view in
    let w : View = new.view in
    record {
      stands = stands;
      safe = safe_still old new stands.table.stands is.history is.states is.collector is.bits awaits.safe;
      few = awaits.few;
      owed = subst (OweAfterCollects script) (sym is.states) awaits.owed;
      own = subst NoneOwn (sym is.states) awaits.own;
      none_forwarded = is.none_forwarded;
      waits = subst (λ (xs : List ThreadState). WaitsForRoom xs t) (sym is.states) awaits.waits;
      tight = subst (λ (c : Collector). IsTight config (last_of c)) (sym is.collector)
          (tight_after config old config.heap need awaits.collected refl is.above is.small);
      op = is.op;
      next = λ x at. is.next x (ap (λ (xs : List ThreadState). slice_get xs t) (sym is.states) ∙ at);
      needs = λ tells. subst (λ (h : List Entry). NeedsWords h (value w) t is.op need) (sym is.history)
          (needs_same v.log (value v) (value w) t is.op need (λ u r. sym (is.values u r)) (is.needs tells));
      left = λ tells.
          left_by config forced v w need (awaits.left tells) (is.marked tells) is.history is.values is.above;
    }
