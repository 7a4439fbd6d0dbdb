-- A new epoch of a run by the written order, in which all stands as before.
use Rattle.std.proofs.Common.{◌≡◌, ℕ, ◌+◌, ◌*◌, ◌-◌, ◌<◌, ◌≤◌, Bool, List, [], ◌∷◌, ◌++◌, length, zero, suc}
use Rattle.std.proofs.Common.{refl, sym, ◌∙◌, ap, subst, arith}
use Rattle.std.specs.Prelude.{Option, None, Some, IfSome}
use Rattle.melt_model.specs.declared.config.Config.{Config}
use Rattle.melt_trace.specs.Script.{Script}
use Rattle.melt_scion.specs.Heaps.{OnDisk}
use Rattle.melt_scion.specs.declared.heap.Heap.{Heap}
use Rattle.melt_core.specs.declared.machine.Rest.{Rest}
use Rattle.melt_core.specs.Epochs.{AtRest, HasFinished, NamesWithin, core_of}
use Rattle.melt_core.specs.StaleBits.{BitsTold, Sight, sight}
use Rattle.melt_core.specs.Views.{IsQuiet, Standing, View, names_in, view}
use Rattle.melt_safepoint.specs.Collections.{ShowsHeap}
use Rattle.std.proofs.Math.Nat.{min-eq_left}
use Rattle.std.proofs.lemmas.List.Elements.{All-pop}
use Rattle.std.specs.Prelude.{min, slice_index}
use Rattle.melt_model.specs.Alive.{CostsSum, Held, words_of}
use Rattle.melt_model.specs.Thread.{value_in}
use Rattle.melt_model.specs.declared.history.Entry.{Entry}
use Rattle.melt_model.specs.declared.history.Value.{Value}
use Rattle.melt_model.specs.declared.reports.Journal.{Journal}
use Rattle.melt_scion.specs.declared.heap.Names as name_table
use Rattle.melt_scion.specs.declared.registers.Registers.{Registers}
use Rattle.melt_core.specs.declared.call.Call.{Call}
use Rattle.melt_core.specs.Views.{call_in, held_values, registers_in, value, values_of}
use Rattle.melt_safepoint.specs.Collections.{MadeSoFar, NoneForwarded}
use Rattle.melt_safepoint.specs.Endings.{TiedMoments}
use Rattle.melt_safepoint.specs.Epochs.{EndsEpoch, MayRunEpoch, to_do}
use Rattle.melt_safepoint.specs.Journals.{IsJournalOf}
use Rattle.melt_safepoint.specs.Passing.{NoneOwn, WaitsForRoom}
use Rattle.melt_safepoint.specs.Rows.{AwaitsCall, CollectorStands, JustCollected, LeftBy, Row, StandsBut}
use Rattle.melt_safepoint.specs.Shown.{Shown}
use Rattle.melt_safepoint.specs.Tables.{Renewed, TableStands}
use Rattle.melt_safepoint.specs.Threads.{OweAfterCollects}
use Rattle.melt_safepoint.specs.declared.collector.Collector.{Collector}
use Rattle.melt_safepoint.specs.declared.thread.ThreadState.{ThreadState}
use Rattle.melt_safepoint.proofs.AtSafepoint.{safe_same}
use Rattle.melt_safepoint.proofs.Cuts.{held_words_same}
use Rattle.melt_safepoint.proofs.TableCounts.{counts_of}
use Rattle.melt_safepoint.proofs.Tables.{Table_renewed}
use Rattle.melt_safepoint.proofs.WordsMade.{made_same}
use Rattle.melt_safepoint.specs.Resting.{NamesHeap}
use Rattle.melt_step.proofs.Resting.{names_kept}
use Rattle.melt_step.proofs.Tied.{finished_sight}
use Rattle.melt_safepoint.proofs.Finishing.{finished_marked}

-- what a core shows that begins with a heap is that heap
pub shows_core : (heap : Heap) (rest : Rest) → NamesHeap heap (Some (names_in heap))
    → ShowsHeap heap (view (core_of heap rest))
shows_core heap rest names = record {
  space = refl;
  scions = refl;
  globals = refl;
  forward = refl;
  free = refl;
  has_maps = names.has;
}

-- the epoch has ended, and all stands as before
renewed_finish : (told : Bool) (disk : OnDisk) (v : View) (heap : Heap) (rest : Rest) → AtRest told disk heap rest
    → HasFinished v (view (core_of heap rest)) → Renewed told disk v (view (core_of heap rest))
renewed_finish told disk v heap rest at_rest finished = record {
  stands = at_rest.stands;
  quiet = at_rest.quiet;
  globals = ap length finished.globals;
  words = ap length finished.words;
  forwards = ap length finished.forward;
  threads = ap length finished.held;
  capacity = finished.capacity;
  history = finished.log;
  values = λ t.
      ap (λ (names : Option name_table.Names). held_values names (registers_in rest.held.items t)) finished.names
      ∙ ap (λ (held : List Registers). held_values v.names (registers_in held t)) finished.held;
}

-- so it is left
pub leaves_so : (told : Bool) (disk : OnDisk) (v : View) (heap : Heap) (rest : Rest) → AtRest told disk heap rest
    → HasFinished v (view (core_of heap rest)) → NamesWithin heap
    → Renewed told disk v (view (core_of heap rest)) × ShowsHeap heap (view (core_of heap rest))
leaves_so told disk v heap rest at_rest finished within = (
  renewed_finish told disk v heap rest at_rest finished,
  shows_core heap rest (names_kept heap at_rest.stands.room within),
)

-- A new epoch of a run has begun, in which all stands as before.
pub record Renews (old new : Row) : Type 0 where
  pub finished : HasFinished old.view new.view
  pub rests : (told : Bool) (disk : OnDisk) → Standing told disk old.view → Standing told disk new.view
  pub free : new.view.free ≡ new.view.space.used + 1
  pub states : new.states ≡ old.states
  pub collector : new.collector ≡ old.collector
  pub words : new.words ≡ old.words
  pub every : new.every ≡ old.every
  pub told : new.told ≡ old.told

-- no call is in flight in it
renews_quiet : {old new : Row} → Renews old new → IsQuiet old.view → IsQuiet new.view
renews_quiet {old} {new} r quiet u = ap (λ (calls : List (Option Call)). call_in calls u) r.finished.calls ∙ quiet u

-- the values in registers are those from before
renews_values : {old new : Row} → Renews old new → (t : ℕ) → values_of new.view t ≡ values_of old.view t
renews_values {old} {new} r t =
    ap (λ (names : Option name_table.Names). held_values names (registers_in new.view.held t)) r.finished.names
    ∙ ap (λ (held : List Registers). held_values old.view.names (registers_in held t)) r.finished.held

-- and all that stands for the history
renewed : {old new : Row} → Renews old new → (told : Bool) (disk : OnDisk) → Standing told disk old.view
    → IsQuiet old.view → Renewed told disk old.view new.view
renewed {old} {new} r told disk stands quiet = record {
  stands = r.rests told disk stands;
  quiet = renews_quiet r quiet;
  globals = ap length r.finished.globals;
  words = ap length r.finished.words;
  forwards = ap length r.finished.forward;
  threads = ap length r.finished.held;
  capacity = r.finished.capacity;
  history = r.finished.log;
  values = renews_values r;
}

-- the run stands on
pub renews_stands : {unpaid : ℕ} {told : Bool} {script : Script} {config : Config} {shown : Shown} {old new : Row}
    → Renews old new → StandsBut unpaid told script config shown old → StandsBut unpaid told script config shown new
renews_stands {unpaid} {told} {script} {config} {shown} {old} {new} r stands = record {
  disk = stands.disk;
  under = stands.under;
  none_free = stands.none_free;
  table = subst (TableStands told script config stands.disk new.view) (sym r.states)
      (Table_renewed stands.table (renewed r told stands.disk stands.table.stands stands.quiet));
  quiet = renews_quiet r stands.quiet;
  words = r.words ∙ stands.words;
  every = r.every ∙ stands.every;
  told_is = r.told ∙ stands.told_is;
  collector = subst (CollectorStands config shown) (sym r.collector) stands.collector;
  moments = λ is.
      subst (λ (c : Collector). TiedMoments script (sight new.view) new.states config c.journal.items) (sym r.collector)
      (subst (λ (xs : List ThreadState). TiedMoments script (sight new.view) xs config old.collector.journal.items)
      (sym r.states)
      (subst (λ (s : Sight). TiedMoments script s old.states config old.collector.journal.items)
      (sym (finished_sight old.view new.view r.finished)) (stands.moments is)));
  made = λ is.
      subst (λ (c : Collector). MadeSoFar config new.view c.journal.items) (sym r.collector)
      (made_same (config.heap * length old.collector.journal.items) old.view new.view r.finished.names r.finished.log
      (stands.made is));
  counts = counts_of script config new old.states old.collector r.states r.collector stands.counts;
}

-- no forwarding word is filled in it, where none was
pub renews_settled : {old new : Row} → Renews old new → NoneForwarded old.view → NoneForwarded new.view
renews_settled {old} {new} r none p = ap (λ (words : List ℕ). slice_index words p) r.finished.forward ∙ none p

-- the first free place is as it was, where that is within the heap
free_same : {old new : Row} {words live : ℕ} → Renews old new → length old.view.space.list ≡ words → live ≤ words
    → old.view.free ≡ live + 1 → new.view.free ≡ live + 1
free_same {old} {new} {words} {live} r size within free =
    let least : min (old.view.free - 1) (length old.view.space.list) ≡ old.view.free - 1 =
    min-eq_left (omega (arith, size, within, free)) in
    omega (arith, r.free, r.finished.used, least, free)

-- what a collection left in use is within the heap
last_within : (config : Config) (js prefix : List Journal) (last : Journal) → js ≡ prefix ++ last ∷ []
    → IsJournalOf config js → last.live ≤ config.heap
last_within config js prefix last is journal =
    (All-pop (λ (j : Journal). (j.held ≤ j.live) × (j.live ≤ config.heap)) js prefix (Some last) is journal.words).1.1

-- nothing was done since the last collection, still
renews_collected : {told : Bool} {script : Script} {config : Config} {shown : Shown} {unpaid : ℕ} {old new : Row}
    → Renews old new → StandsBut unpaid told script config shown old → JustCollected old → JustCollected new
renews_collected {told} {script} {config} {shown} {unpaid} {old} {new} r stands collected = record {
  none_forwarded = renews_settled r collected.none_forwarded;
  prefix = collected.prefix;
  last = collected.last;
  journal = ap (λ (c : Collector). c.journal.items) r.collector ∙ collected.journal;
  free = free_same r stands.table.words (last_within config old.collector.journal.items collected.prefix collected.last
      collected.journal stands.collector.journal) collected.free;
}

-- what so many forced Moves have left is left still
left_renewed : {old new : Row} (forced : ℕ) {words : ℕ} → Renews old new → length old.view.space.list ≡ words
    → ((held : ℕ) → old.view.free ≡ held + 1 → held ≤ words) → LeftBy forced old.view → LeftBy forced new.view
left_renewed {old} {new} zero {words} r size within left = tt
left_renewed {old} {new} (suc zero) {words} r size within left =
    finished_marked old.view new.view r.finished left
left_renewed {old} {new} (suc (suc k)) {words} r size within left =
    let same : (t r' : ℕ) → value old.view t r' ≡ value new.view t r' =
    λ t r'. sym (ap (λ (xs : List Value). value_in xs r') (renews_values r t)) in
    record {
      words = left.words;
      holds = subst (λ (h : List Entry). CostsSum (words_of h) (Held (value new.view)) left.words) (sym r.finished.log)
          (held_words_same old.view.log (value old.view) (value new.view) left.words same left.holds);
      free = free_same r size (within left.words left.free) left.free;
    }

-- and a thread that lacked room may make its call first
pub renews_awaits : {told : Bool} {script : Script} {config : Config} {shown : Shown} {forced : ℕ} {old new : Row}
    {t : ℕ} → Renews old new → AwaitsCall told script config shown forced old t
    → AwaitsCall told script config shown forced new t
renews_awaits {told} {script} {config} {shown} {forced} {old} {new} {t} r awaits =
    let stands : StandsBut (suc forced) told script config shown old = awaits.stands in
    let last : awaits.collected.last.live ≤ config.heap =
    last_within config old.collector.journal.items awaits.collected.prefix awaits.collected.last
    awaits.collected.journal stands.collector.journal in
    record {
      stands = renews_stands r stands;
      safe = safe_same old new (finished_sight old.view new.view r.finished) r.states r.collector awaits.safe;
      few = awaits.few;
      owed = subst (OweAfterCollects script) (sym r.states) awaits.owed;
      collected = renews_collected r stands awaits.collected;
      own = subst NoneOwn (sym r.states) awaits.own;
      waits = subst (λ (xs : List ThreadState). WaitsForRoom xs t) (sym r.states) awaits.waits;
      left = λ is. left_renewed forced r stands.table.words
          (λ held free. omega (arith, free, awaits.collected.free, last)) (awaits.left is);
    }

-- an epoch may begin, over a run that stands
pub may_stands : (told : Bool) (script : Script) (config : Config) (shown : Shown) (run : Row) (first : Option ℕ)
    → MayRunEpoch told script config shown first run → (unpaid : ℕ) × StandsBut unpaid told script config shown run
may_stands told script config shown run None may = (0, may.0)
may_stands told script config shown run (Some t) may = (suc may.0, may.1.stands)

-- no forwarding word is filled then
pub may_settled : (told : Bool) (script : Script) (config : Config) (shown : Shown) (run : Row) (first : Option ℕ)
    → MayRunEpoch told script config shown first run → NoneForwarded run.view
may_settled told script config shown run None may = may.1
may_settled told script config shown run (Some t) may = may.1.collected.none_forwarded

-- it may go on once it has begun
pub renews_may : (told : Bool) (script : Script) (config : Config) (shown : Shown) {old new : Row} (first : Option ℕ)
    → Renews old new → MayRunEpoch told script config shown first old → MayRunEpoch told script config shown first new
renews_may told script config shown {old} {new} None r may =
    (renews_stands r may.0, renews_settled r may.1, subst NoneOwn (sym r.states) may.2)
renews_may told script config shown {old} {new} (Some t) r may = (may.0, renews_awaits r may.1)

-- what was to be done before it began is what is to be done in it
first_less : (old mid new : Row) (first : Option ℕ) → mid.states ≡ old.states
    → IfSome first (λ (t : ℕ). to_do new.states < to_do mid.states)
    → IfSome first (λ (t : ℕ). to_do new.states < to_do old.states)
first_less old mid new None same less = tt
first_less old mid new (Some t) same less =
    subst (λ (xs : List ThreadState). to_do new.states < to_do xs) same less

-- what became of stale bits after it began did so before
renews_bits : {old mid : Row} (new : Row) → Renews old mid → BitsTold (sight mid.view) (sight new.view)
    → BitsTold (sight old.view) (sight new.view)
renews_bits {old} {mid} new r bits =
    subst (λ (s : Sight). BitsTold s (sight new.view)) (finished_sight old.view mid.view r.finished) bits

-- so it has ended as it did after its beginning
pub renews_ends : (shown : Shown) (old mid new : Row) (first lacks : Option ℕ) → Renews old mid
    → EndsEpoch shown first mid new lacks → EndsEpoch shown first old new lacks
renews_ends shown old mid new first None r ends = record {
  keeps = λ told script config may. ends.keeps told script config (renews_may told script config shown first r may);
  bits = λ told script config may is.
      renews_bits new r (ends.bits told script config (renews_may told script config shown first r may) is);
  rests = ends.rests;
  less = subst (λ (xs : List ThreadState). to_do new.states ≤ to_do xs) r.states ends.less;
  first_less = first_less old mid new first r.states ends.first_less;
  collector = ends.collector ∙ r.collector;
}
renews_ends shown old mid new None (Some need) r ends = absurd ends
renews_ends shown old mid new (Some t) (Some need) r ends = record {
  keeps = λ told script config forced awaits. ends.keeps told script config forced (renews_awaits r awaits);
  bits = λ told script config forced awaits is.
      renews_bits new r (ends.bits told script config forced (renews_awaits r awaits) is);
  states = ends.states ∙ r.states;
  collector = ends.collector ∙ r.collector;
}
