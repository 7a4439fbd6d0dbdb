-- A run of real threads before its first epoch: a new heap without names, registers that hold nothing, and no history.
use Rattle.std.proofs.Common.{◌≡◌, ℕ, zero, suc, ◌<◌, ◌≤◌, true, false, List, [], length, take, drop, refl}
use Rattle.std.proofs.Common.{sym, ◌∙◌, ap, subst, arith, inl, inr}
use Rattle.std.proofs.lemmas.List.{length-replicate}
use Rattle.std.proofs.lemmas.List.Elements.{All-nil}
use Rattle.std.proofs.lemmas.Option.{slice_get_within}
use Rattle.std.specs.Option.{is_some}
use Rattle.std.specs.Prelude.{Bool, Option, None, Some, IsSome, replicate, slice_get, slice_index}
use Rattle.melt_model.specs.Config.{InRanges}
use Rattle.melt_model.specs.History.{IsReference}
use Rattle.melt_model.specs.Standing.{Stands}
use Rattle.melt_model.specs.declared.config.Config.{Config}
use Rattle.melt_model.specs.declared.history.Entry.{Entry}
use Rattle.melt_model.specs.declared.history.Value.TheVariants.{Nil}
use Rattle.melt_model.specs.declared.operations.Op.{Op}
use Rattle.melt_model.specs.declared.operations.Reply.{Reply}
use Rattle.melt_model.specs.declared.reports.Phase.TheVariants.{Inactive}
use Rattle.melt_trace.specs.Script.{Script, operations}
use Rattle.melt_scion.specs.GhostMaps.{NamePairs, named}
use Rattle.melt_scion.specs.Heaps.{IsNewHeap}
use Rattle.melt_scion.specs.declared.heap.Heap.{Heap}
use Rattle.melt_scion.specs.declared.registers.Registers.{Registers}
use Rattle.melt_scion.proofs.Starting.{nothing_at}
use Rattle.melt_core.specs.Epochs.{no_registers}
use Rattle.melt_core.specs.Views.{IsQuiet, View, call_of, held_values, names_for, registers_in, values_of}
use Rattle.melt_core.proofs.Values.{get_or_replicate}
use Rattle.melt_epoch.specs.declared.mutator.Mutator.{Mutator}
use Rattle.melt_safepoint.specs.Collections.{NoneForwarded}
use Rattle.melt_safepoint.specs.Modes.{CallsAgain, FitsMode, ForCollection, owes_silent}
use Rattle.melt_safepoint.specs.Passing.{NoneOwn}
use Rattle.melt_safepoint.specs.Rows.{Row, RunStands}
use Rattle.melt_safepoint.specs.Shown.{Shown}
use Rattle.melt_safepoint.specs.Tables.{TableStands, ThreadStands}
use Rattle.melt_safepoint.specs.Threads.{AreNewThreads, IsNewThread}
use Rattle.melt_safepoint.specs.declared.thread.Mode.{Mode}
use Rattle.melt_safepoint.specs.declared.thread.ThreadState.{ThreadState}
use Rattle.melt_safepoint.proofs.Closing.{Run_new}
use Rattle.melt_safepoint.proofs.Shown.{bare}
use Rattle.melt_safepoint.proofs.Starting.{ends_new}
use Rattle.melt_pool.specs.Parts.{AreAway, IsNameless, parts_view}
use Rattle.melt_pool.proofs.NewStanding.{new_quiet, new_standing}

-- a new heap that keeps no names is small enough for the words of an epoch
pub new_nameless : (config : Config) (globals : ℕ) (heap : Heap) → InRanges config → globals ≤ 64
    → IsNewHeap config.heap globals config.forward false heap → IsNameless heap
new_nameless config globals heap ranges few new =
    let none : (a : ℕ) → named heap.maps.addresses a ≡ None =
    λ a. ap (λ (m : NamePairs). named m.addresses a) new.maps in
    let words : length heap.space.list ≡ config.heap = new.space.size in
    let cells : length heap.globals ≡ globals = ap length new.globals_hold_nothing ∙ length-replicate globals 0 in
    let forwards : length heap.forward ≡ config.forward =
    ap length new.nothing_forwarded ∙ length-replicate config.forward 0 in
    record {
      nameless = ap is_some new.names;
      within = λ a n is. absurd (let e : None ≡ Some n = sym (none a) ∙ is in cc);
      some_forward = omega (arith, forwards, ranges.forward_least);
      few_globals = omega (arith, cells, few);
      few_words = omega (arith, words, cells, forwards, few, ranges.forward_most, ranges.heap_most);
    }

-- a mutator of a thread before its first epoch: it takes part in none, has no reader, and holds nothing
abbrev pub IsNewMutator : {R : Type 0} → ℕ → Mutator R → Type 0
IsNewMutator t m = (m.thread ≡ t) × (m.seat ≡ None) × (m.reader ≡ None) × (m.values ≡ replicate 16 Nil)

-- the registers of a new thread
registers_new : (threads t : ℕ) → t < threads → registers_in (replicate threads no_registers) t ≡ replicate 16 0
registers_new zero t below = absurd (omega (arith, below))
registers_new (suc threads) zero below = refl
registers_new (suc threads) (suc t) below = registers_new threads t (omega (arith, below))

-- they hold nothing
pub new_values : (threads t : ℕ) (heap : Heap) (registers : List Registers)
    → registers ≡ replicate threads no_registers → t < threads
    → values_of (parts_view heap [] registers) t ≡ replicate 16 Nil
new_values threads t heap registers held below =
    ap (held_values (Some (names_for (length heap.space.list) heap.maps)))
    (ap (λ (rs : List Registers). registers_in rs t) held ∙ registers_new threads t below)

-- new mutators are away
pub new_away : {R : Type 0} (threads : ℕ) (heap : Heap) (registers : List Registers) (ms : List (Mutator R))
    → threads ≤ 8 → registers ≡ replicate threads no_registers → length ms ≡ threads
    → ((t : ℕ) (m : Mutator R) → slice_get ms t ≡ Some m → IsNewMutator t m)
    → AreAway (parts_view heap [] registers) registers ms
new_away threads heap registers ms few held count each = record {
  count = count ∙ sym (ap length held ∙ length-replicate threads no_registers);
  few = omega (arith, count, few);
  each = λ t m at.
      let new = each t m at in
      let below : t < length ms = slice_get_within ms t m at in record {
        thread = new.0;
        no_seat = ap is_some new.1;
        no_reader = ap is_some new.2;
        size = ap length new.3;
        values = new.3 ∙ sym (new_values threads t heap registers held (omega (arith, below, count)));
      };
}

-- a thread that was told nothing
Stands_new : (t : ℕ) (ops : List Op) → Stands [] t (take 0 ops) [] (replicate 16 Nil)
Stands_new t ops = record {
  reached = refl;
  references = λ r. let nothing : IsReference [] Nil =
      tt in subst (IsReference []) (sym (get_or_replicate 16 r Nil)) nothing;
}

-- a thread stands before its first event
new_thread : (told : Bool) (script : Script) (threads t : ℕ) (heap : Heap) {registers : List Registers}
    {s : ThreadState} → registers ≡ replicate threads no_registers → t < threads
    → IsNewThread (operations script t) script.globals s → ThreadStands told script (parts_view heap [] registers) t s
new_thread told script threads t heap {registers} {s} held below new =
    let v : View = parts_view heap [] registers in
    let ops : List Op = operations script t in
    let none : values_of v t ≡ replicate 16 Nil = new_values threads t heap registers held below in
    record {
      to_come = new.to_come ∙ ap (λ (rs : List Reply). drop (length rs) ops) (sym new.replies);
      within = omega (arith, ap length new.replies, ap length new.to_come);
      none_left = new.none_left;
      replies_stand = λ is. record {
        registers = replicate 16 Nil;
        stands = subst (λ (rs : List Reply). Stands [] t (take (length rs) ops) rs (replicate 16 Nil))
            (sym new.replies) (Stands_new t ops);
        in_registers = inr (sym none);
      };
      dropped = λ over. none;
      call = λ c is. absurd (let quiet : call_of v t ≡ None = new_quiet heap registers t in cc);
      fits = elim new.mode [
        | inl runs ↦ subst (λ (m : Mode). FitsMode m s.op) (sym runs.0) runs.1
        | inr over ↦ subst (λ (m : Mode). FitsMode m s.op) (sym over.0) tt
      ];
      looks = λ again. absurd (elim new.mode [
        | inl runs ↦ subst CallsAgain runs.0 again
        | inr over ↦ subst CallsAgain over.0 again
      ]);
      in_range = new.in_range;
      globals = new.knows;
      room = omega (arith, ap length new.replies, ap length new.to_come, new.capacity);
    }

-- all threads stand before their first events
pub new_table : (told : Bool) {script : Script} {config : Config} {entries : ℕ} (image : Option (List ℕ)) {heap : Heap}
    {registers : List Registers} {states : List ThreadState} → InRanges config → length script.programs ≤ 8
    → IsNewHeap config.heap script.globals config.forward false heap
    → registers ≡ replicate (length script.programs) no_registers → AreNewThreads script states entries
    → TableStands told script config (bare image) (parts_view heap [] registers) states
new_table told {script} {config} {entries} image {heap} {states} ranges few new held new_states =
    let n : ℕ = length script.programs in
    let forwards : length heap.forward ≡ config.forward =
    ap length new.nothing_forwarded ∙ length-replicate config.forward 0 in
    record {
      stands = new_standing told image n (omega (arith, ranges.heap_most)) few new held;
      count = new_states.count;
      threads = ap length held ∙ length-replicate n no_registers;
      globals = ap length new.globals_hold_nothing ∙ length-replicate script.globals 0;
      words = new.space.size;
      forward_words = forwards;
      forwards = omega (arith, forwards, ranges.forward_most);
      some_forward = omega (arith, forwards, ranges.forward_least);
      each = λ t s at. new_thread told script n t heap held
          (let below : t < length states = slice_get_within states t s at in omega (arith, below, new_states.count))
          (new_states.each t s at);
      own = All-nil (λ (e : Entry). e.thread < n);
      due = λ t s at owes. absurd (elim (new_states.each t s at).mode [
        | inl runs ↦ let wrong : false ≡ true = ap owes_silent (sym runs.0) ∙ owes in cc
        | inr over ↦ let wrong : false ≡ true = ap owes_silent (sym over.0) ∙ owes in cc
      ]);
      ends = λ t s at. ends_new told [] config t new_states at;
      entries = omega (arith, new_states.few);
      few = omega (arith, new_states.few);
    }

-- a run stands before its first epoch
pub new_run_stands : {told : Bool} {script : Script} {config : Config} (shown : Shown) {entries : ℕ} {heap : Heap}
    {registers : List Registers} (run : Row) → InRanges config → length script.programs ≤ 8 → shown.end ≡ 1
    → shown.limit ≡ config.disk → (told ≡ true → IsSome shown.image)
    → IsNewHeap config.heap script.globals config.forward false heap
    → registers ≡ replicate (length script.programs) no_registers → AreNewThreads script run.states entries
    → run.view ≡ parts_view heap [] registers → run.words ≡ config.heap → run.every ≡ config.every → run.told ≡ told
    → run.collector.journal.items ≡ []
    → run.collector.plan ≡ record { next = Inactive; mark = config.mark; move_ = config.move_ }
    → RunStands told script config shown run
new_run_stands {told} {script} {config} shown {entries} {heap} {registers} run ranges few ends limits some new held
    new_states sees words every told_is none plan =
    Run_new told script config shown entries run ranges ends limits some
    (subst (λ (v : View). TableStands told script config (bare shown.image) v run.states) (sym sees)
    (new_table told shown.image ranges few new held new_states))
    (subst IsQuiet (sym sees) (new_quiet heap registers)) (ap (λ (v : View). v.log) sees) new_states words every told_is
    none plan

-- no forwarding word is filled
pub new_none_forwarded : (words globals forward : ℕ) (heap : Heap) (registers : List Registers)
    → IsNewHeap words globals forward false heap → NoneForwarded (parts_view heap [] registers)
new_none_forwarded words globals forward heap registers new p =
    ap (λ (xs : List ℕ). slice_index xs p) new.nothing_forwarded ∙ nothing_at forward p

-- no thread waits for a collection of its own
pub new_none_own : (script : Script) (entries : ℕ) (states : List ThreadState) → AreNewThreads script states entries
    → NoneOwn states
new_none_own script entries states new_states t s at waits = elim (new_states.each t s at).mode [
  | inl runs ↦ subst ForCollection runs.0 waits
  | inr over ↦ subst ForCollection over.0 waits
]
