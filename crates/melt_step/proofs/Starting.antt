-- A run begins, over what is shown of a disk without homes.
use Rattle.std.proofs.Common.{◌≡◌, ℕ, ◌^◌, ◌<◌, ◌≤◌, zero, suc, true, false, List, [], length, take}
use Rattle.std.proofs.Common.{drop, refl, sym, ◌∙◌, ap, subst, arith, inl, inr}
use Rattle.std.proofs.lemmas.List.{length-replicate}
use Rattle.std.proofs.lemmas.List.Elements.{All-nil}
use Rattle.std.proofs.lemmas.Option.{slice_get_within}
use Rattle.std.specs.FinMap.{get-empty}
use Rattle.std.specs.Ordering.{nat_cmp}
use Rattle.std.specs.Prelude.{Bool, Option, None, Some, All, replicate}
use Rattle.melt_model.specs.History.{IsReference}
use Rattle.melt_model.specs.Standing.{Stands}
use Rattle.melt_model.specs.declared.config.Config.{Config}
use Rattle.melt_model.specs.declared.history.Entry.{Entry}
use Rattle.melt_model.specs.declared.history.Value.TheVariants.{Nil}
use Rattle.melt_model.specs.declared.operations.Op.{Op}
use Rattle.melt_model.specs.declared.operations.Reply.{Reply}
use Rattle.melt_model.specs.declared.reports.ThreadEnd.TheVariants as end
use Rattle.melt_trace.specs.Script.{Script, operations}
use Rattle.melt_scion.specs.Heaps.{no_homes_on, no_names, state_of, IsNewHeap}
use Rattle.melt_scion.specs.Names.{name_at}
use Rattle.melt_scion.specs.Placed.{Tells}
use Rattle.melt_scion.specs.declared.heap.Heap.{Heap}
use Rattle.melt_scion.specs.declared.heap.Names as name_table
use Rattle.melt_scion.specs.declared.registers.Registers.{Registers}
use Rattle.melt_scion.proofs.Starting.{NoObjects, IsEmpty, new_heap_empty, Tells_start}
use Rattle.melt_core.specs.declared.call.Call.{Call}
use Rattle.melt_core.specs.declared.machine.Rest.{Rest}
use Rattle.melt_core.specs.Views.{View, view, maps, maps_of, state, values_of, registers_in, held_values, call_of}
use Rattle.melt_core.specs.Views.{IsQuiet, Standing, history_in, names_in, room_in}
use Rattle.std.specs.Option.{is_some}
use Rattle.melt_core.specs.Epochs.{no_registers, IsNewRest, AtRest, core_of}
use Rattle.melt_core.proofs.Disks.{stands_over, stands_untold}
use Rattle.melt_core.proofs.Resting.{history_new, names_new, start_at_rest}
use Rattle.melt_core.proofs.Values.{get_or_replicate}
use Rattle.melt_safepoint.specs.declared.thread.ThreadState.{ThreadState}
use Rattle.melt_safepoint.specs.declared.thread.Mode.{Mode}
use Rattle.melt_safepoint.specs.declared.thread.Mode.TheVariants.{Running, Asked, Ended}
use Rattle.melt_safepoint.specs.Threads.{most_forwards, AreNewThreads, IsNewThread}
use Rattle.melt_safepoint.specs.Passing.{NoneOwn}
use Rattle.melt_model.specs.Config.{InRanges}
use Rattle.melt_safepoint.specs.Modes.{CallsAgain, ForCollection, owes_silent, Waits, FitsMode}
use Rattle.melt_safepoint.proofs.Shown.{bare}
use Rattle.melt_safepoint.proofs.Starting.{ends_new}
use Rattle.melt_safepoint.specs.Tables.{KnowsStop, ThreadStands, TableStands}

-- no address has a name
no_name : (words k : ℕ) → name_at (replicate words None) k ≡ None
no_name words zero = refl
no_name words (suc k) = get_or_replicate words k None

-- a new heap tells the empty history over each disk without homes
tells_new : (image : Option (List ℕ)) {named : Bool} (words globals forward : ℕ) (heap : Heap) (rest : Rest)
    → words < 2 ^ 30 → IsNewHeap words globals forward named heap
    → Tells [] (maps_of (Some (names_in heap))) (state_of heap rest.held.items (bare image))
tells_new image {named} words globals forward heap rest small new_heap =
    let clear : IsEmpty (state_of heap rest.held.items no_homes_on) =
    new_heap_empty heap rest.held.items words globals forward named small new_heap in
    let none : NoObjects (maps_of (Some (no_names words))) =
    record { address = no_name words; home = get-empty {X = ℕ} nat_cmp } in
    Tells_start (maps_of (Some (names_in heap))) (state_of heap rest.held.items (bare image))
    (subst (λ (names : name_table.Names). NoObjects (maps_of (Some names))) (sym (names_new named heap new_heap)) none)
    (record {
      small = clear.small;
      forwards = clear.forwards;
      scions = clear.scions;
      end = refl;
      homes = refl;
      free_homes = refl;
      globals = clear.globals;
    })

-- and so a new core stands over each
pub bare_stands : (told : Bool) (image : Option (List ℕ)) (config : Config) {named : Bool}
    {globals threads entries : ℕ} {heap : Heap} {rest : Rest} → config.heap < 2 ^ 30 → threads ≤ 8
    → IsNewHeap config.heap globals config.forward named heap → IsNewRest threads entries rest
    → Standing told (bare image) (view (core_of heap rest))
bare_stands told image config {named} {globals} {heap} {rest} small few new_heap new_rest =
    let v : View = view (core_of heap rest) in
    let new : AtRest true no_homes_on heap rest =
    start_at_rest true small few new_heap new_rest in
    let s : Standing true no_homes_on v = new.stands in
    let over : Standing false (bare image) v =
    stands_over no_homes_on (bare image) v refl (stands_untold true no_homes_on v s) in
    let gone : (t : ℕ) (c : Call) → call_of v t ≡ Some c → ⊥ =
    λ t c is. (let e : None ≡ Some c = sym (new.quiet t) ∙ is in cc) in
    record {
      named = s.named;
      room = s.room;
      scions_made = s.scions_made;
      few = s.few;
      each = s.each;
      buffers = s.buffers;
      rests = s.rests;
      counted = s.counted;
      first = s.first;
      bounded = s.bounded;
      holds = record {
        formed = over.holds.formed;
        no_gaps = over.holds.no_gaps;
        tells = λ is. subst (λ (h : List Entry). Tells h (maps v) (state (bare image) v))
            (sym (history_new (is_some heap.names) rest new_rest))
            (tells_new image config.heap globals config.forward heap rest small new_heap);
      };
      legal = λ is. s.legal refl;
      registers = over.registers;
      known = λ t c is. absurd (gone t c is);
      fits = s.fits;
      apart = s.apart;
      counts = λ is. s.counts refl;
    }

-- the registers of a new thread
pub registers_new : (threads t : ℕ) → t < threads → registers_in (replicate threads no_registers) t ≡ replicate 16 0
registers_new zero t below = absurd (omega arith)
registers_new (suc threads) zero below = refl
registers_new (suc threads) (suc t) below = registers_new threads t (omega arith)

-- they hold nothing
values_new : (script : Script) (entries t : ℕ) (heap : Heap) (rest : Rest)
    → IsNewRest (length script.programs) entries rest → t < length script.programs
    → values_of (view (core_of heap rest)) t ≡ replicate 16 Nil
values_new script entries t heap rest new_rest below =
    ap (held_values (Some (names_in heap))) (ap (λ (held : List Registers). registers_in held t) new_rest.held
    ∙ registers_new (length script.programs) t below)

-- a thread that was told nothing
Stands_new : (t : ℕ) (ops : List Op) → Stands [] t (take 0 ops) [] (replicate 16 Nil)
Stands_new t ops = record {
  reached = refl;
  references = λ r. let nothing : IsReference [] Nil =
      tt in subst (IsReference []) (sym (get_or_replicate 16 r Nil)) nothing;
}

-- a thread stands before its first event
Thread_new : (told : Bool) (script : Script) {entries : ℕ} (t : ℕ) {heap : Heap} {rest : Rest} {s : ThreadState}
    → AtRest true no_homes_on heap rest → IsNewRest (length script.programs) entries rest → t < length script.programs
    → IsNewThread (operations script t) script.globals s → ThreadStands told script (view (core_of heap rest)) t s
Thread_new told script {entries} t {heap} {rest} {s} at_rest new_rest below new =
    let v : View = view (core_of heap rest) in
    let ops : List Op = operations script t in
    let none : values_of v t ≡ replicate 16 Nil = values_new script entries t heap rest new_rest below in
    let nothing : Stands v.log t (take 0 ops) [] (replicate 16 Nil) =
    subst (λ (h : List Entry). Stands h t (take 0 ops) [] (replicate 16 Nil))
    (sym (history_new (is_some heap.names) rest new_rest)) (Stands_new t ops) in
    record {
      to_come = new.to_come ∙ ap (λ (rs : List Reply). drop (length rs) ops) (sym new.replies);
      within = omega (arith, ap length new.replies, ap length new.to_come);
      none_left = new.none_left;
      replies_stand = λ is. record {
        registers = replicate 16 Nil;
        stands = subst (λ (rs : List Reply). Stands v.log t (take (length rs) ops) rs (replicate 16 Nil))
            (sym new.replies) nothing;
        in_registers = inr (sym none);
      };
      dropped = λ over. none;
      call = λ c is. absurd (let quiet : call_of v t ≡ None = at_rest.quiet t in cc);
      fits = elim new.mode [
        | inl runs ↦ subst (λ (m : Mode). FitsMode m s.op) (sym runs.0) runs.1
        | inr over ↦ subst (λ (m : Mode). FitsMode m s.op) (sym over.0) tt
      ];
      looks = λ again. absurd (elim new.mode [
        | inl runs ↦ subst CallsAgain runs.0 again
        | inr over ↦ subst CallsAgain over.0 again
      ]);
      in_range = new.in_range;
      globals = new.knows;
      room = omega (arith, ap length new.replies, ap length new.to_come, new.capacity);
    }

-- there is room for all entries: it was taken, or the history is not stored
room_new : (stored : Bool) {threads asked entries : ℕ} (rest : Rest) → IsNewRest threads asked rest
    → entries ≤ 2 ^ 32 → (stored ≡ true → entries ≤ asked) → entries ≤ room_in stored rest
room_new true rest new_rest few room =
    let asked_room = new_rest.room in let enough = room refl in omega (arith, asked_room, enough)
room_new false rest new_rest few room = omega (arith, few)

-- a new heap keeps names where that was asked
pub names_asked : (named : Bool) {words globals forward : ℕ} {heap : Heap} → IsNewHeap words globals forward named heap
    → is_some heap.names ≡ named
names_asked true new_heap = ap (λ (o : Option name_table.Names). is_some o) new_heap.names
names_asked false new_heap = ap (λ (o : Option name_table.Names). is_some o) new_heap.names

-- all threads stand before their first events
pub Table_new : (told : Bool) {script : Script} (config : Config) {named : Bool} {entries asked : ℕ}
    (image : Option (List ℕ)) {heap : Heap} {rest : Rest} {states : List ThreadState} → config.heap < 2 ^ 30
    → 1 ≤ config.forward → config.forward ≤ most_forwards → length script.programs ≤ 8
    → IsNewHeap config.heap script.globals config.forward named heap → IsNewRest (length script.programs) asked rest
    → (named ≡ true → entries ≤ asked) → AreNewThreads script states entries
    → TableStands told script config (bare image) (view (core_of heap rest)) states
Table_new told {script} config {named} {entries} {asked} image {heap} {rest} {states} small least most few new_heap
    new_rest room new_states =
    let n : ℕ = length script.programs in
    let at_rest : AtRest true no_homes_on heap rest =
    start_at_rest true small few new_heap new_rest in
    let forwards : length heap.forward ≡ config.forward =
    ap length new_heap.nothing_forwarded ∙ length-replicate config.forward 0 in
    let stored : Bool = is_some heap.names in
    let kept : stored ≡ named = names_asked named new_heap in
    let history : history_in stored rest ≡ [] = history_new stored rest new_rest in
    record {
      stands = bare_stands told image config small few new_heap new_rest;
      count = new_states.count;
      threads = ap length new_rest.held ∙ length-replicate n no_registers;
      globals = ap length new_heap.globals_hold_nothing ∙ length-replicate script.globals 0;
      words = new_heap.space.size;
      forward_words = forwards;
      forwards = subst (λ (n : ℕ). n ≤ most_forwards) (sym forwards) most;
      some_forward = subst (λ (n : ℕ). 1 ≤ n) (sym forwards) least;
      each = λ t s at. Thread_new told script t at_rest new_rest
          (let below : t < length states = slice_get_within states t s at in omega (arith, new_states.count))
          (new_states.each t s at);
      own = subst (All (λ (e : Entry). e.thread < n)) (sym history) (All-nil (λ (e : Entry). e.thread < n));
      ends = λ t s at. ends_new told (history_in stored rest) config t new_states at;
      due = λ t s at owes. absurd (elim (new_states.each t s at).mode [
        | inl runs ↦ let wrong : false ≡ true = ap owes_silent (sym runs.0) ∙ owes in cc
        | inr over ↦ let wrong : false ≡ true = ap owes_silent (sym over.0) ∙ owes in cc
      ]);
      entries = omega (
        arith,
        ap length history,
        new_states.entries,
        room_new stored rest new_rest (omega (arith, new_states.few)) (λ is. room (sym kept ∙ is)),
      );
      few = omega (arith, ap length history, new_states.few);
    }

-- no thread waits
pub stop_new : (script : Script) (entries : ℕ) (heap : Heap) (rest : Rest) (states : List ThreadState)
    → AreNewThreads script states entries → KnowsStop (view (core_of heap rest)) states
stop_new script entries heap rest states new_states = record {
  waits = λ t s at waits. absurd (elim (new_states.each t s at).mode [
    | inl runs ↦ subst Waits runs.0 waits
    | inr over ↦ subst Waits over.0 waits
  ]);
  stop = λ is. absurd (let not : false ≡ true = is in cc);
  asked = λ t s at is. absurd (elim (new_states.each t s at).mode [
    | inl runs ↦ let wrong : Running ≡ Asked = sym runs.0 ∙ is in cc
    | inr over ↦ let wrong : Ended end.Done ≡ Asked = sym over.0 ∙ is in cc
  ]);
}

-- no thread waits for a collection of its own
pub own_new : (script : Script) (entries : ℕ) (states : List ThreadState) → AreNewThreads script states entries
    → NoneOwn states
own_new script entries states new_states t s at own = elim (new_states.each t s at).mode [
  | inl runs ↦ subst ForCollection runs.0 own
  | inr over ↦ subst ForCollection over.0 own
]

-- What a core shows before the first event, over a disk without homes: its threads stand, no call is in flight, and the
-- history is empty.
pub record Begins (told : Bool) (script : Script) (config : Config) (image : Option (List ℕ)) (v : View)
    (states : List ThreadState) : Type 0 where
  pub table : TableStands told script config (bare image) v states
  pub quiet : IsQuiet v
  pub history : v.log ≡ []

-- so it begins
pub begins_new : (told : Bool) {script : Script} {config : Config} {named : Bool} {entries asked globals threads : ℕ}
    (image : Option (List ℕ)) {heap : Heap} {rest : Rest} {states : List ThreadState} → InRanges config
    → globals ≡ script.globals → threads ≡ length script.programs → threads ≤ 8
    → IsNewHeap config.heap globals config.forward named heap → IsNewRest threads asked rest
    → (named ≡ true → entries ≤ asked) → AreNewThreads script states entries
    → Begins told script config image (view (core_of heap rest)) states
begins_new told {script} {config} {named} {entries} {asked} {globals} image {heap} {rest} ranges all_globals all_threads
    eight is_heap is_rest room new_states =
    let new_heap : IsNewHeap config.heap script.globals config.forward named heap =
    subst (λ (n : ℕ). IsNewHeap config.heap n config.forward named heap) all_globals is_heap in
    let new_rest : IsNewRest (length script.programs) asked rest =
    subst (λ (n : ℕ). IsNewRest n asked rest) all_threads is_rest in
    let at_rest : AtRest true no_homes_on heap rest =
    start_at_rest true (omega (arith, ranges.heap_most)) eight is_heap is_rest in
    record {
      table = Table_new told config image (omega (arith, ranges.heap_most)) ranges.forward_least ranges.forward_most
          (omega (arith, all_threads, eight)) new_heap new_rest room new_states;
      quiet = at_rest.quiet;
      history = history_new (is_some heap.names) rest is_rest;
    }
