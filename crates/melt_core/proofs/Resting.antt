-- How a core begins and ends: between two epochs no call is in flight, and no region is owned.
use Rattle.std.proofs.Common.{◌≡◌, ℕ, zero, suc, ◌+◌, ◌-◌, ◌^◌, ◌<◌, ◌≤◌, inl, inr}
use Rattle.std.proofs.Common.{List, [], ◌∷◌, length, get_or, refl, sym, ◌∙◌, ap, subst, arith}
use Rattle.std.proofs.Math.ListN.{set, length-set}
use Rattle.std.proofs.lemmas.Bool.{cases_eq}
use Rattle.std.proofs.lemmas.List.{length-replicate}
use Rattle.std.proofs.lemmas.List.Sums.{sum-map, sum_by-cons}
use Rattle.std.specs.Prelude.{◌/◌, Bool, true, false, Option, None, Some}
use Rattle.std.specs.Prelude.{replicate, unwrap_or, slice_set, slice_index, min}
use Rattle.melt_model.specs.Alive.{words_of}
use Rattle.melt_model.proofs.Sums.{CostsSum-empty}
use Rattle.melt_space.specs.Space.{SpaceWords, word_at}
use Rattle.melt_scion.specs.State.{State}
use Rattle.melt_scion.specs.Placed.{Maps, MayHold, FormedWords, Holds}
use Rattle.std.specs.FinMap.{get-empty}
use Rattle.std.specs.Option.{is_some}
use Rattle.std.specs.Ordering.{nat_cmp}
use Rattle.melt_scion.specs.Scions.{empty_table}
use Rattle.melt_scion.specs.Heaps.{AreScionsFor, OnDisk, no_homes_on, register_in, no_names, IsNewHeap}
use Rattle.melt_scion.specs.Names.{name_at}
use Rattle.melt_scion.specs.GhostMaps.{no_pairs}
use Rattle.melt_scion.specs.declared.heap.Heap.{Heap}
use Rattle.melt_scion.specs.declared.heap.Names as name_table
use Rattle.melt_scion.proofs.Tables.{scions_made}
use Rattle.melt_core.specs.declared.call.Call.{Call}
use Rattle.melt_core.specs.declared.machine.Rest.{Rest}
use Rattle.melt_core.specs.declared.call.Stage.{Stage}
use Rattle.melt_core.specs.Known.{Known, region_of}
use Rattle.melt_core.specs.Events.{Event, quiet}
use Rattle.melt_scion.specs.Regions.{no_region}
use Rattle.melt_core.proofs.Evolving.{evolves_event}
use Rattle.melt_core.proofs.Owning.{regions_event}
use Rattle.melt_core.proofs.Staying.{known_stays}
use Rattle.melt_core.proofs.Regions.{no_region_apart}
use Rattle.melt_core.specs.Stages.{Fits}
use Rattle.melt_core.specs.Epochs.{no_registers, IsNewRest, core_of, AtRest, HasDropped}
use Rattle.melt_core.specs.Views.{View, InUse, view, maps, state, call_of, rest_of, max_rest, names_in, names_for}
use Rattle.melt_core.specs.Views.{history_in, room_in}
use Rattle.melt_core.specs.Views.{held_values, claimed_in, claimed, Standing, IsQuiet}
use Rattle.melt_core.specs.Changed.{stopped}
use Rattle.melt_core.proofs.Claims.{bounded_stop}
use Rattle.melt_core.proofs.Nameless.{names_none}
use Rattle.melt_core.proofs.Values.{get_or_replicate}
use Rattle.melt_core.proofs.Words.{same_after}
use Rattle.melt_core.proofs.Registers.{registers_set, registers_other}
use Rattle.melt_scion.specs.Changes.{FreeMoves, SameWords}
use Rattle.melt_scion.proofs.Staying.{free_shifts}
use Rattle.melt_scion.proofs.Following.{same_history}
use Rattle.melt_scion.proofs.Starting.{NoObjects, IsEmpty, nothing_at, no_scion_in}
use Rattle.melt_scion.proofs.Starting.{FormedWords_start, NoGaps_start, Tells_start}
use Rattle.melt_core.proofs.Holding.{holds_same}
use Rattle.melt_core.proofs.Making.{hold_words}
use Rattle.melt_model.specs.declared.history.Entry.{Entry}

-- where no call is in flight, no region is owned
claimed_none : (calls : List (Option Call)) → ((t : ℕ) → get_or calls t None ≡ None) → claimed calls ≡ 0
claimed_none [] still = refl
claimed_none (c ∷ calls) still =
    let here : claimed_in c ≡ 0 = ap claimed_in (still 0) in
    let others : claimed calls ≡ 0 = claimed_none calls (λ t. still (suc t)) in
    omega (arith, sum-map claimed_in calls, sum-map claimed_in (c ∷ calls), sum_by-cons claimed_in c calls)

-- a word is the same where the words are
same_word : (space after : SpaceWords) (k : ℕ) → after.list ≡ space.list → word_at after k ≡ word_at space k
same_word space after zero same = refl
same_word space after (suc k) same = ap (λ (words : List ℕ). get_or words k 0) same

-- all holds as before where only the first free place is another, before which all ends that ended before the old one,
-- and within the words
pub holds_shifts : (told : Bool) (h : List Entry) (m : Maps) (s t : State) → FreeMoves s t t.free
    → ((end : ℕ) → end ≤ s.free → end ≤ s.base.size + 1 → end ≤ t.free) → Holds told h m s → Holds told h m t
holds_shifts told h m s t moves ends holds =
    holds_same told h h m s t (free_shifts m s t moves ends) (same_history h) holds

-- The epoch ends, and the words in use are those up to here. Whatever ended before the first free place, and within
-- the words, is among them.
pub stands_finish : (disk : OnDisk) (told : Bool) (v : View) (space : SpaceWords) → Standing told disk v → IsQuiet v
    → space.list ≡ v.space.list → space.used ≡ min (v.free - 1) (length v.space.list)
    → Standing told disk (record v { space = space; free = space.used + 1; stop = false })
stands_finish disk told v space s still words used =
    let w : View = record v { space = space; free = space.used + 1; stop = false } in
    let size : length space.list ≡ length v.space.list = ap length words in
    let first : 1 ≤ v.free = s.first in
    let ends : (end : ℕ) → end ≤ v.free → end ≤ length v.space.list + 1 → end ≤ space.used + 1 =
    λ end below within. omega (arith, used, below, within, first) in
    let base : (state disk w).base ≡ (state disk v).base = ap (λ (n : ℕ). record (state disk v).base { size = n }) size
    in
    let word : (k : ℕ) → (state disk w).word k ≡ (state disk v).word k = λ k. same_word v.space space k words in
    let unclaimed : claimed v.calls ≡ 0 = claimed_none v.calls still in
    let gone : (t : ℕ) (c : Call) → call_of w t ≡ Some c → ⊥ =
    λ t c is. (let none : call_of v t ≡ None = still t in let e : None ≡ Some c = sym none ∙ is in cc) in
    record {
      named = s.named;
      room = s.room ∙ sym size;
      scions_made = subst (λ (n : ℕ). AreScionsFor n v.scions) (sym size) s.scions_made;
      few = s.few;
      each = s.each;
      buffers = s.buffers;
      rests = s.rests;
      counted = s.counted;
      first = omega arith;
      bounded = inl (omega (arith, used, size));
      holds = holds_shifts told v.log (maps v) (state disk v) (state disk w)
          (record { base = base; is = refl; word = word; global = λ g. refl; forward = λ p. refl }) ends s.holds;
      legal = s.legal;
      registers = λ t r. hold_words (maps v) (state disk v) (state disk w) (register_in v.held t r) word
          (s.registers t r);
      known = λ t c is. absurd (gone t c is);
      fits = λ t c is. absurd (gone t c is);
      apart = λ t u c d other is at. absurd (gone t c is);
      counts = λ is. let c = s.counts is in record {
        in_use = c.in_use;
        adds_up = c.adds_up;
        below = let before : c.in_use + 1 ≤ space.used + 1 =
            ends (c.in_use + 1) (let b = c.below in omega arith) (let i = c.within in omega arith) in omega arith;
        within = let i = c.within in omega (arith, i, size, unclaimed);
      };
    }

-- what is known of a call stays where only registers change
known_words : (told : Bool) (m : Maps) (s t : State) (rest : List ℕ) (stage : Stage) → SameWords s t → FormedWords m s
    → Known told m s rest stage → Known told m t rest stage
known_words told m s t rest stage same formed known =
    let event : Event false [] m m s t no_region 0 None = quiet refl same in
    known_stays m m s t 0 formed (evolves_event false [] m m s t no_region 0 None formed event) told rest stage
    (λ owns. regions_event false [] m m s t no_region 0 None formed event (region_of stage) owns
    (no_region_apart (region_of stage))) known

-- a thread without a call holds nothing now
pub dropped : (v : View) (t : ℕ) → t < length v.held → call_of v t ≡ None
    → HasDropped v (record v { held = slice_set v.held t no_registers }) t
dropped v t within none = record {
  keeps = λ told disk s. stands_dropped told disk v t within none s;
  only = refl;
  here = ap (held_values v.names) (registers_set v.held t (replicate 16 0) within);
  others = λ u other. ap (held_values v.names) (registers_other v.held t u (replicate 16 0) other);
}
  where
    stands_dropped : (told : Bool) (disk : OnDisk) (v : View) (t : ℕ) → t < length v.held → call_of v t ≡ None
        → Standing told disk v
        → Standing told disk (record v { held = slice_set v.held t no_registers })
    stands_dropped told disk v t within none s =
        let w : View = record v { held = slice_set v.held t no_registers } in
        let size : length w.held ≡ length v.held = length-set v.held t no_registers in
        record {
          named = s.named;
          room = s.room;
          scions_made = s.scions_made;
          few = omega (arith, s.few, size);
          each = s.each ∙ sym size;
          buffers = s.buffers ∙ sym size;
          rests = λ u below. s.rests u (subst (λ (n : ℕ). u < n) size below);
          counted = s.counted;
          first = s.first;
          bounded = s.bounded;
          holds = holds_shifts told v.log (maps v) (state disk v) (state disk w)
              (record { base = refl; is = refl; word = λ k. refl; global = λ g. refl; forward = λ p. refl })
              (λ end below inside. below) s.holds;
          legal = s.legal;
          registers = λ u r. hold_words (maps v) (state disk v) (state disk w) (register_in w.held u r) (λ k. refl)
              (elim (cases_eq u t) [
                | inl same ↦ inl (ap (λ (k : ℕ). register_in w.held k r) same
                    ∙ (ap (λ (regs : List ℕ). get_or regs r 0) (registers_set v.held t (replicate 16 0) within)
                    ∙ get_or_replicate 16 r 0))
                | inr other ↦ subst (λ (regs : List ℕ). MayHold (maps v) (state disk v) (get_or regs r 0))
                    (sym (registers_other v.held t u (replicate 16 0) other)) (s.registers u r)
              ]);
          known = λ u c is. known_words told (maps v) (state disk v) (state disk w) (rest_of v u) c.stage
              (same_after disk v w.held) s.holds.formed (s.known u c is);
          fits = λ u c is. elim (cases_eq u t) [
            | inl same ↦ absurd (let e : None ≡ Some c = sym none ∙ (ap (call_of v) (sym same) ∙ is) in cc)
            | inr other ↦ subst (λ (regs : List ℕ). Fits (slice_index regs) c.op c.stage)
                (sym (registers_other v.held t u (replicate 16 0) other)) (s.fits u c is)
          ];
          apart = s.apart;
          counts = λ is. let c = s.counts is in
              record { in_use = c.in_use; adds_up = c.adds_up; below = c.below; within = c.within };
        }

-- the stop word was set
pub stands_stopped : (disk : OnDisk) (told : Bool) (v : View) → Standing told disk v → Standing told disk (stopped v)
stands_stopped disk told v s = record {
  named = s.named;
  room = s.room;
  scions_made = s.scions_made;
  few = s.few;
  each = s.each;
  buffers = s.buffers;
  rests = s.rests;
  counted = s.counted;
  first = s.first;
  bounded = bounded_stop (length v.space.list) v.free v.stop v.calls s.bounded;
  holds = s.holds;
  legal = s.legal;
  registers = s.registers;
  known = s.known;
  fits = s.fits;
  apart = s.apart;
  counts = λ is. let c = s.counts is in
      record { in_use = c.in_use; adds_up = c.adds_up; below = c.below; within = c.within };
}

-- each register of threads whose registers hold nothing is 0
nothing_held : (threads u r : ℕ) → register_in (replicate threads no_registers) u r ≡ 0
nothing_held zero u r = refl
nothing_held (suc threads) zero r = get_or_replicate 16 r 0
nothing_held (suc threads) (suc u) r = nothing_held threads u r

no_name : (words k : ℕ) → name_at (replicate words None) k ≡ None
no_name words zero = refl
no_name words (suc k) = get_or_replicate words k None

-- a new buffer
rest_new : (threads u : ℕ) → u < threads
    → length {A = ℕ} (get_or (replicate threads (replicate max_rest 0)) u []) ≡ max_rest
rest_new zero u below = absurd (omega arith)
rest_new (suc threads) zero below = length-replicate {A = ℕ} max_rest 0
rest_new (suc threads) (suc u) below = rest_new threads u (omega arith)

-- a new heap of these words, under threads that made nothing
new_view : SpaceWords → ℕ → ℕ → ℕ → ℕ → ℕ → View
new_view space words globals forward threads capacity = record {
  space = space;
  scions = empty_table (words / 2);
  globals = replicate globals 0;
  forward = replicate forward 0;
  names = Some (no_names words);
  held = replicate threads no_registers;
  calls = replicate threads None;
  records = replicate threads (replicate max_rest 0);
  log = [];
  capacity = capacity;
  made = 0;
  free = space.used + 1;
  stop = false;
}

stands_new : (told : Bool) (space : SpaceWords) {words : ℕ} (globals forward threads capacity : ℕ)
    → length space.list ≡ words → space.used ≡ 0 → words < 2 ^ 30 → threads ≤ 8
    → Standing told no_homes_on (new_view space words globals forward threads capacity)
unfolding new_view
stands_new told space {words} globals forward threads capacity size unused small few =
    let v : View = new_view space words globals forward threads capacity in
    let still : IsQuiet v = λ t. get_or_replicate threads t None in
    let gone : (t : ℕ) (c : Call) → call_of v t ≡ Some c → ⊥ =
    λ t c is. (let e : None ≡ Some c = sym (still t) ∙ is in cc) in
    let unclaimed : claimed v.calls ≡ 0 = claimed_none v.calls still in
    let objects : NoObjects (maps v) = record { address = no_name words; home = get-empty {X = ℕ} nat_cmp } in
    let empty : IsEmpty (state no_homes_on v) = record {
      small = omega (arith, size, small);
      forwards = λ p below. nothing_at forward p;
      scions = no_scion_in (words / 2);
      end = refl;
      homes = refl;
      free_homes = refl;
      globals = λ g below. get_or_replicate globals g 0;
    } in
    record {
      named = refl;
      room = length-replicate words None ∙ sym size;
      scions_made = subst (λ (n : ℕ). AreScionsFor n v.scions) (sym size) (scions_made words v.scions refl);
      few = omega (arith, length-replicate threads no_registers, few);
      each = length-replicate threads None ∙ sym (length-replicate threads no_registers);
      buffers = length-replicate threads (replicate max_rest 0) ∙ sym (length-replicate threads no_registers);
      rests = λ u below. rest_new threads u (subst (λ (n : ℕ). u < n) (length-replicate threads no_registers) below);
      counted = refl;
      first = omega arith;
      bounded = inl (omega (arith, unused));
      holds = record {
        formed = FormedWords_start (maps v) (state no_homes_on v) objects empty;
        no_gaps = NoGaps_start (maps v) (state no_homes_on v) objects empty;
        tells = λ is. Tells_start (maps v) (state no_homes_on v) objects empty;
      };
      legal = λ is p e at. absurd (cc);
      registers = λ t r. inl (nothing_held threads t r);
      known = λ t c is. absurd (gone t c is);
      fits = λ t c is. absurd (gone t c is);
      apart = λ t u c d other is at. absurd (gone t c is);
      counts = λ is. record {
        in_use = 0;
        adds_up = CostsSum-empty (words_of []) (InUse (maps v)) (λ n named. let e : None ≡ Some n =
            sym (no_name words named.0) ∙ named.1 in cc);
        below = omega (arith, unclaimed);
        within = omega (arith, unclaimed);
      };
    }

-- a new heap has the names of no object, whether it keeps them or not
pub names_new : (named : Bool) {words globals forward : ℕ} (heap : Heap) → IsNewHeap words globals forward named heap
    → names_in heap ≡ no_names words
names_new true {words} heap is_new =
    ap (λ (o : Option name_table.Names). unwrap_or o (names_for (length heap.space.list) heap.maps)) is_new.names
names_new false {words} heap is_new =
    ap (λ (o : Option name_table.Names). unwrap_or o (names_for (length heap.space.list) heap.maps)) is_new.names
    ∙ (ap (names_for (length heap.space.list)) is_new.maps
    ∙ (ap (λ (n : ℕ). names_for n no_pairs) is_new.space.size ∙ names_none words))

-- a new history is empty, whether it is stored or not
pub history_new : (stored : Bool) {threads entries : ℕ} (rest : Rest) → IsNewRest threads entries rest
    → history_in stored rest ≡ []
history_new true rest is_new = is_new.history
history_new false rest is_new = is_new.shadow_log

-- before the first event
pub start_at_rest : (told : Bool) {named : Bool} {words globals forward threads entries : ℕ} {heap : Heap} {rest : Rest}
    → words < 2 ^ 30 → threads ≤ 8 → IsNewHeap words globals forward named heap → IsNewRest threads entries rest
    → AtRest told no_homes_on heap rest
unfolding new_view
start_at_rest told {named} {words} {globals} {forward} {threads} {heap} {rest} small few is_new is_rest =
    let stored : Bool = is_some heap.names in
    let names : names_in heap ≡ no_names words = names_new named heap is_new in
    let log : history_in stored rest ≡ [] = history_new stored rest is_rest in
    let same : new_view heap.space words globals forward threads (room_in stored rest) ≡ view (core_of heap rest) = cc
    in
    record {
      stands = subst (Standing told no_homes_on) same
          (stands_new told heap.space globals forward threads (room_in stored rest) is_new.space.size
          is_new.space.used small few);
      quiet = λ t. ap (λ (calls : List (Option Call)). get_or calls t None) is_rest.calls
          ∙ get_or_replicate threads t None;
    }
