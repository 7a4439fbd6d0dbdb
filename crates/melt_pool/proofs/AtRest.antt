-- A run that stands between two epochs is at rest, so it may begin the next one.
use Rattle.std.proofs.Common.{◌≡◌, ℕ, zero, suc, ◌<◌, ◌≤◌, List, [], ◌∷◌, length, get_or, refl}
use Rattle.std.proofs.Common.{sym, ◌∙◌, ap, subst, arith}
use Rattle.std.proofs.Math.ListN.{get_or-map, length-map}
use Rattle.std.proofs.lemmas.Option.{get_or_from_slice_get, slice_get-map, slice_get_within}
use Rattle.std.specs.Option.{option_and_then, option_map}
use Rattle.std.specs.Prelude.{Bool, map, Option, Some, slice_get, slice_index}
use Rattle.melt_model.specs.Thread.{value_in}
use Rattle.melt_model.specs.declared.config.Config.{Config}
use Rattle.melt_model.specs.declared.history.Entry.{Entry}
use Rattle.melt_trace.specs.Script.{Script}
use Rattle.melt_scion.specs.Heaps.{OnDisk, state_of}
use Rattle.melt_scion.specs.Placed.{MayHold, value_at}
use Rattle.melt_scion.specs.Scions.{EachOnce}
use Rattle.melt_scion.specs.State.{State}
use Rattle.melt_scion.specs.declared.heap.Heap.{Heap}
use Rattle.melt_scion.specs.declared.registers.Registers.{Registers}
use Rattle.melt_core.specs.Views.{Standing, View, maps, registers_in, state}
use Rattle.melt_core.proofs.Making.{hold_words}
use Rattle.melt_core.proofs.Resting.{holds_shifts}
use Rattle.melt_epoch.specs.Ends.{HoldsValues}
use Rattle.melt_epoch.specs.declared.mutator.Mutator.{Mutator}
use Rattle.melt_safepoint.specs.Collections.{NoneForwarded}
use Rattle.melt_safepoint.specs.Rows.{Row, StandsBut}
use Rattle.melt_safepoint.specs.Shown.{Shown, Underlies}
use Rattle.melt_safepoint.specs.declared.thread.ThreadState.{ThreadState}
use Rattle.melt_safepoint.proofs.Collecting.{values_now}
use Rattle.melt_pool.specs.Beginning.{IsAtRest, RestsOn, first_image}
use Rattle.melt_pool.specs.Machines.{AreArmed, IsArmed}
use Rattle.melt_pool.specs.Parts.{IsNameless, parts_view}
use Rattle.melt_pool.specs.Workers.{image_of}
use Rattle.melt_pool.specs.declared.worker.Worker.{Worker}
use Rattle.melt_core.proofs.Nameless.{is_none}
use Rattle.melt_pool.proofs.Names.{names_hold}
use Rattle.melt_pool.proofs.Passing.{all_by}

-- an element that is there
pub found_at : {X : Type 0} (xs : List X) (k : ℕ) → k < length xs → (x : X) × (slice_get xs k ≡ Some x)
found_at [] k below = absurd (omega (arith, below))
found_at (x ∷ xs) zero below = (x, refl)
found_at (x ∷ xs) (suc k) below = found_at xs k (omega (arith, below))

-- the registers of a thread
pub registers_of : (registers : List Registers) (t : ℕ) (r : Registers) → slice_get registers t ≡ Some r
    → registers_in registers t ≡ r.regs
registers_of registers t r at =
    let none : Registers = record { regs = [] } in
    get_or-map (λ (x : Registers). x.regs) registers t none
    ∙ ap (λ (x : Registers). x.regs) (get_or_from_slice_get registers t r none at)

module _ {R : Type 0} (ms : List (Mutator R))
    (number : (k : ℕ) (m : Mutator R) → slice_get ms k ≡ Some m → m.thread ≡ k) where
  abbrev thread_of : Mutator R → ℕ
  thread_of m = m.thread

  -- threads by their places
  pub thread_at : (k d : ℕ) → k < length ms → get_or (map thread_of ms) k d ≡ k
  thread_at k d below =
      let found = found_at ms k below in
      get_or_from_slice_get (map thread_of ms) k found.0.thread d
      (slice_get-map thread_of ms k ∙ ap (option_map thread_of) found.1)
      ∙ number k found.0 found.1

  -- are each one thread
  pub threads_once : EachOnce (map thread_of ms)
  threads_once i j d before below same =
      let size : length (map thread_of ms) ≡ length ms = length-map ms thread_of in
      let first : get_or (map thread_of ms) i d ≡ i = thread_at i d (omega (arith, before, below, size)) in
      let second : get_or (map thread_of ms) j d ≡ j = thread_at j d (omega (arith, below, size)) in
      let equal : i ≡ j = sym first ∙ (same ∙ second) in
      omega (arith, before, equal)

module _ {R : Type 0} (image : R → Option (List ℕ)) (faults : R → ℕ) (words : Option (List ℕ)) (heap : Heap)
    (h : List Entry) (registers : List Registers) (states : List ThreadState) (ms : List (Mutator (Worker R)))
    (armed : AreArmed image faults words (parts_view heap h registers) states registers ms) where
  abbrev v : View
  v = parts_view heap h registers

  -- what a thread has that is there
  pub armed_at : (k : ℕ) (m : Mutator (Worker R)) → slice_get ms k ≡ Some m
      → (s : ThreadState) × (r : Registers) × (slice_get registers k ≡ Some r) × IsArmed image faults words v k s r m
  armed_at k m at =
      let below : k < length ms = slice_get_within ms k m at in
      let s = found_at states k (let count : length ms ≡ length states = armed.count in omega (arith, below, count)) in
      let r = found_at registers k
      (let count : length ms ≡ length states = armed.count in
      let many : length registers ≡ length states = armed.as_many in omega (arith, below, count, many)) in
      (s.0, r.0, r.1, armed.each k s.0 r.0 m s.1 r.1 at)

  -- the first reader tells the words that all readers tell
  pub first_armed : 1 ≤ length ms → first_image (image_of image) ms ≡ words
  first_armed some = by_first ms refl some
    where
      by_first : (ns : List (Mutator (Worker R))) → ns ≡ ms → 1 ≤ length ns
          → first_image (image_of image) ns ≡ words
      by_first [] is some = absurd (omega (arith, some))
      by_first (n ∷ ns) is some =
          let first = armed_at 0 n (ap (λ (xs : List (Mutator (Worker R))). slice_get xs 0) (sym is)) in
          ap (option_and_then (image_of image)) first.3.brings.there ∙ first.3.tells

  module _ (told : Bool) (disk : OnDisk) (stands : Standing told disk (parts_view heap h registers)) where
    -- registers stand for their values
    pub armed_values : (k : ℕ) (m : Mutator (Worker R)) → slice_get ms k ≡ Some m
        → HoldsValues (maps v) (state_of heap [] disk) m
    armed_values k m at =
        let is = armed_at k m at in
        let same : registers_in registers k ≡ m.registers.regs =
        registers_of registers k is.1 is.2 ∙ ap (λ (x : Registers). x.regs) (sym is.3.holds) in
        record {
          stand = λ r.
              ap (λ (regs : List ℕ). value_at (maps v) (slice_index regs r)) (sym same)
              ∙ (values_now told disk v stands k r ∙ ap (λ vs. Some (value_in vs r)) (sym is.3.values));
          hold = λ r.
              hold_words (maps v) (state disk v) (state_of heap [] disk) (slice_index m.registers.regs r) (λ a. refl)
              (subst (λ (regs : List ℕ). MayHold (maps v) (state disk v) (slice_index regs r)) same
              (stands.registers k r));
        }

    -- what stands with mutators that are ready is at rest
    pub at_rest_over : (finish : ℕ) → Underlies told finish words disk → disk.free_homes ≡ [] → NoneForwarded v
        → IsNameless heap → 1 ≤ length ms → IsAtRest (image_of image) told heap h finish ms
    at_rest_over finish under none_free none nameless some =
        let s : State = state disk v in
        let rested : State = state_of heap [] disk in
        let count : length ms ≡ length states = armed.count in
        let many : length registers ≡ length states = armed.as_many in
        let few : length registers ≤ 8 = stands.few in
        record {
          words = words;
          maps = maps v;
          disk = disk;
          under = under;
          none_free = none_free;
          has_maps = (names_hold heap nameless).has;
          nameless = is_none heap.names nameless.nameless;
          settled = none;
          some_forward = nameless.some_forward;
          holds = holds_shifts told h (maps v) s rested
              (record { base = refl; is = refl; word = λ a. refl; global = λ g. refl; forward = λ p. refl })
              (λ end below within. below) stands.holds;
          legal = stands.legal;
          few_globals = nameless.few_globals;
          few_words = nameless.few_words;
          some_thread = some;
          few = omega (arith, few, count, many);
          each_once = threads_once ms (λ k m at. (armed_at k m at).3.thread);
          each = all_by (RestsOn (image_of image) words (maps v) heap disk) ms (λ k m at.
              let is = armed_at k m at in
              record {
                unseated_yet = is.3.no_seat;
                reader = is.3.brings.worker;
                there = is.3.brings.there;
                tells = is.3.tells;
                size = is.3.size;
                values = armed_values k m at;
              });
        }

-- A run that stands may begin an epoch with mutators that are ready, where no forwarding word is filled.
pub at_rest : {R : Type 0} {image : R → Option (List ℕ)} {faults : R → ℕ} {unpaid : ℕ} {told : Bool} {script : Script}
    {config : Config} {shown : Shown} {run : Row} {heap : Heap} (h : List Entry) {registers : List Registers}
    {ms : List (Mutator (Worker R))} → StandsBut unpaid told script config shown run
    → run.view ≡ parts_view heap h registers → NoneForwarded run.view → IsNameless heap
    → AreArmed image faults shown.image run.view run.states registers ms → 1 ≤ length ms
    → IsAtRest (image_of image) told heap h shown.end ms
at_rest {R} {image} {faults} {told} {shown} {run} {heap} h {registers} {ms} stands is none nameless armed some =
    at_rest_over image faults shown.image heap h registers run.states ms
    (subst (λ (v : View). AreArmed image faults shown.image v run.states registers ms) is armed) told stands.disk
    (subst (Standing told stands.disk) is stands.table.stands) shown.end stands.under stands.none_free
    (subst NoneForwarded is none) nameless some
