-- A run of real threads whose machine made a call first, and alone, that lacked words.
use Rattle.std.proofs.Common.{◌≡◌, ℕ, ◌+◌, ◌<◌, ◌≤◌, true, List, length, refl, sym, ◌∙◌, ap, subst, arith, inl, inr}
use Rattle.std.proofs.Math.ListN.{length-map}
use Rattle.std.proofs.lemmas.Bool.{cases_eq}
use Rattle.std.proofs.lemmas.Option.{same_Some, slice_get_within}
use Rattle.std.specs.Prelude.{Bool, IsSome, map, None, Option, Some, slice_get}
use Rattle.melt_model.specs.declared.config.Config.{Config}
use Rattle.melt_model.specs.declared.history.Entry.{Entry}
use Rattle.melt_model.specs.declared.history.Value.{Value}
use Rattle.melt_model.specs.declared.operations.Op.{Op}
use Rattle.melt_trace.specs.Script.{Script}
use Rattle.melt_scion.specs.Heaps.{OnDisk}
use Rattle.melt_scion.specs.declared.heap.Heap.{Heap}
use Rattle.melt_scion.specs.declared.registers.Registers.{Registers}
use Rattle.melt_core.specs.Advances.{TellsDisk}
use Rattle.melt_core.specs.Views.{Standing, View}
use Rattle.melt_rule.specs.declared.began.Began.{Began}
use Rattle.melt_epoch.specs.Ends.{disk_of, unseated}
use Rattle.melt_epoch.specs.declared.mutator.Mutator.{Mutator}
use Rattle.melt_safepoint.specs.Epochs.{LacksFirst}
use Rattle.melt_safepoint.specs.Modes.{FitsMode}
use Rattle.melt_safepoint.specs.Rows.{AwaitsCall, LacksWords, Row, StandsBut}
use Rattle.melt_safepoint.specs.Shown.{Shown, Underlies}
use Rattle.melt_safepoint.specs.Tables.{TableStands}
use Rattle.melt_safepoint.specs.declared.collector.Collector.{Collector}
use Rattle.melt_safepoint.specs.declared.thread.Mode.{Mode}
use Rattle.melt_safepoint.specs.declared.thread.ThreadState.{ThreadState}
use Rattle.melt_pool.specs.Beginning.{start_of}
use Rattle.melt_pool.specs.Epochs.{HasLacked, NeedsFrom}
use Rattle.melt_pool.specs.Machines.{AreArmed, AreDisarmed, IsArmed, machine_row}
use Rattle.melt_pool.specs.Parts.{IsNameless, parts_view}
use Rattle.melt_pool.specs.Workers.{Brings, image_of}
use Rattle.melt_pool.specs.declared.worker.Worker.{Worker}
use Rattle.melt_pool.proofs.AtRest.{first_armed}
use Rattle.melt_pool.proofs.EndedView.{ended_bits, ended_forwards, ended_globals, ended_made, ended_quiet}
use Rattle.melt_pool.proofs.EndedView.{ended_stands, ended_under, ended_unheld, ended_words, registers_at}
use Rattle.melt_pool.proofs.Lacked.{NothingDone, lacked_from}
use Rattle.melt_pool.proofs.LackedView.{disarmed_registers, lacked_marked, lacked_values, registers_left, same_each}
use Rattle.melt_pool.proofs.ThreadsPassed.{brings_one, stands_there}

-- what there is, if there is something
what_is : (next : Option Op) → IsSome next → (o : Op) × (next ≡ Some o)
what_is None is = absurd (cc)
what_is (Some o) is = (o, refl)

module _ {R : Type 0} (image : R → Option (List ℕ)) (faults : R → ℕ) (words : Option (List ℕ)) (shown : Shown)
    (told : Bool) (heap : Heap) (h : List Entry) (registers : List Registers) (states : List ThreadState)
    (ms : List (Mutator (Worker R))) (nameless : IsNameless heap)
    (armed : AreArmed image faults words (parts_view heap h registers) states registers ms) (some : 1 ≤ length ms)
    (finish every : ℕ) (ends : shown.end ≡ finish) (shows : shown.image ≡ words) (new : Heap) (k : List Entry)
    (ns : List (Mutator (Worker R))) (t need : ℕ)
    (lacked : HasLacked image faults t need (start_of (image_of image) told heap h finish ms).began ms ns new k)
    (sized : (u : ℕ) (r : Registers) → slice_get registers u ≡ Some r → length r.regs ≡ 16)
    (after : List ThreadState) (registers_after : List Registers) (ms_after : List (Mutator (Worker R)))
    (disarmed : AreDisarmed ns after registers_after ms_after) (collector : Collector) (room : ℕ) where
  abbrev b : Began
  b = (start_of (image_of image) told heap h finish ms).began

  abbrev v : View
  v = parts_view heap h registers

  abbrev w : View
  w = parts_view new k (registers_at lacked.seats)

  abbrev old : Row
  old = machine_row heap h registers states collector room every told

  abbrev row : Row
  row = machine_row new k (registers_at lacked.seats) after collector room every told

  -- the registers are those of the seats
  same_registers : registers_after ≡ registers_at lacked.seats
  same_registers =
      disarmed_registers ns after registers_after ms_after disarmed
      ∙ (ap registers_at lacked.left ∙ registers_left lacked.seats)

  -- the mutator with which a thread went into the epoch
  went_with : (u : ℕ) (s : ThreadState) → slice_get states u ≡ Some s
      → (m : Mutator (Worker R)) × (slice_get ms u ≡ Some m) × ((r : Registers) × IsArmed image faults words v u s r m)
  went_with u s at =
      let below : u < length states = slice_get_within states u s at in
      let m : (m : Mutator (Worker R)) × (slice_get ms u ≡ Some m) =
      stands_there ms u (omega (arith, below, armed.count)) in
      let r : (r : Registers) × (slice_get registers u ≡ Some r) =
      stands_there registers u (omega (arith, below, armed.as_many)) in
      (m.0, m.1, (r.0, armed.each u s r.0 m.0 at r.1 m.1))

  -- it brings back what it brought
  brings_back : (u : ℕ) (s : ThreadState) (n : Mutator (Worker R)) → slice_get states u ≡ Some s
      → slice_get ns u ≡ Some n → Brings n s
  brings_back u s n at came =
      let m = went_with u s at in
      elim (cases_eq u t) [
        | inl same ↦
            (lacked.here m.0 n (ap (slice_get ms) (sym same) ∙ m.1) (ap (slice_get ns) (sym same) ∙ came)).0.brings s
            m.2.1.brings
        | inr other ↦
            let is : m.0 ≡ n = same_Some m.0 n (sym m.1 ∙ (sym (lacked.others u other) ∙ came)) in
            subst (λ (x : Mutator (Worker R)). Brings x s) is m.2.1.brings
      ]

  -- so the threads are as they were
  same_states : after ≡ states
  same_states =
      same_each after states (disarmed.as_many ∙ (lacked.count ∙ armed.count)) (λ u x s is at.
      let below : u < length after = slice_get_within after u x is in
      let n : (n : Mutator (Worker R)) × (slice_get ns u ≡ Some n) =
      stands_there ns u (omega (arith, below, disarmed.as_many)) in
      let r : (r : Registers) × (slice_get registers_after u ≡ Some r) =
      stands_there registers_after u (omega (arith, below, disarmed.as_many, disarmed.too)) in
      let q : (q : Mutator (Worker R)) × (slice_get ms_after u ≡ Some q) =
      stands_there ms_after u (omega (arith, below, disarmed.as_many, disarmed.count)) in
      brings_one n.0 x s (disarmed.each u n.0 x r.0 q.0 n.1 is r.1 q.1).brings (brings_back u s n.0 at n.1))

  seats_many : length lacked.seats ≡ length registers
  seats_many =
      let size : length (map unseated lacked.seats) ≡ length lacked.seats = length-map lacked.seats unseated in
      omega (arith, size, ap length lacked.left, lacked.count, armed.count, armed.as_many)

  -- the disk under the epoch is one that is seen so
  under_after : (disk : OnDisk) → Underlies told shown.end shown.image disk
      → Underlies told shown.end shown.image (disk_of b)
  under_after disk under =
      let some_words : told ≡ true → IsSome words =
      λ tells. subst (λ (o : Option (List ℕ)). IsSome o) shows (under.tells tells).0 in
      let seen : Underlies told finish words (disk_of b) =
      ended_under (image_of image) told heap new h k finish registers ms lacked.seats words
      (first_armed image faults words heap h registers states ms armed some) some_words in
      record {
        ends = seen.ends ∙ sym ends;
        tells = λ tells. subst (λ (o : Option (List ℕ)). TellsDisk o (disk_of b)) (sym shows) (seen.tells tells);
      }

  -- nothing was done
  nothing_done : (disk : OnDisk) → Underlies told shown.end shown.image disk → Standing told disk v
      → NothingDone told b shown old row
  nothing_done disk under stands =
      let few : length lacked.seats ≤ 8 =
      let few : length registers ≤ 8 = stands.few in omega (arith, few, seats_many) in
      record {
        disk = disk_of b;
        under = under_after disk under;
        none_free = refl;
        renewed = record {
          stands = ended_stands (image_of image) told heap new h k finish registers ms lacked.seats nameless
              lacked.ended disk stands few;
          quiet = ended_quiet (image_of image) told heap new h k finish registers ms lacked.seats;
          globals = ended_globals (image_of image) told heap new h k finish registers ms lacked.seats nameless
              lacked.ended;
          words = ended_words (image_of image) told heap new h k finish registers ms lacked.seats nameless
              lacked.ended;
          forwards = ended_forwards (image_of image) told heap new h k finish registers ms lacked.seats nameless
              lacked.ended;
          threads =
              length-map lacked.seats (λ (m : Mutator (Worker R)). m.registers) ∙ seats_many;
          capacity = refl;
          history = lacked.same_history;
          values = lacked_values image faults told words heap new h k finish registers states ms ns t need armed lacked
              sized nameless;
        };
        marked = λ tells.
            lacked_marked image faults told words heap new h k finish registers states ms ns t need armed lacked sized
            nameless disk stands tells;
        bits = λ tells.
            ended_bits (image_of image) told heap new h k finish registers ms lacked.seats nameless lacked.ended tells;
        made = λ tells.
            ended_made (image_of image) told heap new h k finish registers ms lacked.seats nameless lacked.ended disk
            stands tells;
        nowhere = λ tells.
            ended_unheld (image_of image) told heap new h k finish registers ms lacked.seats nameless lacked.ended disk
            stands tells few lacked.none_won;
        states = same_states;
        collector = refl;
        words = refl;
        every = refl;
        told_same = refl;
      }

  -- the thread lacks these words
  lacks_after : (script : Script) (config : Config) (forced : ℕ) → AwaitsCall told script config shown forced old t
      → LacksWords told script config shown forced row t need
  lacks_after script config forced awaits =
      let stands : StandsBut _ told script config shown old = awaits.stands in
      let table : TableStands told script config stands.disk v states = stands.table in
      let s : ThreadState = awaits.waits.0 in
      let at : slice_get states t ≡ Some s = awaits.waits.1 in
      let fits = subst (λ (m : Mode). FitsMode m s.op) awaits.waits.2 (table.each t s at).fits in
      let op : (o : Op) × (s.op ≡ Some o) = what_is s.op fits.0 in
      let m = went_with t s at in
      let n : (n : Mutator (Worker R)) × (slice_get ns t ≡ Some n) =
      stands_there ns t
      (let below : t < length states = slice_get_within states t s at in
      omega (arith, below, lacked.count, armed.count)) in
      let past : length heap.space.list + 1 < heap.space.used + 1 + need = lacked.past in
      let size : length heap.space.list ≡ config.heap = table.words in
      lacked_from need awaits (nothing_done stands.disk stands.under table.stands) refl (omega (arith, past, size))
      lacked.small lacked.none_won op.0
      (λ x there. ap (λ (y : ThreadState). y.op) (same_Some x s (sym there ∙ at)) ∙ op.1)
      (λ tells. subst (λ (vs : List Value). NeedsFrom b vs op.0 need) m.2.1.values
      ((lacked.here m.0 n.0 m.1 n.1).1 s op.0 m.2.1.brings op.1 tells))

  -- and else the run is as it was
  pub machine_lacks : LacksFirst shown t need old
      (machine_row new k registers_after after collector room every told)
  machine_lacks =
      subst (λ (rs : List Registers).
      LacksFirst shown t need old (machine_row new k rs after collector room every told)) (sym same_registers)
      (record {
        keeps = λ tells script config forced awaits.
            let same : told ≡ tells = awaits.stands.told_is in
            subst (λ (c : Bool). LacksWords c script config shown forced row t need) same
            (lacks_after script config forced
            (subst (λ (c : Bool). AwaitsCall c script config shown forced old t) (sym same) awaits));
        bits = λ tells script config forced awaits is.
            ended_bits (image_of image) told heap new h k finish registers ms lacked.seats nameless lacked.ended
            (awaits.stands.told_is ∙ is);
        states = same_states;
        collector = refl;
      })
