-- What is left of a machine of real threads after an epoch.
use Rattle.std.proofs.Common.{◌≡◌, ℕ, ◌+◌, ◌-◌, ◌^◌, ◌≤◌, List, length, map, refl, sym, ◌∙◌, ap, subst, arith, inl, inr}
use Rattle.std.proofs.Math.ListN.{length-map}
use Rattle.std.proofs.lemmas.Bool.{cases_eq}
use Rattle.std.proofs.lemmas.Option.{same_Some, slice_get-map, slice_get_within}
use Rattle.std.specs.Option.{is_some, option_map}
use Rattle.std.specs.Prelude.{Bool, None, Option, Some, slice_get, sum, ◌⊎◌}
use Rattle.melt_model.specs.declared.history.Entry.{Entry}
use Rattle.melt_trace.specs.Script.{Script}
use Rattle.melt_scion.specs.declared.heap.Heap.{Heap}
use Rattle.melt_scion.specs.declared.registers.Registers.{Registers}
use Rattle.melt_core.specs.Views.{values_of}
use Rattle.melt_rule.specs.declared.began.Began.{Began}
use Rattle.melt_epoch.specs.Ends.{HasEnded, unseated}
use Rattle.melt_epoch.specs.declared.mutator.Mutator.{Mutator}
use Rattle.melt_safepoint.specs.Epochs.{EndsEpoch, SomeMayRun}
use Rattle.melt_safepoint.specs.Losses.{CountsLosses, losses, open_faults}
use Rattle.melt_safepoint.specs.Rows.{Row}
use Rattle.melt_safepoint.specs.Shown.{Shown}
use Rattle.melt_safepoint.specs.declared.collector.Collector.{Collector}
use Rattle.melt_safepoint.specs.declared.thread.ThreadState.{ThreadState}
use Rattle.melt_safepoint.proofs.Losses.{counts_risen}
use Rattle.melt_pool.specs.Arming.{AllBring, CountsReaders}
use Rattle.melt_pool.specs.Beginning.{start_of}
use Rattle.melt_pool.specs.Epochs.{AllRest, Ended}
use Rattle.melt_pool.specs.Machines.{AreArmed, AreDisarmed, IsArmed, machine_row}
use Rattle.melt_pool.specs.Parts.{AreAway, IsNameless, parts_view}
use Rattle.melt_pool.specs.Workers.{Brings, faults_of, image_of}
use Rattle.melt_pool.specs.declared.worker.Worker.{Worker}
use Rattle.melt_pool.proofs.Armed.{AllSized, disarmed_sized}
use Rattle.melt_pool.proofs.EndedView.{ended_nameless, ended_values, registers_at}
use Rattle.melt_pool.proofs.LackedView.{disarmed_registers, registers_left}
use Rattle.melt_pool.proofs.MachineEnds.{machine_ends}
use Rattle.melt_pool.proofs.MachineRuns.{AreSized}
use Rattle.melt_pool.proofs.RunsEpoch.{MayBegin, may_begin}
use Rattle.melt_pool.proofs.ThreadsPassed.{passed_losses, stands_there}

-- How mutators come out of an epoch that has ended: without their seats, each for its thread, with its values and what
-- it brought.
record ComeOut {R : Type 0} (b : Began) (ms ns : List (Mutator (Worker R))) (new : Heap) (k : List Entry) : Type 0 where
  pub seats : List (Mutator (Worker R))
  pub left : ns ≡ map unseated seats
  pub ended : HasEnded b seats new k
  pub count : length ns ≡ length ms
  pub threads : (t : ℕ) (m n : Mutator (Worker R)) → slice_get ms t ≡ Some m → slice_get ns t ≡ Some n
      → n.thread ≡ m.thread
  pub sizes : (t : ℕ) (n : Mutator (Worker R)) → slice_get ns t ≡ Some n → length n.values ≡ 16
  pub bring : AllBring ns

module _ {R : Type 0} (image : R → Option (List ℕ)) (faults : R → ℕ) (shown : Shown) (told : Bool) (heap : Heap)
    (h : List Entry) (registers : List Registers) (states : List ThreadState) (ms : List (Mutator (Worker R)))
    (nameless : IsNameless heap)
    (armed : AreArmed image faults shown.image (parts_view heap h registers) states registers ms)
    (some : 1 ≤ length ms) (every : ℕ) (new : Heap) (k : List Entry) (ns : List (Mutator (Worker R)))
    (rest : (script : Script) × AllRest script (start_of (image_of image) told heap h shown.end ms).began ms) where
  abbrev b : Began
  b = (start_of (image_of image) told heap h shown.end ms).began

  -- a mutator as it went in
  went_in : (t : ℕ) (m : Mutator (Worker R)) → slice_get ms t ≡ Some m
      → (s : ThreadState) × ((r : Registers) × IsArmed image faults shown.image (parts_view heap h registers) t s r m)
  went_in t m at =
      let below = slice_get_within ms t m at in
      let s = stands_there states t (omega (arith, below, armed.count)) in
      let r = stands_there registers t (omega (arith, below, armed.count, armed.as_many)) in
      (s.0, (r.0, armed.each t s.0 r.0 m s.1 r.1 at))

  come_out : (first lacks : Option ℕ) → Ended image faults shown.end every first b ms ns new k lacks
      → ComeOut b ms ns new k
  come_out first None ended = record {
    seats = ended.seats;
    left = ended.left;
    ended = ended.ended;
    count = ended.count;
    threads = ended.threads;
    sizes = λ t n at.
        let below = slice_get_within ns t n at in
        let m = stands_there ms t (omega (arith, below, ended.count)) in
        let seated = stands_there ended.seats t (omega (
          arith,
          below,
          ap length ended.left,
          length-map ended.seats unseated,
        )) in
        let s = rest.1.each t m.0 m.1 in
        (ended.each rest.0 rest.1 t s.0 m.0 seated.0 n m.1 seated.1 at s.1).0.size;
    bring = λ t n at.
        let below = slice_get_within ns t n at in
        let m = stands_there ms t (omega (arith, below, ended.count)) in
        let seated = stands_there ended.seats t (omega (
          arith,
          below,
          ap length ended.left,
          length-map ended.seats unseated,
        )) in
        let s = rest.1.each t m.0 m.1 in
        let passes = (ended.each rest.0 rest.1 t s.0 m.0 seated.0 n m.1 seated.1 at s.1).0 in
        (passes.after, passes.rests.brings);
  }
  come_out None (Some need) ended = absurd ended
  come_out (Some u) (Some need) ended =
      let as_it_was : (t : ℕ) (m n : Mutator (Worker R)) → slice_get ms t ≡ Some m → slice_get ns t ≡ Some n
      → (n.thread ≡ m.thread) × (n.values ≡ m.values) × ((s : ThreadState) → Brings m s → Brings n s) =
      λ t m n at is. elim (cases_eq t u) [
        | inl same ↦
            let before = (ended.here m n (ap (slice_get ms) (sym same) ∙ at) (ap (slice_get ns) (sym same) ∙ is)).0 in (
              ap (λ (x : Mutator (Worker R)). x.thread) before.same,
              ap (λ (x : Mutator (Worker R)). x.values) before.same,
              before.brings,
            )
        | inr other ↦
            let one : m ≡ n = same_Some m n (sym (ended.others t other ∙ at) ∙ is) in (
              ap (λ (x : Mutator (Worker R)). x.thread) (sym one),
              ap (λ (x : Mutator (Worker R)). x.values) (sym one),
              λ s brings. subst (λ (x : Mutator (Worker R)). Brings x s) one brings,
            )
      ] in
      let came : (t : ℕ) (n : Mutator (Worker R)) → slice_get ns t ≡ Some n
      → (m : Mutator (Worker R)) × (slice_get ms t ≡ Some m) =
      λ t n at. stands_there ms t (let below = slice_get_within ns t n at in omega (arith, below, ended.count)) in
      record {
        seats = ended.seats;
        left = ended.left;
        ended = ended.ended;
        count = ended.count;
        threads = λ t m n at is. (as_it_was t m n at is).0;
        sizes = λ t n is.
            let m = came t n is in
            let ready = (went_in t m.0 m.1).1.1 in
            ap length (as_it_was t m.0 n m.1 is).1 ∙ ready.size;
        bring = λ t n is.
            let m = came t n is in
            let went = went_in t m.0 m.1 in
            (went.0, (as_it_was t m.0 n m.1 is).2 went.0 went.1.1.brings);
      }

  module _ (first lacks : Option ℕ) (ended : Ended image faults shown.end every first b ms ns new k lacks) where
    out : ComeOut b ms ns new k
    out = come_out first lacks ended

    -- as many come out as went in, with their operations
    pub leaves_count : length ns ≡ length ms
    leaves_count = out.count

    pub leaves_bring : AllBring ns
    leaves_bring = out.bring

    -- the heap keeps no names
    pub leaves_nameless : IsNameless new
    leaves_nameless =
        ended_nameless (image_of image) told heap new h k shown.end registers ms out.seats nameless out.ended

    module _ (after : List ThreadState) (registers_after : List Registers) (ms_after : List (Mutator (Worker R)))
        (disarmed : AreDisarmed ns after registers_after ms_after) (sized : AllSized registers) where
      -- each has 16 registers, and as many values
      leaves_sized : AreSized ns
      leaves_sized = record {
        registers = λ t n at.
            let below = slice_get_within ns t n at in
            let s = stands_there after t (omega (arith, below, disarmed.as_many)) in
            let r = stands_there registers_after t (omega (arith, below, disarmed.too)) in
            let q = stands_there ms_after t (omega (arith, below, disarmed.count)) in
            ap (λ (x : Registers). length x.regs) (sym (disarmed.each t n s.0 r.0 q.0 at s.1 r.1 q.1).registers)
            ∙ disarmed_sized ns after registers_after ms_after disarmed t r.0 r.1;
        values = out.sizes;
      }

      same_registers : registers_after ≡ registers_at out.seats
      same_registers =
          disarmed_registers ns after registers_after ms_after disarmed
          ∙ (ap registers_at out.left ∙ registers_left out.seats)

      -- the values of a thread are those of its mutator
      values_out : (t : ℕ) (n : Mutator (Worker R)) → slice_get ns t ≡ Some n
          → (n.seat ≡ None) × (n.values ≡ values_of (parts_view new k registers_after) t)
      values_out t n at =
          let below = slice_get_within ns t n at in
          let seated = stands_there out.seats t (omega (
            arith,
            below,
            ap length out.left,
            length-map out.seats unseated,
          )) in
          let came : unseated seated.0 ≡ n =
          same_Some (unseated seated.0) n
          (sym (ap (λ (xs : List (Mutator (Worker R))). slice_get xs t) out.left
          ∙ (slice_get-map unseated out.seats t ∙ ap (option_map unseated) seated.1)) ∙ at) in
          let held : values_of (parts_view new k (registers_at out.seats)) t ≡ seated.0.values =
          ended_values (image_of image) told heap new h k shown.end registers ms out.seats nameless out.ended t seated.0
          seated.1 (ap (λ (x : Mutator (Worker R)). length x.registers.regs) came ∙ leaves_sized.registers t n at)
          (ap (λ (x : Mutator (Worker R)). length x.values) came ∙ out.sizes t n at) in (
            ap (λ (x : Mutator (Worker R)). x.seat) (sym came),
            sym (ap (λ (x : Mutator (Worker R)). x.values) came)
                ∙ (sym held ∙ ap (λ (rs : List Registers). values_of (parts_view new k rs) t) (sym same_registers)),
          )

      -- they are away
      pub leaves_away : length ms ≤ 8 → AreAway (parts_view new k registers_after) registers_after ms_after
      leaves_away few = record {
        count = disarmed.count ∙ sym disarmed.too;
        few = omega (arith, few, disarmed.count, out.count);
        each = λ t q at.
            let below = slice_get_within ms_after t q at in
            let n = stands_there ns t (omega (arith, below, disarmed.count)) in
            let s = stands_there after t (omega (arith, below, disarmed.count, disarmed.as_many)) in
            let r = stands_there registers_after t (omega (arith, below, disarmed.count, disarmed.too)) in
            let m = stands_there ms t (omega (arith, below, disarmed.count, out.count)) in
            let is = (disarmed.each t n.0 s.0 r.0 q n.1 s.1 r.1 at).left in
            let ready = (went_in t m.0 m.1).1.1 in
            let values = values_out t n.0 n.1 in
            record {
              thread = ap (λ (x : Mutator (Worker R)). x.thread) is
                  ∙ (out.threads t m.0 n.0 m.1 n.1 ∙ ready.thread);
              no_seat = ap (λ (x : Mutator (Worker R)). is_some x.seat) is ∙ ap is_some values.0;
              no_reader = ap (λ (x : Mutator (Worker R)). is_some x.reader) is;
              size = ap (λ (x : Mutator (Worker R)). length x.values) is ∙ out.sizes t n.0 n.1;
              values = ap (λ (x : Mutator (Worker R)). x.values) is ∙ values.1;
            };
      }

      module _ (collector : Collector) (room : ℕ)
          (may : SomeMayRun shown first (machine_row heap h registers states collector room every told)) where
        -- the epoch has ended for the run
        pub leaves_ends : EndsEpoch shown first (machine_row heap h registers states collector room every told)
            (machine_row new k registers_after after collector room every told) lacks
        leaves_ends =
            machine_ends image faults shown.image shown told heap h registers states ms nameless armed some shown.end
            every
            refl refl new k ns sized leaves_sized after registers_after ms_after disarmed collector room first lacks may
            ended

  -- so many threads were lost as reads failed
  pub leaves_lost : {after : List ThreadState} {registers_after : List Registers} {ms_after : List (Mutator (Worker R))}
      → AreDisarmed ns after registers_after ms_after → (collector : Collector) (room : ℕ) (first lacks : Option ℕ)
      → SomeMayRun shown first (machine_row heap h registers states collector room every told)
      → Ended image faults shown.end every first b ms ns new k lacks
      → EndsEpoch shown first (machine_row heap h registers states collector room every told)
      (machine_row new k registers_after after collector room every told) lacks → {before later : ℕ}
      → CountsReaders faults ns before later → CountsLosses states after before later
  leaves_lost {after} {registers_after} {ms_after} disarmed collector room first None may ended ends {before} {later}
      counts =
      let row : Row = machine_row heap h registers states collector room every told in
      let begin : MayBegin may.0 may.1 may.2 shown first row = may_begin may.0 may.1 may.2 shown first row may.3 in
      let f : Mutator (Worker R) → ℕ = λ (m : Mutator (Worker R)). open_faults (faults_of faults) m.reader in
      let counted : (before + sum (map f ns) ≤ later) ⊎ (2 ^ 64 - 1 ≤ later) = elim counts.counted [
        | inl few ↦ let few : sum (map f ns) + before ≤ later = few in inl (omega (arith, few))
        | inr full ↦ inr full
      ] in
      passed_losses may.0 may.1 may.2 begin.stands.disk row.view states image faults shown.image registers ms b
      begin.stands.told_is refl begin.stands.table armed begin.stands.table.globals shown.end every first ns new k ended
      after registers_after ms_after disarmed before later counted
  leaves_lost {after} {registers_after} {ms_after} disarmed collector room None (Some need) may ended ends {before}
      {later} counts =
      absurd ended
  leaves_lost {after} {registers_after} {ms_after} disarmed collector room (Some t) (Some need) may ended ends {before}
      {later} counts =
      counts_risen states after before later (ap losses ends.states) counts.rises
