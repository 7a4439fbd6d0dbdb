-- A run of real threads whose machine goes through an epoch.
use Rattle.std.proofs.Common.{◌≡◌, ℕ, ◌≤◌, true, List, length, refl, sym, ◌∙◌, ap, subst, arith}
use Rattle.std.proofs.Math.ListN.{length-map}
use Rattle.std.proofs.lemmas.Option.{same_Some, slice_get-map, slice_get_within}
use Rattle.std.specs.Option.{option_map}
use Rattle.std.specs.Prelude.{Bool, IsSome, map, Option, Some, slice_get}
use Rattle.melt_model.specs.declared.history.Entry.{Entry}
use Rattle.melt_scion.specs.Heaps.{OnDisk}
use Rattle.melt_scion.specs.declared.heap.Heap.{Heap}
use Rattle.melt_scion.specs.declared.registers.Registers.{Registers}
use Rattle.melt_core.specs.Advances.{TellsDisk}
use Rattle.melt_core.specs.Made.{KeepsMade}
use Rattle.melt_core.specs.StaleBits.{BitsTold, sight}
use Rattle.melt_core.specs.Views.{IsQuiet, Standing, View, values_of}
use Rattle.melt_rule.specs.declared.began.Began.{Began}
use Rattle.melt_epoch.specs.Ends.{disk_of, unseated}
use Rattle.melt_epoch.specs.declared.mutator.Mutator.{Mutator}
use Rattle.melt_safepoint.specs.Epochs.{RunsEpoch, SomeMayRun}
use Rattle.melt_safepoint.specs.Rows.{Row}
use Rattle.melt_safepoint.specs.Shown.{Shown, Underlies}
use Rattle.melt_safepoint.specs.declared.collector.Collector.{Collector}
use Rattle.melt_safepoint.specs.declared.thread.ThreadState.{ThreadState}
use Rattle.melt_pool.specs.Beginning.{start_of}
use Rattle.melt_pool.specs.Epochs.{HasPassed}
use Rattle.melt_pool.specs.Machines.{AreArmed, AreDisarmed, machine_row}
use Rattle.melt_pool.specs.Parts.{IsNameless, parts_view}
use Rattle.melt_pool.specs.Workers.{image_of}
use Rattle.melt_pool.specs.declared.worker.Worker.{Worker}
use Rattle.melt_pool.proofs.AtRest.{first_armed}
use Rattle.melt_pool.proofs.EndedView.{ended_bits, ended_forwards, ended_globals, ended_made, ended_quiet}
use Rattle.melt_pool.proofs.EndedView.{ended_stands, ended_under, ended_values, ended_words, registers_at}
use Rattle.melt_pool.proofs.LackedView.{disarmed_registers, registers_left}
use Rattle.melt_pool.proofs.RunsEpoch.{LeavesRun, runs_epoch}
use Rattle.melt_pool.proofs.ThreadsPassed.{stands_there}

-- a thread has 16 registers, and as many values
pub record AreSized {R : Type 0} (ns : List (Mutator R)) : Type 0 where
  pub registers : (t : ℕ) (n : Mutator R) → slice_get ns t ≡ Some n → length n.registers.regs ≡ 16
  pub values : (t : ℕ) (n : Mutator R) → slice_get ns t ≡ Some n → length n.values ≡ 16

module _ {R : Type 0} (image : R → Option (List ℕ)) (faults : R → ℕ) (words : Option (List ℕ)) (shown : Shown)
    (first : Option ℕ) (told : Bool) (heap : Heap) (h : List Entry) (registers : List Registers)
    (states : List ThreadState) (ms : List (Mutator (Worker R))) (nameless : IsNameless heap)
    (armed : AreArmed image faults words (parts_view heap h registers) states registers ms) (some : 1 ≤ length ms)
    (finish every : ℕ) (ends : shown.end ≡ finish) (shows : shown.image ≡ words) (new : Heap) (k : List Entry)
    (ns : List (Mutator (Worker R)))
    (passed : HasPassed faults finish every first (start_of (image_of image) told heap h finish ms).began ms ns new k)
    (sized : AreSized ns) (after : List ThreadState) (registers_after : List Registers)
    (ms_after : List (Mutator (Worker R))) (disarmed : AreDisarmed ns after registers_after ms_after)
    (collector : Collector) (room : ℕ) where
  abbrev b : Began
  b = (start_of (image_of image) told heap h finish ms).began

  abbrev v : View
  v = parts_view heap h registers

  abbrev w : View
  w = parts_view new k registers_after

  abbrev old : Row
  old = machine_row heap h registers states collector room every told

  abbrev row : Row
  row = machine_row new k registers_after after collector room every told

  -- the registers are those of the seats
  same_registers : registers_after ≡ registers_at passed.seats
  same_registers =
      disarmed_registers ns after registers_after ms_after disarmed
      ∙ (ap registers_at passed.left ∙ registers_left passed.seats)

  -- there are as many as before
  many : length registers_after ≡ length registers
  many = omega (arith, disarmed.too, passed.count, armed.count, armed.as_many)

  seats_many : length passed.seats ≡ length registers
  seats_many =
      let size : length (map unseated passed.seats) ≡ length passed.seats = length-map passed.seats unseated in
      omega (arith, size, ap length passed.left, passed.count, armed.count, armed.as_many)

  -- the values of a thread are those of its mutator
  values_after : (t : ℕ) (n : Mutator (Worker R)) → slice_get ns t ≡ Some n → values_of w t ≡ n.values
  values_after t n at =
      let below : (seated : Mutator (Worker R)) × (slice_get passed.seats t ≡ Some seated) =
      stands_there passed.seats t (omega (
        arith,
        slice_get_within ns t n at,
        ap length passed.left,
        length-map passed.seats unseated,
      )) in
      let came : unseated below.0 ≡ n =
      same_Some (unseated below.0) n
      (sym (ap (λ (xs : List (Mutator (Worker R))). slice_get xs t) passed.left
      ∙ (slice_get-map unseated passed.seats t ∙ ap (option_map unseated) below.1)) ∙ at) in
      let held : values_of (parts_view new k (registers_at passed.seats)) t ≡ below.0.values =
      ended_values (image_of image) told heap new h k finish registers ms passed.seats nameless passed.ended t below.0
      below.1 (ap (λ (x : Mutator (Worker R)). length x.registers.regs) came ∙ sized.registers t n at)
      (ap (λ (x : Mutator (Worker R)). length x.values) came ∙ sized.values t n at) in
      ap (λ (rs : List Registers). values_of (parts_view new k rs) t) same_registers
      ∙ (held ∙ ap (λ (x : Mutator (Worker R)). x.values) came)

  -- the disk under the epoch is one that is seen so
  under_after : (disk : OnDisk) → Underlies told shown.end shown.image disk
      → Underlies told shown.end shown.image (disk_of b)
  under_after disk under =
      let some_words : told ≡ true → IsSome words =
      λ tells. subst (λ (o : Option (List ℕ)). IsSome o) shows (under.tells tells).0 in
      let seen : Underlies told finish words (disk_of b) =
      ended_under (image_of image) told heap new h k finish registers ms passed.seats words
      (first_armed image faults words heap h registers states ms armed some) some_words in
      record {
        ends = seen.ends ∙ sym ends;
        tells = λ tells. subst (λ (o : Option (List ℕ)). TellsDisk o (disk_of b)) (sym shows) (seen.tells tells);
      }

  -- what the epoch leaves of the run
  pub leaves_run : LeavesRun shown old row k ns
  leaves_run = record {
    shows = λ disk under free stands. (
      disk_of b,
      under_after disk under,
      refl,
      record {
        stands = subst (λ (rs : List Registers). Standing told (disk_of b) (parts_view new k rs))
            (sym same_registers)
            (ended_stands (image_of image) told heap new h k finish registers ms passed.seats nameless passed.ended
            disk stands (let few : length registers ≤ 8 = stands.few in omega (arith, few, seats_many)));
        log = refl;
        quiet = subst (λ (rs : List Registers). IsQuiet (parts_view new k rs)) (sym same_registers)
            (ended_quiet (image_of image) told heap new h k finish registers ms passed.seats);
        capacity = refl;
        threads = many;
        globals = ended_globals (image_of image) told heap new h k finish registers ms passed.seats nameless
            passed.ended;
        words = ended_words (image_of image) told heap new h k finish registers ms passed.seats nameless
            passed.ended;
        forwards = ended_forwards (image_of image) told heap new h k finish registers ms passed.seats nameless
            passed.ended;
        values = values_after;
      },
    );
    made = λ tells disk stands.
        let so : Standing told disk v = subst (λ (c : Bool). Standing c disk v) (sym tells) stands in
        subst (λ (rs : List Registers). KeepsMade v (parts_view new k rs)) (sym same_registers)
        (ended_made (image_of image) told heap new h k finish registers ms passed.seats nameless passed.ended disk so
        tells);
    bits = λ tells.
        subst (λ (rs : List Registers). BitsTold (sight v) (sight (parts_view new k rs))) (sym same_registers)
        (ended_bits (image_of image) told heap new h k finish registers ms passed.seats nameless passed.ended tells);
    words = refl;
    every = refl;
    told = refl;
    collector = refl;
  }

  -- the run goes through the epoch
  pub machine_runs : SomeMayRun shown first old → RunsEpoch shown first old row
  machine_runs may =
      runs_epoch image faults words shown first old row registers ms b refl refl refl armed finish ends ns new k passed
      registers_after ms_after disarmed leaves_run may
