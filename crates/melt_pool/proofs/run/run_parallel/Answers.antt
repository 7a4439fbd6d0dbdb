-- The threads are lent readers, go through an epoch, and give them back.
use Rattle.std.proofs.Common.{◌≡◌, ◌≤◌, ℕ, List, Vec, Global, Err, length, refl, sym, ◌∙◌, ap, subst, arith, inl}
use Rattle.std.proofs.lemmas.Bool.{eqb-true}
use Rattle.std.proofs.lemmas.List.{with_items_is}
use Rattle.std.specs.Prelude.{Some, slice_get}
use Rattle.std.specs.Vec.{with_items}
use Rattle.melt_model.specs.declared.reports.Journal.{Journal}
use Rattle.melt_scion.specs.declared.registers.Registers.{Registers}
use Rattle.melt_epoch.specs.declared.mutator.Mutator.{Mutator}
use Rattle.melt_safepoint.specs.Epochs.{EndsEpoch, SomeMayRun}
use Rattle.melt_safepoint.specs.Lends.{LendsAtMost}
use Rattle.melt_safepoint.specs.Losses.{CountsLosses}
use Rattle.melt_safepoint.specs.Rows.{Row, row_of}
use Rattle.melt_safepoint.specs.Shown.{Shown, shown_by}
use Rattle.melt_safepoint.specs.declared.ending.Left.{Left}
use Rattle.melt_safepoint.proofs.Collected.{stands_failed}
use Rattle.melt_safepoint.proofs.Halting.{halted_losses}
use Rattle.melt_safepoint.proofs.Losses.{counts_same}
use Rattle.melt_safepoint.proofs.Shown.{shown_is}
use Rattle.melt_pool.specs.Machines.{machine_row, parallel_view}
use Rattle.melt_pool.specs.Parts.{AreAway, parts_view}
use Rattle.melt_pool.specs.declared.worker.Worker.{Worker}
use Rattle.melt_pool.proofs.MachineBegins.{begins_many, none_runs}
use Rattle.melt_core.proofs.Nameless.{is_none}
use Rattle.melt_pool.proofs.run.run_parallel.Given.{Over}
use Rattle.melt_pool.proofs.run.run_parallel.Goals as goal
use Rattle.melt_pool.proofs.run.run_parallel.Goals.{After-lend_all, In-Ok-go_through}

pub returns-then-is_empty : goal.returns-then-is_empty
returns-then-is_empty g c =
    let none : length c.args.run.states.items ≡ 0 =
    sym c.args.run.states.ok.0 ∙ eqb-true c.args.run.states.len 0 (sym c.is_empty.ensures ∙ c.if-is_empty.true) in
    record {
      so = record {
        ends = none_runs (shown_by g.D.StaleDisk.image c.args.space.now) c.args.first (row_of parallel_view c.args.run)
            none c.requires.may;
        shown = refl;
        same_disk = refl;
        writes = refl;
        count = omega arith;
        lost = counts_same c.args.run.states.items c.args.run.states.items _ _ refl (omega arith);
        stopped = tt;
        stop_counts = tt;
        stop_keeps = tt;
        stores = tt;
      };
      lends = record { few = omega arith; rises = inl (omega arith) };
    }

pub lend_all-requires-clause-none_seated : goal.lend_all-requires-clause-none_seated
lend_all-requires-clause-none_seated g c κs within = λ t m at.
    is_none m.seat (c.args.run.machine.away.each t m
    (subst (λ (ms : List (Mutator (Worker g.row.D-Reader.Denot))). slice_get ms t ≡ Some m)
    c.as_mut_slice-ms.ensures.value at)).no_seat

-- the space shows what it showed
lent_shown : (g : Over) (c : After-lend_all g)
    → shown_by g.D.StaleDisk.image c.lend_all.new.space ≡ shown_by g.D.StaleDisk.image c.args.space.now
lent_shown g c =
    shown_is (shown_by g.D.StaleDisk.image c.lend_all.new.space) (shown_by g.D.StaleDisk.image c.args.space.now)
    c.lend_all.ensures.end c.lend_all.ensures.limit c.lend_all.ensures.image

-- there is one mutator for each thread
as_many : (g : Over) (c : After-lend_all g) → length c.args.run.states.items ≡ length c.as_mut_slice-ms.result.now
as_many g c =
    let many : length c.args.run.states.items ≡ length c.args.run.machine.registers.items =
    begins_many (shown_by g.D.StaleDisk.image c.args.space.now) c.args.first (row_of parallel_view c.args.run)
    c.requires.may in
    many ∙ (sym c.args.run.machine.away.count ∙ sym (ap length c.as_mut_slice-ms.ensures.value))

-- and each was lent one reader
lent : (g : Over) (c : After-lend_all g)
    → LendsAtMost (length c.args.run.states.items) (g.D.StaleDisk.lends c.args.space.now.disk.now)
    (g.D.StaleDisk.lends c.lend_all.new.space.disk.now)
lent g c =
    subst (λ (n : ℕ). LendsAtMost n (g.D.StaleDisk.lends c.args.space.now.disk.now)
    (g.D.StaleDisk.lends c.lend_all.new.space.disk.now)) (sym (as_many g c)) c.lend_all.ensures.lends

pub returns-in-Err-NoMemory-clause-lends : goal.returns-in-Err-NoMemory-clause-lends
returns-in-Err-NoMemory-clause-lends g c =
    lent g (goal.at.returns-in-Err-NoMemory-clause-lends g c).After-lend_all

pub returns-in-Err-Failed-clause-lends : goal.returns-in-Err-Failed-clause-lends
returns-in-Err-Failed-clause-lends g c =
    lent g (goal.at.returns-in-Err-Failed-clause-lends g c).After-lend_all

pub returns-in-Err-Failed-clause-so : goal.returns-in-Err-Failed-clause-so
returns-in-Err-Failed-clause-so g c =
    let at = (goal.at.returns-in-Err-Failed-clause-so g c).After-lend_all in
    let states = c.args.run.states.items in
    let ended = c.halt_run-ended.result in
    record {
      ends = tt;
      shown = lent_shown g at;
      same_disk = c.lend_all.ensures.same_disk;
      writes = c.lend_all.ensures.writes;
      count = c.lend_all.ensures.count;
      lost = tt;
      stopped = λ told script config before.
          stands_failed (shown_by g.D.StaleDisk.image c.lend_all.new.space) before.0.1 before.1
          (c.left_of-left.ensures.heap, c.left_of-left.ensures.history) (record {
            left_is = c.halt_run-ended.ensures.left;
            states = c.halt_run-ended.ensures.states;
            journal = ap (λ (v : Vec Journal Global). v.items) c.halt_run-ended.ensures.journal;
            halt_is = c.halt_run-ended.ensures.halt;
          });
      stop_counts = (
        λ is. c.lend_all.ensures.failed (c.in-Err-Failed.is ∙ ap Err c.in-Err-Failed.field-0-is),
        subst (CountsLosses states ended.states.items _) (sym c.lend_all.ensures.read_faults)
            (halted_losses states ended.states.items _ c.halt_run-ended.ensures.states),
      );
      stop_keeps = ap (λ (v : Vec Journal Global). v.items) c.halt_run-ended.ensures.journal;
      stores = ap (λ (l : Left). l.log) c.halt_run-ended.ensures.left
          ∙ (c.left_of-left.ensures.log ∙ c.args.run.machine.none_stored);
    }

pub go_through-requires-clause-as_many : goal.go_through-requires-clause-as_many
go_through-requires-clause-as_many g c κs within =
    as_many g (goal.at.go_through-requires-clause-as_many g c).After-lend_all ∙ sym c.lend_all.auto.mutators

-- the run may go through an epoch still
may_still : (g : Over) (c : After-lend_all g)
    → SomeMayRun (shown_by g.D.StaleDisk.image c.lend_all.new.space) c.args.first (row_of parallel_view c.args.run)
may_still g c =
    subst (λ (shown : Shown). SomeMayRun shown c.args.first (row_of parallel_view c.args.run)) (sym (lent_shown g c))
    c.requires.may

may_then : (g : Over) (c : After-lend_all g)
    → SomeMayRun (shown_by g.D.StaleDisk.image c.lend_all.new.space) c.args.first
    (machine_row c.args.run.machine.heap c.args.run.machine.pass c.as_mut_slice-held.result.now c.args.run.states.items
    c.args.run.collector c.args.run.words c.args.run.every c.args.run.told)
may_then g c =
    subst (λ (rs : List Registers). SomeMayRun (shown_by g.D.StaleDisk.image c.lend_all.new.space) c.args.first
    (machine_row c.args.run.machine.heap c.args.run.machine.pass rs c.args.run.states.items c.args.run.collector
    c.args.run.words c.args.run.every c.args.run.told)) (sym c.as_mut_slice-held.ensures.value) (may_still g c)

pub go_through-requires-clause-may : goal.go_through-requires-clause-may
go_through-requires-clause-may g c κs within = (
  c.args.run.collector,
  c.args.run.words,
  may_then g (goal.at.go_through-requires-clause-may g c).After-lend_all,
)

-- what the epoch left of the registers and of the mutators is theirs
registers_are : (g : Over) (c : In-Ok-go_through g)
    → (with_items c.args.run.machine.registers c.go_through.new.registers).items ≡ c.go_through.new.registers
registers_are g c = with_items_is c.args.run.machine.registers c.go_through.new.registers
    (c.go_through.auto.registers
    ∙ (ap length c.as_mut_slice-held.ensures.value ∙ sym c.args.run.machine.registers.ok.0))

mutators_are : (g : Over) (c : In-Ok-go_through g)
    → (with_items c.args.run.machine.mutators c.go_through.new.mutators).items ≡ c.go_through.new.mutators
mutators_are g c = with_items_is c.args.run.machine.mutators c.go_through.new.mutators
    (c.go_through.auto.mutators ∙ (c.lend_all.auto.mutators
    ∙ (ap length c.as_mut_slice-ms.ensures.value ∙ sym c.args.run.machine.mutators.ok.0)))

pub invariant_of-machine : goal.invariant_of-machine
invariant_of-machine g c =
    let at = (goal.at.invariant_of-machine g c).In-Ok-go_through in
    record {
      nameless = c.in-Ok-go_through.ensures.nameless;
      away = subst (λ (ms : List (Mutator (Worker g.row.D-Reader.Denot))).
          AreAway (parts_view c.in-Ok-go_through.paused.heap c.in-Ok-go_through.paused.pass
          (with_items c.args.run.machine.registers c.go_through.new.registers).items)
          (with_items c.args.run.machine.registers c.go_through.new.registers).items ms) (sym (mutators_are g at))
          (subst (λ (rs : List Registers). AreAway (parts_view c.in-Ok-go_through.paused.heap
          c.in-Ok-go_through.paused.pass rs)
          rs c.go_through.new.mutators) (sym (registers_are g at)) c.in-Ok-go_through.ensures.away);
      none_stored = c.args.run.machine.none_stored;
    }

pub returns-clause-so : goal.returns-clause-so
returns-clause-so g c =
    let p = goal.at.returns-clause-so g c in
    let old = c.args.run.machine in
    let heap = c.in-Ok-go_through.paused.heap in
    let pass = c.in-Ok-go_through.paused.pass in
    let rs : List Registers = c.go_through.new.registers in
    let states = c.args.run.states.items in
    let after = c.go_through.new.states.items in
    let first = c.args.first in
    let row : List Registers → Row = λ registers. machine_row old.heap old.pass registers states c.args.run.collector
    c.args.run.words c.args.run.every c.args.run.told in
    let later : List Registers → Row = λ registers. machine_row heap pass registers after c.args.run.collector
    c.args.run.words c.args.run.every c.in-Ok-go_through.paused.told in
    let lent : Shown = shown_by g.D.StaleDisk.image c.lend_all.new.space in
    let ends : EndsEpoch lent first (row c.as_mut_slice-held.result.now) (later rs) c.in-Ok-go_through.lacks =
    c.in-Ok-go_through.ensures.ends c.args.run.collector c.args.run.words (may_then g p.After-lend_all) in
    record {
      ends = subst (λ (shown : Shown). EndsEpoch shown first (row old.registers.items)
          (later (with_items old.registers rs).items) c.in-Ok-go_through.lacks) (lent_shown g p.After-lend_all)
          (subst (λ (xs : List Registers). EndsEpoch lent first (row old.registers.items) (later xs)
          c.in-Ok-go_through.lacks) (sym (registers_are g p.In-Ok-go_through))
          (subst (λ (xs : List Registers). EndsEpoch lent first (row xs) (later rs) c.in-Ok-go_through.lacks)
          c.as_mut_slice-held.ensures.value ends));
      shown = c.go_through.ensures.shown ∙ lent_shown g p.After-lend_all;
      same_disk = c.go_through.ensures.same_disk ∙ c.lend_all.ensures.same_disk;
      writes = c.go_through.ensures.writes ∙ c.lend_all.ensures.writes;
      count = omega (arith, c.go_through.ensures.count, c.lend_all.ensures.count);
      lost = subst (λ (n : ℕ). CountsLosses states after n (g.D.StaleDisk.read_faults c.go_through.new.space.disk.now))
          c.lend_all.ensures.read_faults
          c.in-Ok-go_through.ensures.lost;
      stopped = tt;
      stop_counts = tt;
      stop_keeps = tt;
      stores = tt;
    }

pub returns-in_default-clause-lends : goal.returns-in_default-clause-lends
returns-in_default-clause-lends g c =
    subst (LendsAtMost (length c.args.run.states.items) (g.D.StaleDisk.lends c.args.space.now.disk.now))
    (sym c.go_through.ensures.lends) (lent g (goal.at.returns-in_default-clause-lends g c).After-lend_all)

pub returns-clause-lends : goal.returns-clause-lends
returns-clause-lends g c =
    subst (LendsAtMost (length c.args.run.states.items) (g.D.StaleDisk.lends c.args.space.now.disk.now))
    (sym c.go_through.ensures.lends)
    (lent g (goal.at.returns-clause-lends g c).After-lend_all)
