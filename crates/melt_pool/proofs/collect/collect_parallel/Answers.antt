-- A heap and its registers are collected whatever stands beside them, and here that is what the machine shows.
use Rattle.std.proofs.Common.{◌≡◌, List, length, sym, ◌∙◌, ap}
use Rattle.std.proofs.lemmas.List.{with_items_is}
use Rattle.std.specs.Vec.{with_items}
use Rattle.melt_model.specs.declared.reports.Phase.{Phase}
use Rattle.melt_move.specs.Planned.{phase_done}
use Rattle.melt_scion.specs.declared.registers.Registers.{Registers}
use Rattle.melt_safepoint.specs.Collections.{CollectsCore}
use Rattle.melt_safepoint.specs.Shown.{Shown, shown_by}
use Rattle.melt_safepoint.proofs.Writes.{settled_heap}
use Rattle.melt_pool.specs.Machines.{parallel_view}
use Rattle.melt_pool.specs.Parts.{IsNameless, beside_of, parts_view}
use Rattle.melt_pool.proofs.Away.{away_collected, nameless_left, parts_collected, parts_full}
use Rattle.melt_pool.proofs.Names.{names_hold}
use Rattle.melt_pool.proofs.collect.collect_parallel.Given.{Over}
use Rattle.melt_pool.proofs.collect.collect_parallel.Goals as goal
use Rattle.melt_pool.proofs.collect.collect_parallel.Goals.{In-Ok}

pub collect_heap-requires-after_bounds : goal.collect_heap-requires-after_bounds
collect_heap-requires-after_bounds g c κs within = record {
  beside = beside_of c.args.machine.heap c.args.machine.pass c.args.machine.registers.items;
  held_is = sym c.deref_mut.ensures.value;
  names = names_hold c.args.machine.heap c.args.machine.nameless;
  may = c.requires.may;
}

-- the registers of the machine after the collection
abbrev after : (g : Over) (c : In-Ok g) → List Registers
after g c = (with_items c.args.machine.registers c.collect_heap.new.registers).items

returned : (g : Over) (c : In-Ok g) → after g c ≡ c.collect_heap.new.registers
returned g c = with_items_is c.args.machine.registers c.collect_heap.new.registers
    (c.collect_heap.auto.registers ∙ (ap length c.deref_mut.ensures.value ∙ sym c.args.machine.registers.ok.0))

left_so : (g : Over) (c : In-Ok g) → IsNameless c.in-Ok.heap
left_so g c = nameless_left c.args.machine.heap c.in-Ok.heap c.args.machine.nameless c.in-Ok.ensures.leaves

collects : (g : Over) (c : In-Ok g) → CollectsCore (phase_done c.args.force c.args.collector.now.plan.next)
    (shown_by g.D.StaleDisk.image c.args.space.now) (shown_by g.D.StaleDisk.image c.collect_heap.new.space)
    (parallel_view c.args.machine) (parts_view c.in-Ok.heap c.args.machine.pass (after g c)) c.args.collector.now
    c.collect_heap.new.collector
collects g c =
    parts_collected (phase_done c.args.force c.args.collector.now.plan.next)
    (shown_by g.D.StaleDisk.image c.args.space.now) (shown_by g.D.StaleDisk.image c.collect_heap.new.space)
    c.args.machine.pass c.args.collector.now c.collect_heap.new.collector c.deref_mut.ensures.value
    c.collect_heap.auto.registers (returned g c) c.args.machine.nameless (left_so g c) c.in-Ok.ensures.collected
    c.requires.may

pub invariant_of-result : goal.invariant_of-result
invariant_of-result g c =
    let same : length (after g c) ≡ length c.args.machine.registers.items =
    ap length (returned g c) ∙ (c.collect_heap.auto.registers ∙ ap length c.deref_mut.ensures.value) in
    record {
      nameless = left_so g c;
      away = away_collected (after g c) same c.requires.may (collects g c) c.args.machine.away;
      none_stored = c.args.machine.none_stored;
    }

pub returns-in-Ok : goal.returns-in-Ok
returns-in-Ok g c = let at = (goal.at.returns-in-Ok g c).In-Ok in record {
  so = record {
    collected = collects g at;
    refused = tt;
    stores = tt;
    journal_stays = tt;
    failed = λ left is. absurd (cc);
    same_disk = c.collect_heap.ensures.keeps.same_disk;
    count = c.collect_heap.ensures.keeps.count;
    read_faults = c.collect_heap.ensures.keeps.read_faults;
    lends = c.collect_heap.ensures.keeps.lends;
    wrote = c.in-Ok.ensures.wrote;
    refused_wrote = tt;
  };
}

pub returns-in-Err-DiskFull : goal.returns-in-Err-DiskFull
returns-in-Err-DiskFull g c =
    let phase : Phase = phase_done c.args.force c.args.collector.now.plan.next in
    let shown : Shown = shown_by g.D.StaleDisk.image c.args.space.now in
    let later : Shown = shown_by g.D.StaleDisk.image c.collect_heap.new.space in
    let refused = rw c.in-Err-DiskFull.field-0-is at c.in-Err-DiskFull.ensures.refused in
    let there = rw c.in-Err-DiskFull.field-0-is at c.left_of.ensures.heap in
    rw c.in-Err-DiskFull.field-0-is record {
      so = record {
        collected = tt;
        refused = parts_full phase shown later c.left_of.result c.in-Err-DiskFull.full c.deref_mut.ensures.value
            c.args.machine.nameless refused c.requires.may there c.left_of.ensures.history;
        stores = c.left_of.ensures.log ∙ c.args.machine.none_stored;
        journal_stays = c.in-Err-DiskFull.ensures.journal_stays;
        failed = λ left is. absurd (cc);
        same_disk = c.collect_heap.ensures.keeps.same_disk;
        count = c.collect_heap.ensures.keeps.count;
        read_faults = c.collect_heap.ensures.keeps.read_faults;
        lends = c.collect_heap.ensures.keeps.lends;
        wrote = tt;
        refused_wrote = settled_heap c.left_of.result _ _ there (rw c.in-Err-DiskFull.field-0-is at c.in-Err-DiskFull.ensures.refused_wrote);
      };
    }
