-- The registers that were lent are those of the rest, before the collection and after it.
use Rattle.std.proofs.Common.{◌≡◌, Bool, sym, ◌∙◌, ap, subst}
use Rattle.std.specs.Option.{is_some}
use Rattle.melt_model.specs.declared.reports.Phase.{Phase}
use Rattle.melt_move.specs.Planned.{phase_done}
use Rattle.melt_core.specs.Epochs.{core_of}
use Rattle.melt_core.specs.Views.{history_in, stores, view}
use Rattle.melt_core.proofs.Naming.{stores_is}
use Rattle.melt_core.specs.Lending.{with_held}
use Rattle.melt_core.specs.declared.machine.Core.{Core}
use Rattle.melt_safepoint.specs.Collections.{CollectsCore}
use Rattle.melt_safepoint.specs.Shown.{Shown, shown_by}
use Rattle.melt_safepoint.proofs.Writes.{settled_heap}
use Rattle.melt_step.proofs.Resting.{lent_collects, lent_full, may_lend}
use Rattle.melt_step.proofs.Resting.{kept_still}
use Rattle.melt_step.proofs.Stored.{names_as}
use Rattle.melt_step.proofs.collector.collect_core.Given.{Over}
use Rattle.melt_step.proofs.collector.collect_core.Goals as goal
use Rattle.melt_step.proofs.collector.collect_core.Goals.{After-finish-heap}

-- the heap keeps names as the history is stored
kept : (g : Over) (c : After-finish-heap g) → is_some c.finish-heap.result.0.names ≡ c.args.stored
kept g c = names_as (view c.args.core) c.finish-heap.result.0 c.finish-heap.result.1 c.finish-heap.ensures.finished
    c.requires.stored

pub collect_heap-requires-after_bounds : goal.collect_heap-requires-after_bounds
collect_heap-requires-after_bounds g c κs within =
    may_lend (view c.args.core) c.finish-heap.result.0 c.finish-heap.result.1
    (shown_by g.D.StaleDisk.image c.args.space.now) c.finish-heap.ensures.rests c.finish-heap.ensures.finished
    c.finish-heap.ensures.within c.requires.may
    c.registers-registers.result.now c.registers-registers.ensures.value

pub returns-in-Ok-clause-collected : goal.returns-in-Ok-clause-collected
returns-in-Ok-clause-collected g c =
    let phase : Phase = phase_done c.args.force c.args.collector.now.plan.next in
    let shown : Shown = shown_by g.D.StaleDisk.image c.args.space.now in
    let later : Shown = shown_by g.D.StaleDisk.image c.collect_heap.new.space in
    subst (λ (core : Core). CollectsCore phase shown later (view c.args.core) (view core) c.args.collector.now
    c.collect_heap.new.collector) (sym c.begin.ensures)
    (lent_collects (view c.args.core) c.finish-heap.result.0 c.finish-heap.result.1 shown c.finish-heap.ensures.rests
    c.finish-heap.ensures.finished c.finish-heap.ensures.within c.requires.may phase later c.collect_heap.new.registers c.args.collector.now
    c.collect_heap.new.collector c.registers-registers.ensures.value c.collect_heap.auto.registers
    c.in-Ok.ensures.collected c.in-Ok.ensures.leaves)

pub returns-in-Err-DiskFull-clause-refused : goal.returns-in-Err-DiskFull-clause-refused
returns-in-Err-DiskFull-clause-refused g c =
    let refused = rw c.in-Err-DiskFull.field-0-is at c.in-Err-DiskFull.ensures.refused in
    lent_full (view c.args.core) c.finish-heap.result.0 c.finish-heap.result.1
    (shown_by g.D.StaleDisk.image c.args.space.now) c.finish-heap.ensures.rests c.finish-heap.ensures.finished
    c.finish-heap.ensures.within c.requires.may
    (phase_done c.args.force c.args.collector.now.plan.next) (shown_by g.D.StaleDisk.image c.collect_heap.new.space)
    c.in-Err-DiskFull.heap c.registers-registers.result.now c.left_of.result c.in-Err-DiskFull.full
    c.registers-registers.ensures.value refused c.left_of.ensures.heap
    (c.left_of.ensures.history
    ∙ ap (λ (stored : Bool). history_in stored c.finish-heap.result.1)
    (sym (kept g (goal.at.returns-in-Err-DiskFull-clause-refused g c).After-finish-heap)))

pub returns-in-Ok-clause-stored : goal.returns-in-Ok-clause-stored
returns-in-Ok-clause-stored g c =
    let at = (goal.at.returns-in-Ok-clause-stored g c).After-finish-heap in
    subst (λ (core : Core). stores (view core) ≡ c.args.stored) (sym c.begin.ensures)
    (stores_is (core_of c.in-Ok.heap (with_held c.finish-heap.result.1 c.collect_heap.new.registers))
    ∙ (kept_still c.finish-heap.result.0.names c.in-Ok.heap.names c.in-Ok.ensures.leaves.keeps_names
    ∙ kept g at))

pub returns-in-Err-DiskFull-clause-refused_wrote : goal.returns-in-Err-DiskFull-clause-refused_wrote
returns-in-Err-DiskFull-clause-refused_wrote g c =
    settled_heap c.left_of.result _ _ c.left_of.ensures.heap (rw c.in-Err-DiskFull.field-0-is at c.in-Err-DiskFull.ensures.refused_wrote)
