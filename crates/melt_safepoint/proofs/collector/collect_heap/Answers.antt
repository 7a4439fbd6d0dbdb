-- What was planned for the heap and the registers was made of them, whatever stands beside the heap.
use Rattle.std.proofs.Common.{sym, ◌∙◌}
use Rattle.melt_safepoint.specs.Shown.{shown_by}
use Rattle.melt_safepoint.proofs.Gathering.{collects_heap, leaves_planned, may_formed, when_pushed}
use Rattle.melt_safepoint.proofs.Refused.{full_wrote, is_full}
use Rattle.melt_safepoint.proofs.Writes.{wrote_one}
use Rattle.melt_safepoint.proofs.collector.collect_heap.Goals as goal

pub collect_uncounted-requires-clause-formed : goal.collect_uncounted-requires-clause-formed
collect_uncounted-requires-clause-formed g c κs within =
    may_formed c.args.space.now.end c.args.heap c.args.registers.now c.requires

pub returns-in-Ok-clause-collected : goal.returns-in-Ok-clause-collected
returns-in-Ok-clause-collected g c =
    collects_heap (shown_by g.D.StaleDisk.image c.args.space.now)
    (shown_by g.D.StaleDisk.image c.collect_uncounted.new.space) c.args.collector.now
    (record { journal = c.push.new.self; plan = c.collect_uncounted.new.plan }) c.in-Ok.ensures.collects (record {
      threads = c.collect_uncounted.auto.registers;
      before = c.in-Ok.ensures.before;
      after = c.in-Ok.ensures.after;
    }) c.in-Ok.ensures.fits c.in-Ok.ensures.keeps.limit c.in-Ok.ensures.keeps.tells
    (when_pushed c.push.result c.push.new.self.items c.args.collector.now.journal.items _
    (sym c.is_err.ensures.value ∙ c.if-is_err.false) c.push.ensures.items) c.in-Ok.ensures.plans

pub returns-in-Ok-clause-planned : goal.returns-in-Ok-clause-planned
returns-in-Ok-clause-planned g c = record {
  entry = c.in-Ok.journal;
  journal = when_pushed c.push.result c.push.new.self.items c.args.collector.now.journal.items _
      (sym c.is_err.ensures.value ∙ c.if-is_err.false) c.push.ensures.items;
  is_of = c.in-Ok.ensures.collects;
}

pub returns-in-Ok-clause-wrote : goal.returns-in-Ok-clause-wrote
returns-in-Ok-clause-wrote g c =
    wrote_one _ c.push.new.self.items c.in-Ok.journal _ _
    (when_pushed c.push.result c.push.new.self.items c.args.collector.now.journal.items _
    (sym c.is_err.ensures.value ∙ c.if-is_err.false) c.push.ensures.items) c.in-Ok.ensures.writes

pub returns-in-Ok-clause-leaves : goal.returns-in-Ok-clause-leaves
returns-in-Ok-clause-leaves g c =
    leaves_planned (shown_by g.D.StaleDisk.image c.args.space.now)
    (shown_by g.D.StaleDisk.image c.collect_uncounted.new.space) c.requires c.in-Ok.ensures.collects

pub returns-in-Err-DiskFull-clause-refused : goal.returns-in-Err-DiskFull-clause-refused
returns-in-Err-DiskFull-clause-refused g c =
    let refused = rw c.in-Err-DiskFull.field-0-is at c.in-Err-DiskFull.ensures.refused in
    is_full refused c.in-Err-DiskFull.ensures.keeps.limit c.in-Err-DiskFull.ensures.keeps.tells

pub returns-in-Err-DiskFull-clause-refused_wrote : goal.returns-in-Err-DiskFull-clause-refused_wrote
returns-in-Err-DiskFull-clause-refused_wrote g c =
    let refused = rw c.in-Err-DiskFull.field-0-is at c.in-Err-DiskFull.ensures.refused in
    full_wrote refused
