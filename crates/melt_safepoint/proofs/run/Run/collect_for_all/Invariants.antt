-- The threads before this one have their collections, and the run stands.
use Rattle.std.proofs.Common.{◌≡◌, ◌≤◌}
use Rattle.melt_safepoint.specs.Losses.{losses}
use Rattle.melt_safepoint.proofs.Passing.{CollectedBelow}
use Rattle.melt_safepoint.specs.Rows.{KeepsRest, journal_of, row_of}
use Rattle.melt_safepoint.specs.Writes.{WroteSince}
use Rattle.melt_safepoint.proofs.OwnCollections.{MadeBelow}
use Rattle.melt_safepoint.proofs.run.Run.collect_for_all.Given as goal

abbrev pub invariant-loop-t : goal.invariant-loop-t
invariant-loop-t g l = record {
  keeps : KeepsRest (g.S.DiskSpace.sees.shown l.fn.space) (g.S.DiskSpace.sees.shown l.space) (row_of g.E.Machine.view
      l.fn.self)
      (row_of g.E.Machine.view l.run);
  below : CollectedBelow l.fn.self.states.items l.run.states.items l.t;
  made : MadeBelow (g.S.DiskSpace.sees.shown l.fn.space) (row_of g.E.Machine.view l.fn.self)
      (row_of g.E.Machine.view l.run) l.t;
  lost : losses l.run.states.items ≡ losses l.fn.self.states.items;
  count : g.S.DiskSpace.sees.faults l.fn.space ≤ g.S.DiskSpace.sees.faults l.space;
  same_disk : g.S.DiskSpace.sees.name l.space ≡ g.S.DiskSpace.sees.name l.fn.space;
  wrote : WroteSince (journal_of (row_of g.E.Machine.view l.fn.self)) (journal_of (row_of g.E.Machine.view l.run))
      (g.S.DiskSpace.sees.writes l.fn.space) (g.S.DiskSpace.sees.writes l.space);
  lends : g.S.DiskSpace.sees.lends l.space ≡ g.S.DiskSpace.sees.lends l.fn.space;
  read_faults : g.S.DiskSpace.sees.read_faults l.space ≡ g.S.DiskSpace.sees.read_faults l.fn.space;
}
