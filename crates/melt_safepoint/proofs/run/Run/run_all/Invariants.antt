-- What stood at the start stands on after each epoch, and less is to do each time.
use Rattle.std.proofs.Common.{◌≡◌, ◌≤◌, ℕ, length}
use Rattle.melt_safepoint.specs.Engines.{LendsEach}
use Rattle.melt_safepoint.specs.Epochs.{RestsWell, to_do}
use Rattle.melt_safepoint.specs.Lends.{LendsTwice}
use Rattle.melt_safepoint.specs.Losses.{CountsLosses}
use Rattle.melt_safepoint.specs.Rows.{KeepsRun, journal_of, row_of}
use Rattle.melt_safepoint.specs.Threads.{AllEnded}
use Rattle.melt_safepoint.specs.Writes.{WroteSince}
use Rattle.melt_safepoint.proofs.run.Run.run_all.Given as goal

abbrev pub decreases-loop-alloc : goal.decreases-loop-alloc
decreases-loop-alloc g l = to_do l.run.states.items

abbrev pub invariant-loop-alloc : goal.invariant-loop-alloc
invariant-loop-alloc g l = record {
  keeps : KeepsRun (g.S.DiskSpace.sees.shown l.fn.space) (g.S.DiskSpace.sees.shown l.space) (row_of g.E.Machine.view
      l.fn.self)
      (row_of g.E.Machine.view l.run);
  rests : RestsWell l.run.states.items;
  lost : CountsLosses l.fn.self.states.items l.run.states.items (g.S.DiskSpace.sees.read_faults l.fn.space)
      (g.S.DiskSpace.sees.read_faults l.space);
  wrote : WroteSince (journal_of (row_of g.E.Machine.view l.fn.self)) (journal_of (row_of g.E.Machine.view l.run))
      (g.S.DiskSpace.sees.writes l.fn.space) (g.S.DiskSpace.sees.writes l.space);
  lends : (readers : ℕ → ℕ)
      → LendsEach g.C.Fn g.F.Fn g.E.Machine.view g.E.Machine.stored g.S.DiskSpace.sees l.fn.engine readers
      → LendsTwice (readers (length l.fn.self.states.items)) 1 (g.S.DiskSpace.sees.lends l.fn.space) (g.S.DiskSpace.sees.lends l.space)
      (journal_of (row_of g.E.Machine.view l.fn.self)) (journal_of (row_of g.E.Machine.view l.run));
  idle : AllEnded l.fn.self.states.items → AllEnded l.run.states.items
      × (g.S.DiskSpace.sees.lends l.space ≡ g.S.DiskSpace.sees.lends l.fn.space);
  count : g.S.DiskSpace.sees.faults l.fn.space ≤ g.S.DiskSpace.sees.faults l.space;
  same_disk : g.S.DiskSpace.sees.name l.space ≡ g.S.DiskSpace.sees.name l.fn.space;
}
