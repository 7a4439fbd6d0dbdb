-- The call lacked words still, after so many Moves that were forced in a row, and all threads are as they were.
use Rattle.std.proofs.Common.{◌≡◌, ◌-◌, ◌≤◌, ℕ}
use Rattle.std.specs.Prelude.{Bool, length}
use Rattle.melt_model.specs.declared.config.Config.{Config}
use Rattle.melt_trace.specs.Script.{Script}
use Rattle.melt_safepoint.specs.Engines.{LendsEach}
use Rattle.melt_safepoint.specs.Lends.{LendsFew}
use Rattle.melt_safepoint.specs.Losses.{CountsLosses}
use Rattle.melt_safepoint.specs.Rows.{LacksWords, journal_of, row_of}
use Rattle.melt_safepoint.specs.Writes.{WroteSince}
use Rattle.melt_safepoint.proofs.TwoMoves.{Moved}
use Rattle.melt_safepoint.proofs.run.Run.move_for.Given as goal

abbrev pub decreases-loop-forced : goal.decreases-loop-forced
decreases-loop-forced g l = 2 - l.forced

abbrev pub invariant-loop-forced : goal.invariant-loop-forced
invariant-loop-forced g l = record {
  few : l.forced ≤ 2;
  lacks : (told : Bool) (script : Script) (config : Config)
      → LacksWords told script config (g.S.DiskSpace.sees.shown l.fn.space) 0 (row_of g.E.Machine.view l.fn.self)
      l.fn.thread
      l.fn.need
      → LacksWords told script config (g.S.DiskSpace.sees.shown l.space) l.forced (row_of g.E.Machine.view l.run)
      l.fn.thread
      l.need;
  moved : (told : Bool) (script : Script) (config : Config)
      → LacksWords told script config (g.S.DiskSpace.sees.shown l.fn.space) 0 (row_of g.E.Machine.view l.fn.self)
      l.fn.thread
      l.fn.need
      → Moved told script config l.forced (row_of g.E.Machine.view l.fn.self) (row_of g.E.Machine.view l.run)
      l.fn.thread l.fn.need l.need;
  states : l.run.states.items ≡ l.fn.self.states.items;
  lost : CountsLosses l.fn.self.states.items l.run.states.items (g.S.DiskSpace.sees.read_faults l.fn.space)
      (g.S.DiskSpace.sees.read_faults l.space);
  wrote : WroteSince (journal_of (row_of g.E.Machine.view l.fn.self)) (journal_of (row_of g.E.Machine.view l.run))
      (g.S.DiskSpace.sees.writes l.fn.space) (g.S.DiskSpace.sees.writes l.space);
  lends : (readers : ℕ → ℕ)
      → LendsEach g.C.Fn g.F.Fn g.E.Machine.view g.E.Machine.stored g.S.DiskSpace.sees l.fn.engine readers
      → LendsFew (readers (length l.fn.self.states.items)) 0 (g.S.DiskSpace.sees.lends l.fn.space) (g.S.DiskSpace.sees.lends l.space)
      (journal_of (row_of g.E.Machine.view l.fn.self)) (journal_of (row_of g.E.Machine.view l.run));
  count : g.S.DiskSpace.sees.faults l.fn.space ≤ g.S.DiskSpace.sees.faults l.space;
  same_disk : g.S.DiskSpace.sees.name l.space ≡ g.S.DiskSpace.sees.name l.fn.space;
}
