-- What stood at the start of the epoch stands on, over the same words, and nothing or less is to do.
use Rattle.std.proofs.Common.{◌≡◌, ◌≤◌}
use Rattle.melt_core.specs.Views.{stores, view}
use Rattle.melt_safepoint.specs.Shown.{Shown}
use Rattle.melt_safepoint.specs.Losses.{CountsLosses}
use Rattle.melt_safepoint.specs.Epochs.{to_do}
use Rattle.melt_safepoint.specs.Rows.{row_of}
use Rattle.melt_step.specs.Going.{KeepsGoing, core_view}
use Rattle.melt_safepoint.specs.Tables.{KnowsStop, potential}
use Rattle.melt_step.proofs.epoch.give_events.Given as goal

abbrev pub decreases-loop-thread : goal.decreases-loop-thread
decreases-loop-thread g l = potential l.run.states.items (view l.run.machine.core).calls

abbrev pub invariant-loop-thread : goal.invariant-loop-thread
invariant-loop-thread g l = record {
  keeps : (shown : Shown) → shown.end ≡ l.fn.end → shown.image ≡ g.R.RecordReader.image l.fn.reader
      → KeepsGoing shown (row_of core_view l.fn.run) (row_of core_view l.run);
  stop : KnowsStop (view l.run.machine.core) l.run.states.items;
  collector : l.run.collector ≡ l.fn.run.collector;
  stored : stores (view l.run.machine.core) ≡ stores (view l.fn.run.machine.core);
  less : to_do l.run.states.items ≤ to_do l.fn.run.states.items;
  image : g.R.RecordReader.image l.reader ≡ g.R.RecordReader.image l.fn.reader;
  lost : CountsLosses l.fn.run.states.items l.run.states.items (g.R.RecordReader.faults l.fn.reader)
      (g.R.RecordReader.faults l.reader);
}
