-- What stood at the beginning stands on, over the same words, and nothing or less is to do. Core and state are taken out
-- of the run, which has them back after the loop.
use Rattle.std.proofs.Common.{◌≡◌, ◌≤◌, ℕ, List}
use Rattle.std.specs.Prelude.{IfSome, slice_set}
use Rattle.melt_core.specs.Views.{View, stores, view}
use Rattle.melt_safepoint.specs.declared.run.Run.{Run}
use Rattle.melt_safepoint.specs.declared.thread.ThreadState.{ThreadState}
use Rattle.melt_safepoint.specs.Shown.{Shown}
use Rattle.melt_safepoint.specs.Losses.{CountsLosses}
use Rattle.melt_safepoint.specs.Epochs.{to_do}
use Rattle.melt_safepoint.specs.Rows.{Row, row_of}
use Rattle.melt_step.specs.Going.{IsNextCall, KeepsGoing, core_view}
use Rattle.melt_step.specs.declared.machine.Ordered.{Ordered}
use Rattle.melt_safepoint.specs.Tables.{KnowsStop, potential}
use Rattle.melt_step.proofs.epoch.give_all.Given as goal

-- the threads, of which one is in this state
abbrev pub states_at : {stored : ℕ} → Run (Ordered stored) → ℕ → ThreadState → List ThreadState
states_at run t s = slice_set run.states.items t s

-- the run, whose core is seen so
abbrev pub row_at : {stored : ℕ} → Run (Ordered stored) → ℕ → View → ThreadState → Row
row_at run t v s = record (row_of core_view run) { view = v; states = states_at run t s }

abbrev pub decreases-loop-core : goal.decreases-loop-core
decreases-loop-core g l = potential (states_at l.fn.run l.fn.thread l.state) (view l.core).calls

abbrev pub invariant-loop-core : goal.invariant-loop-core
invariant-loop-core g l = record {
  keeps : (shown : Shown) → shown.end ≡ l.fn.end → shown.image ≡ g.R.RecordReader.image l.fn.reader
      → KeepsGoing shown (row_of core_view l.fn.run) (row_at l.fn.run l.fn.thread (view l.core) l.state);
  next : IfSome l.next (λ op. IsNextCall (view l.core) l.fn.thread l.state op);
  stop : KnowsStop (view l.core) (states_at l.fn.run l.fn.thread l.state);
  stored : stores (view l.core) ≡ stores (view l.fn.run.machine.core);
  less : to_do (states_at l.fn.run l.fn.thread l.state) ≤ to_do l.fn.run.states.items;
  nearer : potential (states_at l.fn.run l.fn.thread l.state) (view l.core).calls
      ≤ potential l.fn.run.states.items (view l.fn.run.machine.core).calls;
  image : g.R.RecordReader.image l.reader ≡ g.R.RecordReader.image l.fn.reader;
  lost : CountsLosses l.fn.run.states.items (states_at l.fn.run l.fn.thread l.state)
      (g.R.RecordReader.faults l.fn.reader) (g.R.RecordReader.faults l.reader);
}
