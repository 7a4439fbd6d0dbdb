-- The call goes on from the beginning, and each event has fewer after it.
use Rattle.std.proofs.Common.{◌≡◌, ◌≤◌}
use Rattle.std.specs.Prelude.{Bool}
use Rattle.melt_scion.specs.Heaps.{OnDisk}
use Rattle.melt_core.specs.Views.{Standing, call_of, stage_in, view}
use Rattle.melt_core.specs.Stages.{events_left}
use Rattle.melt_safepoint.specs.Shown.{Underlies}
use Rattle.melt_safepoint.specs.Threads.{most_forwards}
use Rattle.melt_step.specs.Made.{MakesInUse}
use Rattle.melt_step.specs.Tied.{KeepsTied}
use Rattle.melt_step.proofs.LoneCalls.{OnCall}
use Rattle.melt_step.proofs.alone.call_alone.Given as goal

abbrev pub invariant-loop-reply : goal.invariant-loop-reply
invariant-loop-reply g l = record {
  on : OnCall (view l.initial.core) (view l.core) l.thread l.op;
  stands : (told : Bool) (disk : OnDisk) → Underlies told l.end (g.R.RecordReader.image l.initial.reader) disk
      → Standing told disk (view l.initial.core) → Standing told disk (view l.core);
  makes : MakesInUse l.end (g.R.RecordReader.image l.initial.reader) (view l.initial.core) (view l.core);
  ties : KeepsTied l.end (g.R.RecordReader.image l.initial.reader) (view l.initial.core) (view l.core) l.thread;
  state : l.state ≡ l.initial.state;
  image : g.R.RecordReader.image l.reader ≡ g.R.RecordReader.image l.initial.reader;
  faults : g.R.RecordReader.faults l.initial.reader ≤ g.R.RecordReader.faults l.reader;
}

abbrev pub decreases-loop-reply : goal.decreases-loop-reply
decreases-loop-reply g l = events_left most_forwards (stage_in (call_of (view l.core) l.thread))
