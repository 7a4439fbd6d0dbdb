use Rattle.std.proofs.Common.{length, take, ◌-◌, ◌≤◌}
use Rattle.melt_io.specs.Outside.{Appends}
use Rattle.melt_io.proofs.whole.write_all.Given as goal

abbrev pub invariant-loop-at : goal.invariant-loop-at
invariant-loop-at g l = record {
  within : l.at ≤ length l.bytes;
  written : Appends (g.K.Sink.written l.initial.k) (take l.at l.bytes) (g.K.Sink.written l.k);
  count : g.K.Sink.faults l.initial.k ≤ g.K.Sink.faults l.k;
}

abbrev pub decreases-loop-at : goal.decreases-loop-at
decreases-loop-at g l = length l.bytes - l.at
