use Rattle.melt_epoch.specs.Tests.{MayCall}
use Rattle.melt_bench.proofs.epoch.calls.put.Given as goal

abbrev pub invariant-loop-number : goal.invariant-loop-number
invariant-loop-number g l = MayCall (g.R.RecordReader.image) l.epoch.words l.m
