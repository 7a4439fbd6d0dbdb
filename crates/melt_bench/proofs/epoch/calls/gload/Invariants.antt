use Rattle.melt_epoch.specs.Tests.{MayCall}
use Rattle.melt_bench.proofs.epoch.calls.gload.Given as goal

abbrev pub invariant-loop : goal.invariant-loop
invariant-loop g l = MayCall (g.R.RecordReader.image) l.epoch.words l.m
