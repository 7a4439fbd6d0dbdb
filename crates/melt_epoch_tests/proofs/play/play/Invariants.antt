use Rattle.melt_epoch.specs.Tests.{MayCall}
use Rattle.melt_epoch_tests.proofs.play.play.Given as goal

abbrev pub invariant-loop-step : goal.invariant-loop-step
invariant-loop-step g l = MayCall (g.R.RecordReader.image) l.epoch.words l.m
