use Rattle.melt_epoch.specs.Tests.{MayCall}
use Rattle.melt_bench.proofs.epoch.lists.make_list.Given as goal

abbrev pub invariant-loop-after : goal.invariant-loop-after
invariant-loop-after g l = MayCall (g.R.RecordReader.image) l.epoch.words l.m
