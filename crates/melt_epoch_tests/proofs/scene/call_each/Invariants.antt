use Rattle.melt_epoch.specs.Tests.{HasBegun}
use Rattle.melt_epoch_tests.proofs.scene.call_each.Given as goal

abbrev pub invariant-loop-op : goal.invariant-loop-op
invariant-loop-op g l = HasBegun (g.R.RecordReader.image) l.epoch.words l.mutators
