use Rattle.melt_epoch_tests.proofs.Untold.{begun_set}
use Rattle.melt_epoch_tests.proofs.scene.call_each.Goals as goal

pub loop-op-preserved : goal.loop-op-preserved
loop-op-preserved g c =
    begun_set (g.R.RecordReader.image) c.args.epoch.now.words c.loop-op.mutators c.args.thread c.call-result.new.m
    c.call-result.ensures.may c.loop-op.invariant
