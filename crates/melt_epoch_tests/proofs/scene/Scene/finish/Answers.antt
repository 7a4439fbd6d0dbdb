use Rattle.melt_epoch_tests.proofs.Untold.{ended_formed}
use Rattle.melt_epoch_tests.proofs.scene.Scene.finish.Goals as goal

pub returns : goal.returns
returns g c =
    ended_formed c.args.self.epoch.words.start.began c.args.self.mutators c.finish-heap.result.0 c.finish-heap.result.1
    c.args.self.disk.end c.finish-heap.ensures.ended c.requires.end_is c.requires.scions
