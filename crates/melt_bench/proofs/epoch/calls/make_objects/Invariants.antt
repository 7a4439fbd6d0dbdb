use Rattle.melt_epoch_tests.specs.Scenes.{GoesOnScene}
use Rattle.melt_bench.proofs.epoch.calls.make_objects.Given as goal

abbrev pub invariant-loop-thread : goal.invariant-loop-thread
invariant-loop-thread g l =
    GoesOnScene (g.R.RecordReader.image) l.scene.epoch l.scene.mutators l.scene.globals l.scene.disk.end
