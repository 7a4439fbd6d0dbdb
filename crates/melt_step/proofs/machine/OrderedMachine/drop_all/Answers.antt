use Rattle.std.specs.Prelude.{◌==◌}
use Rattle.melt_core.specs.Views.{view}
use Rattle.melt_step.proofs.Stored.{stored_dropped}
use Rattle.melt_step.proofs.machine.OrderedMachine.drop_all.Goals as goal

pub returns : goal.returns
returns g c = record {
  dropped = stored_dropped (g.row.STORED == 1) (view c.args.self.now.core) (view c.drop_all.new.self) c.args.thread
      c.requires.thread (c.requires.quiet c.args.thread) c.drop_all.ensures.only;
}
