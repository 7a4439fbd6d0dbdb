use Rattle.melt_core.specs.Views.{view}
use Rattle.melt_core.proofs.Resting.{dropped}
use Rattle.melt_core.proofs.machine.Core.drop_all.Goals as goal

pub returns : goal.returns
returns c = dropped (view c.args.self.now) c.args.thread c.requires.thread c.requires.no_call
