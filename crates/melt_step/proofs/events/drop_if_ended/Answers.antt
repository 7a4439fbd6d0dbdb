-- The registers were dropped exactly where the thread has ended.
use Rattle.melt_core.specs.Views.{view}
use Rattle.melt_step.proofs.Calling.{drops_none}
use Rattle.melt_step.proofs.events.drop_if_ended.Goals as goal

pub returns-in_default : goal.returns-in_default
returns-in_default c = drops_none (view c.args.core.now) c.args.thread c.args.mode c.in_default.not-Ended
