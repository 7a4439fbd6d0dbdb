use Rattle.std.proofs.Common.{inr}
use Rattle.melt_core.specs.Views.{view}
use Rattle.melt_core.proofs.Recorded.{after_ok, after_err}
use Rattle.melt_core.proofs.machine.Core.decode_stage.Goals as goal

pub returns-clause-stage : goal.returns-clause-stage
returns-clause-stage c =
    after_ok (view c.args.self.now) c.args.search c.stage_after.result c.in_ok-head.ensures.ok
    c.stage_after.ensures.stage

pub returns-clause-damage : goal.returns-clause-damage
returns-clause-damage c =
    after_err c.stage_after.result (λ damaged. inr)
    (c.stage_after.ensures.damage c.args.end _ _ c.in_ok-head.ensures.ok)
