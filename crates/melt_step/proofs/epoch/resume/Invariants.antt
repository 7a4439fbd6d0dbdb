-- The threads before this one make their calls again.
use Rattle.melt_safepoint.proofs.MakingAgain.{AgainBelow}
use Rattle.melt_step.proofs.epoch.resume.Given as goal

abbrev pub invariant-loop-state : goal.invariant-loop-state
invariant-loop-state g l = AgainBelow l.fn.run.states.items l.state-items l.state-index
