use Rattle.std.proofs.Common.{arith}
use Rattle.melt_safepoint.proofs.Halting.{halted_all}
use Rattle.melt_safepoint.proofs.thread.halt_all.Goals as goal

pub returns : goal.returns
returns c =
    halted_all c.args.states.now c.loop-state.states c.loop-state.state-index c.loop-state.invariant
    (omega (arith, c.loop-state-test.false, c.loop-state.auto.states, c.loop-state.auto.state-index-end))
