-- The threads before this one are halted.
use Rattle.melt_safepoint.proofs.Halting.{HaltedBelow}
use Rattle.melt_safepoint.proofs.thread.halt_all.Given as goal

abbrev pub invariant-loop-state : goal.invariant-loop-state
invariant-loop-state l = HaltedBelow l.fn.states l.states l.state-index
