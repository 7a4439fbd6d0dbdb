-- Each round takes a line.
use Rattle.std.proofs.Common.{◌-◌, length}
use Rattle.melt_step.proofs.Turning.{Dropping}
use Rattle.melt_step.proofs.turns.Turns.by_line.Given as goal

abbrev pub invariant-loop-self : goal.invariant-loop-self
invariant-loop-self l = Dropping l.trace.orders l.states l.fn.self l.self

abbrev pub decreases-loop-self : goal.decreases-loop-self
decreases-loop-self l = length l.trace.orders - l.self.line
