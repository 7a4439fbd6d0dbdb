use Rattle.melt_safepoint.proofs.Reporting.{NewSoFar}
use Rattle.melt_safepoint.proofs.thread.new_states.Given as goal

abbrev pub invariant-loop-t : goal.invariant-loop-t
invariant-loop-t l = NewSoFar l.trace l.t l.states.items l.entries
