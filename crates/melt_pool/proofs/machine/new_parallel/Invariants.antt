use Rattle.melt_pool.proofs.NewMutators.{NewUpTo}
use Rattle.melt_pool.proofs.machine.new_parallel.Given as goal

abbrev pub invariant-loop-t : goal.invariant-loop-t
invariant-loop-t g l = NewUpTo l.t l.mutators.items
