use Rattle.std.proofs.Common.{◌≡◌}
use Rattle.melt_gen.specs.Workloads.{programs_of}
use Rattle.melt_gen.proofs.making.programs.Given as goal

abbrev pub invariant-loop-thread : goal.invariant-loop-thread
invariant-loop-thread l = l.programs.items ≡ programs_of l.kind l.seed l.size l.thread
