use Rattle.std.proofs.Common.{◌≡◌, ◌*◌, ◌≤◌}
use Rattle.melt_trace.specs.Language.{operation_count}
use Rattle.melt_gen.specs.Workloads.{programs_of}
use Rattle.melt_gen.proofs.counts.total_count.Given as goal

abbrev pub invariant-loop-thread : goal.invariant-loop-thread
invariant-loop-thread l = record {
  total : l.total ≡ operation_count (programs_of l.kind l.seed l.size l.thread);
  within : l.total ≤ l.thread * 3400018;
}
