use Rattle.std.proofs.Common.{◌≡◌, ℕ, ◌-◌, ◌*◌, ◌≤◌, length}
use Rattle.melt_gen.specs.declared.workload.Workload.TheVariants as workload
use Rattle.melt_gen.specs.Workloads.{drawn, state_after, rounds, round_of}
use Rattle.melt_gen.proofs.counts.queue_count.Given as goal

abbrev pub invariant-loop-k : goal.invariant-loop-k
invariant-loop-k l = record {
  draws : l.draws ≡ state_after l.fn.draws (l.k - 1);
  count : (t : ℕ) → l.count ≡ length (rounds (round_of workload.Queue t (drawn l.fn.draws)) l.k);
  within : l.count ≤ 9 * l.k;
}
