use Rattle.std.proofs.Common.{◌≡◌, ℕ, ◌*◌, ◌≤◌, length}
use Rattle.melt_gen.specs.declared.workload.Workload.TheVariants as workload
use Rattle.melt_gen.specs.Workloads.{rounds, round_of}
use Rattle.melt_gen.proofs.counts.tree_count.Given as goal

abbrev pub invariant-loop-k : goal.invariant-loop-k
invariant-loop-k l = record {
  count : (t : ℕ) (draw : ℕ → ℕ) → l.count ≡ length (rounds (round_of workload.Tree t draw) l.k);
  within : l.count ≤ 34 * l.k;
}
