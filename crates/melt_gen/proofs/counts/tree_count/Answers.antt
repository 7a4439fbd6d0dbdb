use Rattle.std.proofs.Common.{◌≡◌, ℕ, length, ap, arith}
use Rattle.melt_gen.specs.declared.workload.Workload.TheVariants as workload
use Rattle.melt_gen.specs.Workloads.{rounds, round_of}
use Rattle.melt_gen.proofs.Lengths.{length-next_round, length-tree}
use Rattle.melt_gen.proofs.counts.tree_count.Goals as goal

pub loop-k-preserved : goal.loop-k-preserved
loop-k-preserved c = record {
  count = λ t draw. omega (
    arith,
    length-next_round (round_of workload.Tree t draw) c.loop-k.k,
    c.loop-k.invariant.count t draw,
    c.object_count-count.ensures.value t (draw c.loop-k.k),
  );
  within = omega (arith, c.loop-k.invariant.within, c.object_count-count.ensures.within);
}

pub returns-clause-value : goal.returns-clause-value
returns-clause-value c = λ t draw.
    let all : c.loop-k.k ≡ c.args.size = omega arith in
    omega (
      arith,
      c.loop-k.invariant.count t draw,
      ap
          (λ (n : ℕ). length (rounds (round_of workload.Tree t draw) n)) all,
      length-tree t draw c.args.size,
    )
