use Rattle.std.proofs.Common.{◌≡◌, ℕ, ◌+◌, ◌-◌, ◌*◌, length, ap, ◌∙◌, arith}
use Rattle.melt_gen.specs.declared.workload.Workload.TheVariants as workload
use Rattle.melt_gen.specs.Workloads.{drawn, state_after, rounds, round_of}
use Rattle.melt_gen.proofs.Lengths.{length-next_round, length-queue}
use Rattle.melt_gen.proofs.counts.queue_count.Goals as goal

pub loop-k-preserved : goal.loop-k-preserved
loop-k-preserved c =
    let k = c.loop-k.k in
    let front = c.front_count.ensures.value c.args.draws c.loop-k.invariant.draws in
    let back : k ≡ k + 1 - 1 = omega arith in
    record {
      draws = front.0 ∙ ap (state_after c.args.draws) back;
      count = λ t. omega (
        arith,
        length-next_round (round_of workload.Queue t (drawn c.args.draws)) k,
        c.loop-k.invariant.count t,
        front.1 (2 * t),
      );
      within = omega (arith, c.loop-k.invariant.within, c.front_count.ensures.within);
    }

pub returns-clause-value : goal.returns-clause-value
returns-clause-value c = λ t.
    let round = round_of workload.Queue t (drawn c.args.draws) in
    let all : c.loop-k.k ≡ c.args.size = omega arith in
    omega (
      arith,
      c.loop-k.invariant.count t,
      ap (λ (n : ℕ). length (rounds round n)) all,
      length-queue t
          (drawn c.args.draws) c.args.size,
    )
