use Rattle.std.proofs.Common.{◌<◌, ◌+◌, length, ap, arith}
use Rattle.melt_gen.specs.Workloads.{highest}
use Rattle.melt_gen.proofs.Branches.{highest_is, leaf_round}
use Rattle.melt_gen.proofs.Lengths.{length-leaf, some_place}
use Rattle.melt_gen.proofs.counts.object_count.Goals as goal

pub returns-else-k-eq0-clause-value : goal.returns-else-k-eq0-clause-value
returns-else-k-eq0-clause-value c = λ t w.
    let n = c.args.k + 1 in
    let some : 0 < c.args.k = omega arith in
    let top = highest_is n _ c.ilog2.ensures.bound c.ilog2.ensures.power_le c.ilog2.ensures.next_power_gt in
    let place = some_place n _ (omega arith) c.ilog2.ensures.next_power_gt in
    let below : 0 < highest n = omega (arith, top, place) in
    omega (arith, top, ap length (leaf_round t w c.args.k some), length-leaf t w n below)
