use Rattle.std.proofs.Common.{◌+◌, ◌*◌, slice_index, ◌∙◌, ap, sym, arith}
use Rattle.melt_disk.proofs.Needs.{need_below-all, need_below-le, need_below-more}
use Rattle.melt_disk.proofs.space.StaleSpace.need.Goals as goal

pub overflow_mul-need : goal.overflow_mul-need
overflow_mul-need g c =
    omega (arith, need_below-le c.args.counts.now c.loop-cost.cost (omega arith), c.requires)

pub overflow_add-need : goal.overflow_add-need
overflow_add-need g c =
    omega (arith, need_below-le c.args.counts.now c.loop-cost.cost (omega arith), c.loop-cost.invariant, c.requires)

pub loop-cost-preserved : goal.loop-cost-preserved
loop-cost-preserved g c =
    ap (λ n. n + c.loop-cost.cost * slice_index c.args.counts.now c.loop-cost.cost) c.loop-cost.invariant
    ∙ sym (need_below-more c.args.counts.now c.loop-cost.cost (omega arith))

pub returns : goal.returns
returns g c = c.loop-cost.invariant ∙ need_below-all c.args.counts.now c.loop-cost.cost (omega arith)
