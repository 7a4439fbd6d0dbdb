use Rattle.std.proofs.Common.{◌≡◌}
use Rattle.melt_disk.proofs.Needs.{need_below}
use Rattle.melt_disk.proofs.space.StaleSpace.need.Given as goal

abbrev pub invariant-loop-cost : goal.invariant-loop-cost
invariant-loop-cost g l = l.need ≡ need_below l.counts l.cost
