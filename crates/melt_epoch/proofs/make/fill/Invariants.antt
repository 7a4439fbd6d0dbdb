use Rattle.melt_rule.specs.Seats.{IsSeat, knows_of}
use Rattle.melt_epoch.specs.Calls.{FillsRegion}
use Rattle.melt_epoch.proofs.make.fill.Given as goal

abbrev pub invariant-loop-k : goal.invariant-loop-k
invariant-loop-k l = record {
  seat : IsSeat l.words l.seat;
  fills : FillsRegion (knows_of l.fn.seat) (knows_of l.seat) l.address l.k;
}
