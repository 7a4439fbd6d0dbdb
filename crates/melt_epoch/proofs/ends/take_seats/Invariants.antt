use Rattle.std.proofs.Common.{◌≡◌, map, drop, take, ◌++◌}
use Rattle.melt_rule.specs.Seats.{MayGoOn, Sits, knows_of}
use Rattle.melt_epoch.specs.Ends.{unseated, view_of}
use Rattle.melt_epoch.specs.Gathering.{gathered, gathered_all}
use Rattle.melt_epoch.proofs.ends.take_seats.Given as goal

abbrev pub invariant-loop-k : goal.invariant-loop-k
invariant-loop-k g l = record {
  seat : Sits l.words l.seat;
  goes_on : MayGoOn (knows_of l.seat);
  gathers : gathered (knows_of l.seat) (drop l.k (map view_of l.fn.mutators))
      ≡ gathered_all (map view_of l.fn.mutators);
  left : l.mutators ≡ map unseated (take l.k l.fn.mutators) ++ drop l.k l.fn.mutators;
}
