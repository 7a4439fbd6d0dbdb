use Rattle.std.proofs.Common.{◌≡◌, ◌+◌, ◌-◌, ◌≤◌}
use Rattle.melt_rule.specs.Seats.{IsSeat, knows_of}
use Rattle.melt_rule.specs.declared.view.Doing.TheVariants.{Searching}
use Rattle.std.specs.Prelude.{Some}
use Rattle.melt_epoch.proofs.Toward.{Toward}
use Rattle.melt_epoch.specs.Bringing.{tried_to}
use Rattle.melt_epoch.proofs.bring.seek.Given as goal

abbrev pub invariant-loop-search : goal.invariant-loop-search
invariant-loop-search l = record {
  seat : IsSeat l.words l.seat;
  toward : Toward (knows_of l.initial.seat) (knows_of l.seat) 0 0 (l.search.tried - l.initial.search.tried);
  at : (knows_of l.seat).doing ≡ Some (Searching l.search);
  read : (knows_of l.initial.seat).steps + (l.search.tried - l.initial.search.tried) ≤ (knows_of l.seat).steps;
  from : l.initial.search.tried ≤ l.search.tried;
  search : l.search ≡ tried_to l.initial.search l.search.tried;
}

-- proposed from the loop's first test
abbrev pub decreases-loop-search : goal.decreases-loop-search
decreases-loop-search l = l.forwards - l.search.tried
