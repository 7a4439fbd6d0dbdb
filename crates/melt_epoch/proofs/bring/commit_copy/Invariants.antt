use Rattle.std.proofs.Common.{◌≡◌, ◌+◌, ◌*◌, ◌-◌, ◌<◌, ◌≤◌, false}
use Rattle.std.specs.Prelude.{Some, if◌then◌else◌}
use Rattle.melt_rule.specs.Seats.{IsSeat, knows_of}
use Rattle.melt_epoch.proofs.Settling.{spent}
use Rattle.melt_epoch.proofs.Toward.{Toward}
use Rattle.melt_epoch.specs.Bringing.{at_hand, tried_to}
use Rattle.melt_epoch.proofs.bring.commit_copy.Given as goal

abbrev pub invariant-loop-activation : goal.invariant-loop-activation
invariant-loop-activation l = record {
  seat : IsSeat l.words l.seat;
  toward : Toward (knows_of l.initial.seat) (knows_of l.seat) 0 0
      (spent l.empty (l.activation.search.tried - l.initial.activation.search.tried));
  at : (knows_of l.seat).doing ≡ Some (at_hand l.empty l.activation);
  read : (knows_of l.initial.seat).steps + (l.activation.search.tried - l.initial.activation.search.tried)
      ≤ (knows_of l.seat).steps;
  from : l.initial.activation.search.tried ≤ l.activation.search.tried;
  more : l.empty ≡ false → l.initial.activation.search.tried < l.activation.search.tried;
  activation : l.activation ≡ record l.initial.activation {
    search = tried_to l.initial.activation.search l.activation.search.tried;
  };
}

-- an empty word is exchanged once
abbrev pub decreases-loop-activation : goal.decreases-loop-activation
decreases-loop-activation l = 2 * (l.forwards - l.activation.search.tried) + (if l.empty then 0 else 1)
