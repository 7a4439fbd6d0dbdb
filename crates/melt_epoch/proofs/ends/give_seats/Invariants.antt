use Rattle.std.proofs.Common.{◌≡◌, ◌≤◌, map}
use Rattle.std.specs.List.{AllWithin}
use Rattle.melt_rule.specs.Seats.{IsSeat, knows_of}
use Rattle.melt_epoch.proofs.Given.{giver_at}
use Rattle.melt_epoch.specs.Ends.{unseated}
use Rattle.melt_epoch.specs.Gathering.{IsGiven}
use Rattle.melt_epoch.proofs.ends.give_seats.Given as goal

abbrev pub invariant-loop-k : goal.invariant-loop-k
invariant-loop-k g l = record {
  seat : IsSeat l.words l.first;
  knows : knows_of l.first ≡ giver_at l.words.start l.k;
  from_1 : 1 ≤ l.k;
  kept : map unseated l.mutators ≡ map unseated l.fn.mutators;
  given : AllWithin (IsGiven l.words) l.mutators 1 l.k;
}
