use Rattle.std.proofs.Common.{◌≡◌, ◌<◌}
use Rattle.std.specs.Prelude.{Some}
use Rattle.melt_rule.specs.Seats.{IsSeat, knows_of}
use Rattle.melt_rule.specs.Tells.{Sees}
use Rattle.melt_rule.specs.declared.view.Doing.TheVariants.{Copying}
use Rattle.melt_epoch.proofs.Toward.{Toward}
use Rattle.melt_epoch.proofs.copy.fill_copy.Given as goal

abbrev pub invariant-loop-stored : goal.invariant-loop-stored
invariant-loop-stored l = record {
  seat : IsSeat l.words l.seat;
  toward : Toward (knows_of l.initial.seat) (knows_of l.seat) 0 0 l.stored;
  sees : 0 < l.stored → Sees (knows_of l.initial.seat) (knows_of l.seat).seen;
  at : (knows_of l.seat).doing ≡ Some (Copying l.activation l.stored);
  rest : (knows_of l.seat).rest ≡ l.rest;
}
