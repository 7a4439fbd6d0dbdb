use Rattle.std.proofs.Common.{arith, inl, inr}
use Rattle.melt_rule.proofs.Allowed.{polls}
use Rattle.melt_rule.proofs.Seating.{seated_polled}
use Rattle.melt_rule.proofs.Standing.{at_table}
use Rattle.melt_rule.proofs.Tying.{not_lacking, not_reading}
use Rattle.melt_rule.specs.Seats.{knows_of}
use Rattle.melt_rule.proofs.words.Words.poll.Goals as goal

pub load-requires : goal.load-requires
load-requires c =
    let at = at_table c.self.inside c.self.view_is c.self.invariant c.requires.seat in (
      at.is_seat.same,
      omega arith,
      polls _ at.is_seat.live (not_lacking (knows_of c.args.seat.now).doing c.requires.goes_on)
          (not_reading (knows_of c.args.seat.now).doing c.requires.goes_on),
    )

pub returns-clause-polls : goal.returns-clause-polls
returns-clause-polls c = elim c.load.ensures.2.1 [
  | inl off ↦ rw off.0 off.1
  | inr on ↦ rw on.0 on.1
]

pub returns-clause-seat : goal.returns-clause-seat
returns-clause-seat c =
    seated_polled _ c.requires.seat c.load.ensures.0 c.load.ensures.2.0 (returns-clause-polls c)
