use Rattle.std.proofs.Common.{arith}
use Rattle.melt_rule.proofs.Seating.{seated_asked}
use Rattle.melt_rule.proofs.Standing.{at_table}
use Rattle.melt_rule.proofs.Stopping.{asks_at}
use Rattle.melt_rule.proofs.Tying.{not_reading}
use Rattle.melt_rule.specs.Seats.{knows_of}
use Rattle.melt_rule.proofs.words.Words.ask.Goals as goal

pub store-requires : goal.store-requires
store-requires c =
    let at = at_table c.self.inside c.self.view_is c.self.invariant c.requires.seat in
    let left = not_reading (knows_of c.args.seat.now).doing c.requires.goes_on in
    (at.is_seat.same, omega arith, asks_at _ at.is_seat.live left)

pub returns-clause-seat : goal.returns-clause-seat
returns-clause-seat c =
    seated_asked c.requires.seat c.store.ensures.0 c.store.ensures.2.0 c.store.ensures.2.1

pub returns-clause-asks : goal.returns-clause-asks
returns-clause-asks c = c.store.ensures.2.1
