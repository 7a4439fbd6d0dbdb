use Rattle.std.proofs.Common.{arith, refl}
use Rattle.melt_rule.proofs.Seating.{seated}
use Rattle.melt_rule.proofs.Standing.{at_table}
use Rattle.melt_rule.proofs.Stopping.{stops_at}
use Rattle.melt_rule.proofs.words.Words.stop.Goals as goal

pub store-requires : goal.store-requires
store-requires c =
    let at = at_table c.self.inside c.self.view_is c.self.invariant c.requires.seat in
    (at.is_seat.same, omega arith, stops_at _ at.is_seat.live c.requires.cause c.requires.left)

pub returns-clause-seat : goal.returns-clause-seat
returns-clause-seat c =
    seated c.requires.seat c.store.ensures.0 c.store.ensures.2.0 c.store.ensures.2.1.is refl refl

pub returns-clause-stops : goal.returns-clause-stops
returns-clause-stops c = c.store.ensures.2.1
