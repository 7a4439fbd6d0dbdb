use Rattle.std.proofs.Common.{arith, refl}
use Rattle.melt_rule.proofs.Seating.{seated}
use Rattle.melt_rule.proofs.Standing.{at_table}
use Rattle.melt_rule.proofs.Stopping.{fills_at}
use Rattle.melt_rule.proofs.words.Words.stop_filled.Goals as goal

pub store-requires : goal.store-requires
store-requires c =
    let at = at_table c.self.inside c.self.view_is c.self.invariant c.requires.seat in (
      at.is_seat.same,
      omega arith,
      fills_at _ at.is_seat.live c.requires.searches (rw c.requires.seat.began c.requires.all),
    )

pub returns-clause-seat : goal.returns-clause-seat
returns-clause-seat c =
    seated c.requires.seat c.store.ensures.0 c.store.ensures.2.0 c.store.ensures.2.1.1 refl refl

pub returns-clause-fills : goal.returns-clause-fills
returns-clause-fills c = c.store.ensures.2.1
