use Rattle.std.proofs.Common.{refl}
use Rattle.melt_rule.proofs.Allowed.{number_stores}
use Rattle.melt_rule.proofs.Seating.{seated}
use Rattle.melt_rule.proofs.Standing.{at_table, number_at}
use Rattle.melt_rule.proofs.words.Words.store_number.Goals as goal

pub store-requires : goal.store-requires
store-requires c =
    let at = at_table c.self.inside c.self.view_is c.self.invariant c.requires.seat in
    let part = number_at at c.args.address c.args.j c.args.shape c.requires.speaks in
    (at.is_seat.same, part.below, number_stores _ at.is_seat.live part.has part.headed part.is part.there)

pub returns-clause-writes : goal.returns-clause-writes
returns-clause-writes c n has =
    let at = at_table c.self.inside c.self.view_is c.self.invariant c.requires.seat in
    let part = number_at at c.args.address c.args.j c.args.shape c.requires.speaks in
    c.store.ensures.2.1 c.args.address n c.args.j part.shape part.headed has part.is part.there

pub returns-clause-seat : goal.returns-clause-seat
returns-clause-seat c =
    let known = c.requires.speaks.0 in
    seated c.requires.seat c.store.ensures.0 c.store.ensures.2.0 (returns-clause-writes c known.0 known.1).is refl refl
