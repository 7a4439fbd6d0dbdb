use Rattle.std.proofs.Common.{refl}
use Rattle.melt_rule.proofs.Allowed.{numbers_at}
use Rattle.melt_rule.proofs.Seating.{seated}
use Rattle.melt_rule.proofs.Standing.{at_table, number_at}
use Rattle.melt_rule.proofs.words.Words.load_number.Goals as goal

pub load-requires : goal.load-requires
load-requires c =
    let at = at_table c.self.inside c.self.view_is c.self.invariant c.requires.seat in
    let part = number_at at c.args.address c.args.j c.args.shape c.requires.speaks in
    (at.is_seat.same, part.below, numbers_at _ at.is_seat.live part.has part.headed part.is part.there)

pub returns-clause-reads : goal.returns-clause-reads
returns-clause-reads c n has =
    let at = at_table c.self.inside c.self.view_is c.self.invariant c.requires.seat in
    let part = number_at at c.args.address c.args.j c.args.shape c.requires.speaks in
    c.load.ensures.2.1 c.args.address n c.args.j part.shape part.headed has part.is part.there

pub returns-clause-seat : goal.returns-clause-seat
returns-clause-seat c =
    let known = c.requires.speaks.0 in
    seated c.requires.seat c.load.ensures.0 c.load.ensures.2.0 (returns-clause-reads c known.0 known.1).is refl refl
