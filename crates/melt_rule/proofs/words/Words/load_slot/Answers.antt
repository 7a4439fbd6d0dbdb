use Rattle.melt_rule.proofs.Allowed.{looks_at}
use Rattle.melt_rule.proofs.Seating.{looked_as, seated_looked}
use Rattle.melt_rule.proofs.Standing.{at_table, slot_at}
use Rattle.melt_rule.proofs.words.Words.load_slot.Goals as goal

pub load-word-requires : goal.load-word-requires
load-word-requires c =
    let at = at_table c.self.inside c.self.view_is c.self.invariant c.requires.seat in
    let part = slot_at at c.args.address c.args.i c.requires.speaks in
    (at.is_seat.same, part.below, looks_at _ at.is_seat.live part.has part.headed part.is part.there)

pub reference_of-requires : goal.reference_of-requires
reference_of-requires c =
    let at = at_table c.self.inside c.self.view_is c.self.invariant c.requires.seat in
    let part = slot_at at c.args.address c.args.i c.requires.speaks in
    let f = c.load-word.ensures.2.1 c.args.address part.number c.args.i _ part.headed part.has part.is part.there in
    (f.reference, f.in_range, f.is)

pub returns-clause-looks : goal.returns-clause-looks
returns-clause-looks c n has =
    let at = at_table c.self.inside c.self.view_is c.self.invariant c.requires.seat in
    let part = slot_at at c.args.address c.args.i c.requires.speaks in
    let f = c.load-word.ensures.2.1 c.args.address n c.args.i _ part.headed has part.is part.there in
    looked_as c.reference_of.result f c.reference_of.ensures.in_range c.reference_of.ensures.is

pub returns-clause-seat : goal.returns-clause-seat
returns-clause-seat c =
    let known = c.requires.speaks.0 in
    seated_looked _ _ _ c.requires.seat c.load-word.ensures.0 c.load-word.ensures.2.0
    (returns-clause-looks c known.0 known.1)
