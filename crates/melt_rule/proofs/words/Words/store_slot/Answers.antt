use Rattle.std.proofs.Common.{refl}
use Rattle.melt_rule.proofs.Allowed.{stores_at}
use Rattle.melt_rule.proofs.Seating.{seated}
use Rattle.melt_rule.proofs.Standing.{at_table, held_fits, slot_at}
use Rattle.melt_rule.proofs.words.Words.store_slot.Goals as goal

pub held_word-requires : goal.held_word-requires
held_word-requires c =
    let at = at_table c.self.inside c.self.view_is c.self.invariant c.requires.seat in
    held_fits c.args.held at c.requires.held.1

pub store-requires : goal.store-requires
store-requires c =
    let at = at_table c.self.inside c.self.view_is c.self.invariant c.requires.seat in
    let part = slot_at at c.args.address c.args.i c.requires.speaks in (
      at.is_seat.same,
      part.below,
      stores_at _ at.is_seat.live part.has part.headed part.is part.there c.requires.held.1 c.held_word.ensures,
    )

pub returns-clause-writes : goal.returns-clause-writes
returns-clause-writes c n value has names =
    let at = at_table c.self.inside c.self.view_is c.self.invariant c.requires.seat in
    let part = slot_at at c.args.address c.args.i c.requires.speaks in
    c.store.ensures.2.1 c.args.address n c.args.i c.args.held part.shape value part.headed has part.is part.there
    c.held_word.ensures names

pub returns-clause-seat : goal.returns-clause-seat
returns-clause-seat c =
    let known = c.requires.speaks.0 in
    let held = c.requires.held in
    seated c.requires.seat c.store.ensures.0 c.store.ensures.2.0
    (returns-clause-writes c known.0 held.0 known.1 held.1).is refl refl
