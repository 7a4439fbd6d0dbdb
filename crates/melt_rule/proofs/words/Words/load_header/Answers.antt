use Rattle.std.proofs.Common.{refl}
use Rattle.melt_rule.proofs.Allowed.{heads}
use Rattle.melt_rule.proofs.Seating.{seated}
use Rattle.melt_rule.proofs.Standing.{at_table, has_word, word_at}
use Rattle.melt_rule.proofs.words.Words.load_header.Goals as goal

pub load-word-requires : goal.load-word-requires
load-word-requires c =
    let at = at_table c.self.inside c.self.view_is c.self.invariant c.requires.seat in
    let known = c.requires.known in (
      at.is_seat.same,
      has_word at c.args.address (at.is_seat.within.known c.args.address known.0 known.1).1,
      heads _ at.is_seat.live c.requires.polled known.1 (word_at at c.args.address),
    )

pub shape_of-requires : goal.shape_of-requires
shape_of-requires c =
    let at = at_table c.self.inside c.self.view_is c.self.invariant c.requires.seat in
    let known = c.requires.known in
    let f = c.load-word.ensures.2.1 c.args.address known.0 known.1 (word_at at c.args.address) in
    (f.header, f.in_range, f.is)

pub returns-clause-heads : goal.returns-clause-heads
returns-clause-heads c n has =
    let at = at_table c.self.inside c.self.view_is c.self.invariant c.requires.seat in
    let f = c.load-word.ensures.2.1 c.args.address n has (word_at at c.args.address) in
    rw (c.shape_of.ensures f.header f.in_range f.is) f.heads

pub returns-clause-seat : goal.returns-clause-seat
returns-clause-seat c =
    let known = c.requires.known in
    seated c.requires.seat c.load-word.ensures.0 c.load-word.ensures.2.0
    (returns-clause-heads c known.0 known.1).reaches.is refl refl
