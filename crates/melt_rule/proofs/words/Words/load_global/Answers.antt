use Rattle.std.proofs.Common.{refl}
use Rattle.melt_rule.proofs.Allowed.{global_looks}
use Rattle.melt_rule.proofs.Seating.{looked_as, seated_looked}
use Rattle.melt_rule.proofs.Standing.{at_table, has_global}
use Rattle.melt_rule.proofs.words.Words.load_global.Goals as goal

pub load-word-requires : goal.load-word-requires
load-word-requires c =
    let at = at_table c.self.inside c.self.view_is c.self.invariant c.requires.seat in (
      at.is_seat.same,
      has_global at c.args.g (rw c.requires.seat.began c.requires.global),
      global_looks _ at.is_seat.live c.requires.polled (rw c.requires.seat.began c.requires.global),
    )

pub reference_of-requires : goal.reference_of-requires
reference_of-requires c =
    let f = c.load-word.ensures.2.1 c.args.g (rw c.requires.seat.began c.requires.global) refl in
    (f.reference, f.in_range, f.is)

pub returns-clause-looks : goal.returns-clause-looks
returns-clause-looks c =
    let f = c.load-word.ensures.2.1 c.args.g (rw c.requires.seat.began c.requires.global) refl in
    looked_as c.reference_of.result f c.reference_of.ensures.in_range c.reference_of.ensures.is

pub returns-clause-seat : goal.returns-clause-seat
returns-clause-seat c =
    seated_looked _ _ _ c.requires.seat c.load-word.ensures.0 c.load-word.ensures.2.0 (returns-clause-looks c)
