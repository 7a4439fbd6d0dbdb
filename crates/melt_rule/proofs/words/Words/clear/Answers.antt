use Rattle.std.proofs.Common.{refl}
use Rattle.melt_rule.proofs.Clearing.{clears_at}
use Rattle.melt_rule.proofs.Seating.{seated}
use Rattle.melt_rule.proofs.Standing.{at_table, has_word, word_at}
use Rattle.melt_rule.proofs.words.Words.clear.Goals as goal

pub fetch_and-requires : goal.fetch_and-requires
fetch_and-requires c =
    let at = at_table c.self.inside c.self.view_is c.self.invariant c.requires.seat in
    let looked = c.requires.looked.1.1 in
    let fits = rw looked at c.requires.seat.within.doing in (
      at.is_seat.same,
      has_word at c.args.target fits.1,
      clears_at _ at.is_seat.live looked (word_at at c.args.target),
    )

pub returns-clause-clears : goal.returns-clause-clears
returns-clause-clears c place found looked = c.fetch_and.ensures.2.1 place found c.args.target looked

pub returns-clause-seat : goal.returns-clause-seat
returns-clause-seat c =
    let looked = c.requires.looked in
    seated c.requires.seat c.fetch_and.ensures.0 c.fetch_and.ensures.2.0
    (returns-clause-clears c looked.0 looked.1.0 looked.1.1).is refl refl
