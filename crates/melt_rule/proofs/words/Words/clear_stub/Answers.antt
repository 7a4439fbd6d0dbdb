use Rattle.std.proofs.Common.{refl}
use Rattle.melt_rule.proofs.Clearing.{stub_clears_at}
use Rattle.melt_rule.proofs.Seating.{seated}
use Rattle.melt_rule.proofs.Standing.{at_table, has_word, word_at}
use Rattle.melt_rule.proofs.words.Words.clear_stub.Goals as goal

pub fetch_and-requires : goal.fetch_and-requires
fetch_and-requires c =
    let at = at_table c.self.inside c.self.view_is c.self.invariant c.requires.seat in (
      at.is_seat.same,
      has_word at c.args.target (rw c.requires.seat.began c.requires.within),
      stub_clears_at _ c.args.scion at.is_seat.live c.requires.missed (rw c.requires.seat.began c.requires.live)
          (word_at at c.args.target),
    )

pub returns-clause-clears : goal.returns-clause-clears
returns-clause-clears c =
    let at = at_table c.self.inside c.self.view_is c.self.invariant c.requires.seat in
    c.fetch_and.ensures.2.1 c.args.search c.args.scion c.args.target c.requires.missed
    (rw c.requires.seat.began c.requires.live) (word_at at c.args.target)

pub returns-clause-seat : goal.returns-clause-seat
returns-clause-seat c =
    seated c.requires.seat c.fetch_and.ensures.0 c.fetch_and.ensures.2.0 (returns-clause-clears c).is refl refl
