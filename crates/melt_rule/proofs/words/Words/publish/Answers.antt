use Rattle.std.proofs.Common.{arith, refl}
use Rattle.melt_rule.proofs.MayMake.{publishes, region_within}
use Rattle.melt_rule.proofs.Seating.{seated}
use Rattle.melt_rule.proofs.Standing.{at_table, has_word, word_at}
use Rattle.melt_rule.proofs.words.Words.publish.Goals as goal

pub store-requires : goal.store-requires
store-requires c =
    let at = at_table c.self.inside c.self.view_is c.self.invariant c.requires.seat in
    let region = c.requires.region in
    let inside = region_within at.is_seat.within region.2 in (
      at.is_seat.same,
      has_word at c.args.address (omega arith),
      publishes _ at.is_seat.live region.2 region.3.0 region.3.1 c.requires.shape (word_at at c.args.address)
          c.encode_header-header.ensures,
    )

pub returns-clause-seat : goal.returns-clause-seat
returns-clause-seat c =
    let region = c.requires.region in
    let makes = c.store.ensures.2.1 c.args.address region.1 region.0 c.args.shape region.2 c.requires.shape
    c.encode_header-header.ensures in
    seated c.requires.seat c.store.ensures.0 c.store.ensures.2.0 makes.is refl refl
