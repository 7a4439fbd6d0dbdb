use Rattle.std.proofs.Common.{◌+◌, ◌<◌, arith, refl}
use Rattle.melt_word.specs.Words.{cost_of}
use Rattle.melt_rule.proofs.MayMake.{fills, region_within}
use Rattle.melt_rule.proofs.Seating.{seated}
use Rattle.melt_rule.proofs.Standing.{at_table, has_word, word_after_at}
use Rattle.melt_rule.proofs.words.Words.fill.Goals as goal

pub store-requires : goal.store-requires
store-requires c =
    let at = at_table c.self.inside c.self.view_is c.self.invariant c.requires.seat in
    let region = c.requires.region in
    let inside = region_within at.is_seat.within region.2 in
    let few : c.args.k + 1 < cost_of region.0 = region.3.1 in
    let below = has_word at (c.args.address + 1 + c.args.k) (omega arith) in (
      at.is_seat.same,
      omega arith,
      fills _ at.is_seat.live (rw region.3.0 at region.2) few (word_after_at at c.args.address c.args.k),
    )

pub returns-clause-seat : goal.returns-clause-seat
returns-clause-seat c =
    let region = c.requires.region in
    seated c.requires.seat c.store.ensures.0 c.store.ensures.2.0
    (c.store.ensures.2.1 c.args.address region.1 region.0 region.2).is refl refl
