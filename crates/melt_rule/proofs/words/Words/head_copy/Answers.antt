use Rattle.std.proofs.Common.{arith, refl}
use Rattle.melt_core.specs.declared.call.Activation.{Activation}
use Rattle.melt_rule.proofs.Copying.{heads_copy_at, copying_within}
use Rattle.melt_rule.proofs.Seating.{seated}
use Rattle.melt_rule.proofs.Standing.{at_table, has_word, word_at}
use Rattle.melt_rule.proofs.words.Words.head_copy.Goals as goal

pub store-requires : goal.store-requires
store-requires c =
    let at = at_table c.self.inside c.self.view_is c.self.invariant c.requires.seat in
    let a : Activation = c.args.activation in
    let copying = c.requires.copying in
    let inside = copying_within at.is_seat.within copying.1 in (
      at.is_seat.same,
      has_word at a.address (omega arith),
      heads_copy_at _ at.is_seat.live copying.1 copying.2 (word_at at a.address) c.encode_header-header.ensures,
    )

pub returns-clause-seat : goal.returns-clause-seat
returns-clause-seat c =
    let copying = c.requires.copying in
    seated c.requires.seat c.store.ensures.0 c.store.ensures.2.0
    (c.store.ensures.2.1 c.args.activation copying.0 copying.1).is refl refl
