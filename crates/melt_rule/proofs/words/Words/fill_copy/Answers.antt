use Rattle.std.proofs.Common.{◌+◌, ◌<◌, arith, refl}
use Rattle.melt_word.specs.Words.{cost_of}
use Rattle.melt_core.specs.declared.call.Activation.{Activation}
use Rattle.melt_rule.proofs.Copying.{fills_copy_at, copying_within}
use Rattle.melt_rule.proofs.Seating.{seated}
use Rattle.melt_rule.proofs.Standing.{at_table, has_word, word_after_at}
use Rattle.melt_rule.proofs.words.Words.fill_copy.Goals as goal

pub store-requires : goal.store-requires
store-requires c =
    let at = at_table c.self.inside c.self.view_is c.self.invariant c.requires.seat in
    let a : Activation = c.args.activation in
    let few : c.args.stored + 1 < cost_of a.shape = c.requires.next in
    let inside = copying_within at.is_seat.within c.requires.copying in
    let below = has_word at (a.address + 1 + c.args.stored) (omega arith) in (
      at.is_seat.same,
      omega arith,
      fills_copy_at _ at.is_seat.live c.requires.copying few c.requires.word
          (word_after_at at a.address c.args.stored),
    )

pub returns-clause-seat : goal.returns-clause-seat
returns-clause-seat c =
    seated c.requires.seat c.store.ensures.0 c.store.ensures.2.0
    (c.store.ensures.2.1 c.args.activation c.args.stored c.requires.copying).is refl refl
