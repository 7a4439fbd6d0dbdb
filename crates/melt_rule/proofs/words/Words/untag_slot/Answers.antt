use Rattle.std.proofs.Common.{◌+◌, sym, ◌∙◌, arith, refl}
use Rattle.melt_rule.proofs.Untagging.{untags_at}
use Rattle.melt_rule.proofs.Seating.{seated, answered}
use Rattle.melt_rule.proofs.Standing.{at_table, has_word, read_fits, slot_word_at}
use Rattle.melt_rule.proofs.words.Words.untag_slot.Goals as goal

pub compare_exchange-seen-requires : goal.compare_exchange-seen-requires
compare_exchange-seen-requires c =
    let at = at_table c.self.inside c.self.view_is c.self.invariant c.requires.seat in
    let fits = rw c.requires.cleared at c.requires.seat.within.doing in
    let below = has_word at (c.args.object + 2 + c.args.i) fits.3 in (
      at.is_seat.same,
      omega arith,
      untags_at _ at.is_seat.live c.requires.known.1 c.requires.cleared (slot_word_at at c.args.object c.args.i)
          c.encode_ref-old.ensures c.encode_ref-new.ensures,
    )

pub answer-requires : goal.answer-requires
answer-requires c differ =
    let at = at_table c.self.inside c.self.view_is c.self.invariant c.requires.seat in
    let told = c.compare_exchange-seen.ensures.2.1 c.args.object c.requires.known.0 c.args.i c.args.target c.args.found
    c.requires.cleared c.requires.known.1 (slot_word_at at c.args.object c.args.i) in
    let small = read_fits c.compare_exchange-seen.new.seat at c.compare_exchange-seen.ensures.0
    c.compare_exchange-seen.ensures.2.0 told.exchanged.reads in
    (told.answer, (small, told.exchanged.lost (λ is. differ (is ∙ sym c.encode_ref-old.ensures))))

pub returns-clause-reads : goal.returns-clause-reads
returns-clause-reads c n has =
    let at = at_table c.self.inside c.self.view_is c.self.invariant c.requires.seat in
    let told = c.compare_exchange-seen.ensures.2.1 c.args.object n c.args.i c.args.target c.args.found
    c.requires.cleared has (slot_word_at at c.args.object c.args.i) in
    answered c.encode_ref-old.result c.answer.result told.exchanged c.encode_ref-old.ensures c.answer.ensures.won
    c.answer.ensures.lost

pub returns-clause-seat : goal.returns-clause-seat
returns-clause-seat c =
    seated c.requires.seat c.compare_exchange-seen.ensures.0 c.compare_exchange-seen.ensures.2.0
    (returns-clause-reads c c.requires.known.0 c.requires.known.1).is refl refl
