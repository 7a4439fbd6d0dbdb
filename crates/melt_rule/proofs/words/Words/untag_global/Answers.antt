use Rattle.std.proofs.Common.{sym, ◌∙◌, refl}
use Rattle.melt_rule.proofs.Untagging.{global_untags}
use Rattle.melt_rule.proofs.Seating.{seated, answered}
use Rattle.melt_rule.proofs.Standing.{at_table, has_global, read_fits}
use Rattle.melt_rule.proofs.words.Words.untag_global.Goals as goal

pub encode_ref-new-requires : goal.encode_ref-new-requires
encode_ref-new-requires c = (rw c.requires.cleared at c.requires.seat.within.doing).0

pub compare_exchange-seen-requires : goal.compare_exchange-seen-requires
compare_exchange-seen-requires c =
    let at = at_table c.self.inside c.self.view_is c.self.invariant c.requires.seat in
    let fits = rw c.requires.cleared at c.requires.seat.within.doing in (
      at.is_seat.same,
      has_global at c.args.g fits.3,
      global_untags _ at.is_seat.live c.requires.cleared c.encode_ref-old.ensures c.encode_ref-new.ensures,
    )

pub answer-requires : goal.answer-requires
answer-requires c differ =
    let at = at_table c.self.inside c.self.view_is c.self.invariant c.requires.seat in
    let told = c.compare_exchange-seen.ensures.2.1 c.args.g c.args.target c.args.found c.requires.cleared refl in
    let small = read_fits c.compare_exchange-seen.new.seat at c.compare_exchange-seen.ensures.0
    c.compare_exchange-seen.ensures.2.0 told.exchanged.reads in
    (told.answer, (small, told.exchanged.lost (λ is. differ (is ∙ sym c.encode_ref-old.ensures))))

pub returns-clause-reads : goal.returns-clause-reads
returns-clause-reads c =
    let told = c.compare_exchange-seen.ensures.2.1 c.args.g c.args.target c.args.found c.requires.cleared refl in
    answered c.encode_ref-old.result c.answer.result told.exchanged c.encode_ref-old.ensures c.answer.ensures.won
    c.answer.ensures.lost

pub returns-clause-seat : goal.returns-clause-seat
returns-clause-seat c =
    seated c.requires.seat c.compare_exchange-seen.ensures.0 c.compare_exchange-seen.ensures.2.0
    (returns-clause-reads c).is refl refl
