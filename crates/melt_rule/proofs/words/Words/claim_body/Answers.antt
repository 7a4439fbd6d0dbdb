use Rattle.std.proofs.Common.{◌≡◌, ℕ, List, subst, arith, ap, sym, ◌∙◌, refl}
use Rattle.melt_word.specs.Words.{cost_of}
use Rattle.melt_word.specs.declared.header.Shape.{Shape}
use Rattle.melt_scion.specs.Commits.{HasBody}
use Rattle.melt_rule.proofs.Copying.{copies_at, seated_lacking}
use Rattle.melt_rule.proofs.Seating.{seated}
use Rattle.melt_rule.proofs.Standing.{at_table, size_known}
use Rattle.melt_rule.specs.Seats.{EpochWords}
use Rattle.melt_rule.specs.Shown.{base_at}
use Rattle.melt_rule.proofs.words.Words.claim_body.Goals as goal

pub fetch_add-found-requires : goal.fetch_add-found-requires
fetch_add-found-requires g c =
    let at = at_table c.self.inside c.self.view_is c.self.invariant c.requires.seat in
    let z : Shape = g.B.ReadBody.shape in
    let rest : List ℕ = g.B.ReadBody.rest in
    let body = subst (λ (e : EpochWords). HasBody e.start.began.told (base_at e.start.began) c.args.search.home z rest)
    (sym c.self.view_is) (rw (c.requires.is_shape, c.requires.is_rest) c.requires.body) in
    let need : c.from-need.result ≡ cost_of z =
    c.from-need.ensures ∙ (c.cost.ensures ∙ ap cost_of (sym c.requires.is_shape)) in
    (at.is_seat.same, omega arith, copies_at _ at.is_seat.live c.requires.no_cause c.requires.missed body need)

pub returns-then-found-need-clause-seat : goal.returns-then-found-need-clause-seat
returns-then-found-need-clause-seat g c =
    let at = at_table c.self.inside c.self.view_is c.self.invariant c.requires.seat in
    let size = size_known at in
    let past = c.if-found-need.true in
    let from = c.from.ensures in
    let lacks = (c.fetch_add-found.ensures.2.2 c.args.search c.requires.missed).1 (omega arith) in
    seated_lacking c.requires.seat c.fetch_add-found.ensures.0 c.fetch_add-found.ensures.2.0 lacks

pub returns-clause-tells : goal.returns-clause-tells
returns-clause-tells g c =
    let at = at_table c.self.inside c.self.view_is c.self.invariant c.requires.seat in
    let size = size_known at in
    let fits = c.if-found-need.false in
    let from = c.from.ensures in
    let claims = (c.fetch_add-found.ensures.2.2 c.args.search c.requires.missed).0 (omega arith) in
    rw (c.requires.is_shape, c.requires.is_rest) at claims

pub returns-clause-seat : goal.returns-clause-seat
returns-clause-seat g c =
    seated c.requires.seat c.fetch_add-found.ensures.0 c.fetch_add-found.ensures.2.0 (returns-clause-tells g c).is
    refl refl
