use Rattle.std.proofs.Common.{◌∙◌, List, sym, ap, arith}
use Rattle.std.specs.Prelude.{slice_get}
use Rattle.std.proofs.lemmas.Option.{slice_get-get_or}
use Rattle.melt_space.specs.Space.{word_at}
use Rattle.melt_move.specs.declared.choice.Departure.{Departure}
use Rattle.melt_move.proofs.Marking.{no_departure}
use Rattle.melt_move.proofs.Giving.{leaving_offered, leaving_not_yet, leaving_more}
use Rattle.melt_move.proofs.homes.Giving.give_leaving.Goals as goal

pub give_missing-requires-clause-offered : goal.give_missing-requires-clause-offered
give_missing-requires-clause-offered g c =
    let s = c.requires.chosen.0 in
    let at = ap (λ (ds : List Departure). slice_get ds c.loop-d.d-index) (sym c.deref-d-items.ensures.value)
    ∙ slice_get-get_or c.deref-d-items.result.now c.loop-d.d-index no_departure (omega arith) in (
      s,
      c.loop-d.invariant.all s c.requires.chosen.1 c.requires.chosen.2,
      leaving_offered s c.args.choice.now c.requires.chosen.2 c.loop-d.d-index _ at,
    )

pub give_missing-requires-clause-not_yet : goal.give_missing-requires-clause-not_yet
give_missing-requires-clause-not_yet g c =
    leaving_not_yet c.requires.chosen.0 c.args.choice.now c.requires.chosen.2 c.loop-d.d-index _
    (ap (λ (ds : List Departure). slice_get ds c.loop-d.d-index) (sym c.deref-d-items.ensures.value)
    ∙ slice_get-get_or c.deref-d-items.result.now c.loop-d.d-index no_departure (omega arith)) c.args.space.now
    (word_at c.args.space.now) c.args.self.now c.loop-d.self c.requires.chosen.1 c.requires.nobody
    c.loop-d.invariant.gives

pub loop-d-preserved : goal.loop-d-preserved
loop-d-preserved g c =
    let at = ap (λ (ds : List Departure). slice_get ds c.loop-d.d-index) (sym c.deref-d-items.ensures.value)
    ∙ slice_get-get_or c.deref-d-items.result.now c.loop-d.d-index no_departure (omega arith) in
    record {
      gives =
          leaving_more c.args.choice.now.leaving.items c.loop-d.d-index c.give_missing.new.self.homes at
          c.loop-d.invariant.gives c.in_ok-give_missing.ensures.gives;
      all = λ s has chosen.
          c.in_ok-give_missing.ensures.all s (c.loop-d.invariant.all s has chosen)
          (leaving_offered s c.args.choice.now chosen c.loop-d.d-index _ at);
      visits = omega (arith, c.loop-d.invariant.visits, c.tick.ensures);
    }
