use Rattle.std.proofs.Common.{length, sym, subst}
use Rattle.melt_move.specs.GivingHomes.{HasMarks}
use Rattle.melt_move.specs.Plans.{AreDepartures}
use Rattle.melt_move.proofs.Giving.{gives_new, only_leaving}
use Rattle.melt_move.proofs.homes.give_homes.Goals as goal

pub give_leaving-requires-clause-chosen : goal.give_leaving-requires-clause-chosen
give_leaving-requires-clause-chosen g c =
    (c.requires.0, c.in_ok-giving.ensures.all c.requires.0 c.requires.2, (c.requires.1, c.requires.3))

pub give_named-requires-clause-leaving : goal.give_named-requires-clause-leaving
give_named-requires-clause-leaving g c =
    only_leaving c.args.choice.now.leaving.items (length c.args.choice.now.leaving.items)
    (c.in_ok-giving.ensures.all c.requires.0 c.requires.2) c.in_ok-giving.ensures.nobody
    c.in_ok-give_leaving.ensures.gives

pub give_named-requires-clause-chosen : goal.give_named-requires-clause-chosen
give_named-requires-clause-chosen g c =
    let s = c.requires.0 in (
      s,
      c.in_ok-give_leaving.ensures.all s (c.in_ok-giving.ensures.all s c.requires.2) (c.requires.1, c.requires.3),
      (c.requires.1, c.requires.3),
      subst (HasMarks s) (sym c.deref-2.ensures.value) (c.in_ok-marks.ensures.marks s c.requires.2
          (subst (AreDepartures s) (sym c.deref.ensures.value) c.requires.3.leave)),
    )

pub returns-clause-gives : goal.returns-clause-gives
returns-clause-gives g c = λ s live seen is.
    let has = c.in_ok-give_leaving.ensures.all s (c.in_ok-giving.ensures.all s seen) (live, is) in
    let marks = subst (HasMarks s) (sym c.deref-2.ensures.value)
    (c.in_ok-marks.ensures.marks s seen (subst (AreDepartures s) (sym c.deref.ensures.value) is.leave)) in
    gives_new (c.in_ok-give_named.ensures.all s has (live, is) marks) (live, is) marks
    c.in_ok-give_leaving.ensures.gives c.in_ok-give_named.ensures.gives
