use Rattle.std.proofs.Common.{◌<◌, length, take, refl, subst, below_more, arith}
use Rattle.std.proofs.lemmas.Option.{slice_get_within, get_or_from_slice_get}
use Rattle.melt_model.specs.History.{MayFollow}
use Rattle.melt_model.specs.declared.history.Act.TheVariants.{Make}
use Rattle.melt_model.specs.declared.history.Entry.{Entry}
use Rattle.melt_model_tests.proofs.plain.is_legal.Goals as goal

pub loop-place-preserved : goal.loop-place-preserved
loop-place-preserved c =
    let follows = c.if-not-may_follow.ensures in
    let none : Entry = record { thread = 0; act = Make 0 0 } in
    below_more _ _ c.loop-place.invariant (λ e is.
    subst (λ (x : Entry). MayFollow (take c.loop-place.place c.args.history.now) c.args.globals x.act)
    (get_or_from_slice_get c.args.history.now c.loop-place.place e none is) (follows.0 refl))

pub returns : goal.returns
returns c = (
  λ yes p e is. let below : p < length c.args.history.now =
      slice_get_within c.args.history.now p e is in c.loop-place.invariant p (omega arith) e is,
  λ legal. refl,
)
