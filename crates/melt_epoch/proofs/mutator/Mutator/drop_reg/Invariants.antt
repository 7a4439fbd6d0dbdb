use Rattle.std.specs.Prelude.{slice_set}
use Rattle.melt_model.specs.declared.history.Value.TheVariants.{Nil}
use Rattle.melt_epoch.proofs.mutator.Mutator.drop_reg.Given as goal

abbrev pub ghost-pick : goal.ghost-pick
ghost-pick g a = let from = a.from.now in slice_set from.0.now from.1 Nil
