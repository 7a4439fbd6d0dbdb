use Rattle.std.specs.Prelude.{replicate}
use Rattle.melt_model.specs.declared.history.Value.TheVariants.{Nil}
use Rattle.melt_epoch.proofs.mutator.Mutator.drop_all.Given as goal

abbrev pub ghost-pick : goal.ghost-pick
ghost-pick g a = replicate 16 Nil
