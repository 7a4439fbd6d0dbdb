use Rattle.std.specs.Prelude.{slice_set}
use Rattle.melt_model.specs.Thread.{value_in}
use Rattle.melt_epoch.proofs.mutator.Mutator.copy_reg.Given as goal

abbrev pub ghost-pick : goal.ghost-pick
ghost-pick g a = let from = a.from.now in slice_set from.0.now from.1 (value_in from.0.now from.2)
