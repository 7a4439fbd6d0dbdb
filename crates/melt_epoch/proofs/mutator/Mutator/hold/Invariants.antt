use Rattle.std.specs.Prelude.{slice_set}
use Rattle.melt_epoch.specs.Mutators.{given_to}
use Rattle.melt_epoch.proofs.mutator.Mutator.hold.Given as goal

abbrev pub ghost-pick : goal.ghost-pick
ghost-pick g a = let from = a.from.now in slice_set from.0.now from.2 (given_to from.1.now)
