use Rattle.std.specs.Prelude.{◌+◌, [], ◌∷◌, ◌++◌}
use Rattle.melt_model_tests.proofs.tests.ghosts.told_after.Given as goal

abbrev pub ghost-pick : goal.ghost-pick
ghost-pick a =
    let from = a.from.now in record { history = from.0.history ++ from.1 ∷ []; length = from.0.length + 1 }
