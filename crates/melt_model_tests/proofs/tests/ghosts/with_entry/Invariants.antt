use Rattle.std.specs.Prelude.{[], ◌∷◌, ◌++◌}
use Rattle.melt_model_tests.proofs.tests.ghosts.with_entry.Given as goal

abbrev pub ghost-pick : goal.ghost-pick
ghost-pick a = let from = a.from.now in from.0.now ++ from.1.now ∷ []
