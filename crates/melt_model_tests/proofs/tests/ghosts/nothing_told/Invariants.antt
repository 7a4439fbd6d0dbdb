use Rattle.std.specs.Prelude.{[]}
use Rattle.melt_model_tests.proofs.tests.ghosts.nothing_told.Given as goal

abbrev pub ghost-pick : goal.ghost-pick
ghost-pick a = record { history = []; length = 0 }
