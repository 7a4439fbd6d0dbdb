use Rattle.std.specs.Prelude.{[]}
use Rattle.melt_model_tests.proofs.tests.ghosts.no_history.Given as goal

abbrev pub ghost-pick : goal.ghost-pick
ghost-pick a = []
