-- The reports of these tests have the empty history.
use Rattle.std.specs.Prelude.{[]}
use Rattle.melt_top.proofs.tests.report.Given as goal

abbrev pub ghost-pick : goal.ghost-pick
ghost-pick a = []
