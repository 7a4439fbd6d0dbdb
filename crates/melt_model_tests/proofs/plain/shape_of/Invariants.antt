use Rattle.std.proofs.Common.{◌≡◌, drop}
use Rattle.melt_model.specs.History.{shape}
use Rattle.melt_model_tests.proofs.plain.shape_of.Given as goal

abbrev pub invariant-loop-entry : goal.invariant-loop-entry
invariant-loop-entry l = shape (drop l.entry-index l.history) l.left ≡ shape l.history l.object
