use Rattle.std.proofs.Common.{◌≡◌, ◌++◌, drop}
use Rattle.melt_model.specs.Thread.{own_from, own}
use Rattle.melt_model_tests.proofs.plain.own.Given as goal

abbrev pub invariant-loop-place : goal.invariant-loop-place
invariant-loop-place l = l.places.items ++ own_from l.place (drop l.place l.history) l.thread ≡ own l.history l.thread
