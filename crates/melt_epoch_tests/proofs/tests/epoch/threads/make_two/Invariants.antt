use Rattle.std.specs.Prelude.{Some, []}
use Rattle.melt_epoch.specs.Tests.{MayCall}
use Rattle.melt_epoch_tests.proofs.tests.epoch.threads.make_two.Given as goal

abbrev pub invariant-loop-r : goal.invariant-loop-r
invariant-loop-r g l = MayCall (λ _. Some []) l.epoch.words l.m
