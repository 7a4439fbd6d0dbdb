use Rattle.std.specs.Prelude.{Some, []}
use Rattle.melt_epoch.specs.Tests.{MayCall}
use Rattle.melt_epoch_tests.proofs.tests.epoch.threads.store_and_load.Given as goal

abbrev pub invariant-loop-r : goal.invariant-loop-r
invariant-loop-r g l = MayCall (λ _. Some []) l.epoch.words l.m

abbrev pub invariant-loop-r-2 : goal.invariant-loop-r-2
invariant-loop-r-2 g l = MayCall (λ _. Some []) l.epoch.words l.m
