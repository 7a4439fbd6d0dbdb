use Rattle.std.specs.Prelude.{Some, []}
use Rattle.melt_epoch.specs.Tests.{MayCall}
use Rattle.melt_epoch_tests.proofs.tests.epoch.threads.share_objects.Given as goal

abbrev pub invariant-loop-object : goal.invariant-loop-object
invariant-loop-object g l = MayCall (λ _. Some []) l.epoch.words l.m
