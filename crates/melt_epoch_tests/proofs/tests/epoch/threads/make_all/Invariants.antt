use Rattle.std.specs.Prelude.{Some, []}
use Rattle.melt_epoch.specs.Tests.{HasBegun}
use Rattle.melt_epoch_tests.proofs.tests.epoch.threads.make_all.Given as goal

abbrev pub invariant-loop-k : goal.invariant-loop-k
invariant-loop-k g l = HasBegun (λ _. Some []) l.epoch.words l.mutators
