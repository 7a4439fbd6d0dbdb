use Rattle.std.specs.Prelude.{Some, []}
use Rattle.melt_epoch.specs.Tests.{HasBegun}
use Rattle.melt_epoch_tests.proofs.tests.epoch.given.expect.Given as goal

abbrev pub invariant-loop-at : goal.invariant-loop-at
invariant-loop-at l = HasBegun (λ _. Some []) l.epoch.words l.mutators
