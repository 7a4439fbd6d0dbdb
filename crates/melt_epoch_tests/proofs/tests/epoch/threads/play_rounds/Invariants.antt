use Rattle.std.specs.Prelude.{Some, []}
use Rattle.melt_epoch.specs.Tests.{HasBegun}
use Rattle.melt_epoch_tests.proofs.tests.epoch.threads.play_rounds.Given as goal

abbrev pub invariant-loop-round : goal.invariant-loop-round
invariant-loop-round g l = HasBegun (λ _. Some []) l.epoch.words l.mutators
