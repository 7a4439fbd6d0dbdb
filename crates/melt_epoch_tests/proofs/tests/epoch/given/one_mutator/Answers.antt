use Rattle.std.specs.Prelude.{Some, []}
use Rattle.melt_epoch.proofs.Empty.{one_may_start}
use Rattle.melt_epoch_tests.specs.declared.tests.epoch.given.NoDisk.{NoDisk}
use Rattle.melt_epoch_tests.proofs.tests.epoch.given.one_mutator.Goals as goal

pub returns : goal.returns
returns c = one_may_start (λ (x : NoDisk). Some []) c.new_mutator.result c.new_mutator.ensures.may_start
