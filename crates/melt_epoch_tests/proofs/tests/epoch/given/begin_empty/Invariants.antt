use Rattle.std.specs.Prelude.{map}
use Rattle.melt_epoch.proofs.Empty.{empty_start}
use Rattle.melt_epoch_tests.proofs.tests.epoch.given.begin_empty.Given as goal

abbrev pub ghost-begin : goal.ghost-begin
ghost-begin g a = empty_start (map (λ m. m.thread) a.mutators.now) a.heap
