use Rattle.melt_epoch_tests.proofs.Untold.{untold_start}
use Rattle.melt_epoch_tests.proofs.world.begin_untold.Given as goal

abbrev pub ghost-begin : goal.ghost-begin
ghost-begin g a = untold_start a.heap a.end
