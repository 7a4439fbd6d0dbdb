use Rattle.std.specs.Prelude.{[]}
use Rattle.melt_move.specs.Collecting.{IsFormedOn}
use Rattle.melt_epoch_tests.proofs.tests.tagged.race.Given as goal

abbrev pub invariant-loop-round : goal.invariant-loop-round
invariant-loop-round g l = IsFormedOn l.world.heap [] l.world.disk.end
