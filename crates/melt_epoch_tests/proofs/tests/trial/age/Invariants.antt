use Rattle.std.specs.Prelude.{[]}
use Rattle.melt_move.specs.Collecting.{IsFormedOn}
use Rattle.melt_epoch_tests.proofs.tests.trial.age.Given as goal

abbrev pub invariant-loop-turn : goal.invariant-loop-turn
invariant-loop-turn l = IsFormedOn l.world.heap [] l.world.disk.end
