use Rattle.std.specs.Prelude.{[]}
use Rattle.melt_move.specs.Collecting.{IsFormedOn}
use Rattle.melt_bench.proofs.epoch.walks.make_all.Given as goal

abbrev pub invariant-loop-thread : goal.invariant-loop-thread
invariant-loop-thread g l = IsFormedOn l.world.heap [] l.world.disk.end
