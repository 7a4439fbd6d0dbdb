use Rattle.std.specs.Prelude.{◌≡◌, [], length}
use Rattle.melt_move.specs.Collecting.{IsFormedOn}
use Rattle.melt_bench.proofs.epoch.walks.time_walks.Given as goal

abbrev pub invariant-loop : goal.invariant-loop
invariant-loop g l = record {
  formed : IsFormedOn l.world.heap [] l.world.disk.end;
  count : length l.took.items ≡ l.counter;
}
