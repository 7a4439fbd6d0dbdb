use Rattle.std.proofs.Common.{◌≡◌, ◌+◌, take}
use Rattle.melt_move.specs.Plans.{need_for}
use Rattle.melt_move.proofs.collect.reserve_homes.Given as goal

abbrev pub invariant-loop-g : goal.invariant-loop-g
invariant-loop-g g l = record {
  end : l.disk.end ≡ l.fn.disk.end + need_for (take l.g-index l.given);
  limit : l.disk.limit ≡ l.fn.disk.limit;
  same_disk : l.disk.disk.ghost_name ≡ l.fn.disk.disk.ghost_name;
  disk : l.disk.disk.now ≡ l.fn.disk.disk.now;
  visits : l.steps ≡ l.fn.steps + l.g-index;
}
