-- The ranges of the numbers that a run is given.
use Rattle.std.specs.Prelude.{◌≤◌}
use Rattle.melt_model.specs.declared.config.Config.{Config}

pub record InRanges (config : Config) : Type 0 where
  pub heap_least : 16 ≤ config.heap
  pub heap_most : config.heap ≤ 4194304
  pub forward_least : 1 ≤ config.forward
  pub forward_most : config.forward ≤ 65536
  pub disk_least : 2 ≤ config.disk
  pub disk_most : config.disk ≤ 268435456
  pub mark : config.mark ≤ config.move_
  pub move_most : config.move_ ≤ 100
  pub every : config.every ≤ 1048576
