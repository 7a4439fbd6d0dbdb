use Rattle.std.proofs.Common.{List}
use Rattle.melt_disk.specs.Homes.{AreHomes, Home}
use Rattle.melt_bench.proofs.disk.write_records.Given as goal

abbrev pub invariant-loop : goal.invariant-loop
invariant-loop g l = (homes : List Home) × AreHomes l.space homes
