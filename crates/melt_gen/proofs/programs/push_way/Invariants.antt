use Rattle.std.proofs.Common.{◌≡◌, ◌++◌, ◌-◌, ◌<◌, map}
use Rattle.melt_trace.specs.declared.script.Item.TheVariants as item
use Rattle.melt_gen.specs.Workloads.{highest, way}
use Rattle.melt_gen.proofs.programs.push_way.Given as goal

-- what was written and the rest of the way are the whole way
abbrev pub invariant-loop-place : goal.invariant-loop-place
invariant-loop-place l = record {
  small : l.place < 32;
  items : l.items.items ++ map item.Op (way l.n l.place) ≡ l.fn.items.items ++ map item.Op (way l.n (highest l.n - 1));
}

abbrev pub decreases-loop-place : goal.decreases-loop-place
decreases-loop-place l = l.place
