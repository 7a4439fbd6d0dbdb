use Rattle.std.proofs.Common.{◌≡◌, ◌++◌, map, take}
use Rattle.melt_trace.specs.declared.script.Item.TheVariants as item
use Rattle.melt_gen.proofs.programs.push_all.Given as goal

abbrev pub invariant-loop-op : goal.invariant-loop-op
invariant-loop-op l = l.items.items ≡ l.fn.items.items ++ map item.Op (take l.op-index l.operations)
