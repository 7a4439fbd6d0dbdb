use Rattle.std.proofs.Common.{ℕ, ◌<◌, Option, IsSome, slice_index_or}
use Rattle.melt_bench.specs.declared.epoch.lists.Walk.{Walk}
use Rattle.melt_bench.proofs.epoch.lists.all_of.Given as goal

abbrev pub invariant-loop-walk : goal.invariant-loop-walk
invariant-loop-walk l = (k : ℕ) (d : Option Walk) → k < l.walk-index → IsSome (slice_index_or l.walks k d)
