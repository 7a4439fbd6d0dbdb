use Rattle.std.proofs.Common.{◌≡◌, map}
use Rattle.melt_trace.specs.declared.script.Item.TheVariants as item
use Rattle.melt_gen.specs.declared.workload.Workload.TheVariants as workload
use Rattle.melt_gen.specs.Workloads.{drawn, round_of, rounds, state_after}
use Rattle.melt_gen.proofs.programs.list.Given as goal

abbrev pub invariant-loop-k : goal.invariant-loop-k
invariant-loop-k l = record {
  draws : l.draws ≡ state_after l.fn.draws l.k;
  items : l.items.items ≡ map item.Op (rounds (round_of workload.List l.thread (drawn l.fn.draws)) l.k);
}
