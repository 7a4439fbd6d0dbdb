use Rattle.std.proofs.Common.{lit≤}
use Rattle.std.specs.Prelude.{true}
use Rattle.melt_copy_tests.proofs.Building.{new_formed, new_settled, none_held}
use Rattle.melt_copy_tests.proofs.tests.collect_none.Goals as goal

pub collect_to-requires-clause-formed : goal.collect_to-requires-clause-formed
collect_to-requires-clause-formed c =
    new_formed 4 1 2 c.args.heap.now _ (lit≤ tt) c.requires none_held

pub collect_to-requires-clause-settled : goal.collect_to-requires-clause-settled
collect_to-requires-clause-settled c = new_settled 4 1 2 true c.args.heap.now c.requires
