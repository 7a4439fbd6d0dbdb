use Rattle.std.proofs.Common.{sym, subst, lit≤}
use Rattle.melt_copy.specs.Settling.{IsFormedTo}
use Rattle.melt_copy_tests.proofs.Building.{new_formed_to}
use Rattle.melt_copy_tests.proofs.tests.a_heap_without_forwardings_is_settled.Goals as goal

pub settle-requires-after_bounds : goal.settle-requires-after_bounds
settle-requires-after_bounds c κs =
    subst (IsFormedTo c.in_ok-heap.heap) (sym c.new-space.ensures.end)
    (new_formed_to 4 1 2 c.in_ok-heap.heap (lit≤ tt) c.in_ok-heap.ensures)
