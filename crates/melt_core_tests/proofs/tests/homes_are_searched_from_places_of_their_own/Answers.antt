use Rattle.std.proofs.Common.{[], lit≤}
use Rattle.std.specs.Prelude.{false}
use Rattle.melt_scion.specs.Heaps.{no_homes_on}
use Rattle.melt_core_tests.proofs.Starting.{new_heap_holds, no_objects}
use Rattle.melt_core_tests.proofs.tests.homes_are_searched_from_places_of_their_own.Goals as goal

pub find_among-requires-clause-holds : goal.find_among-requires-clause-holds
find_among-requires-clause-holds c =
    (false, [], no_objects, [], no_homes_on, new_heap_holds _ 16 1 1024 false (lit≤ tt) c.in_ok-heap.ensures)

pub find_among-requires-2-clause-holds : goal.find_among-requires-2-clause-holds
find_among-requires-2-clause-holds c =
    (false, [], no_objects, [], no_homes_on, new_heap_holds _ 16 1 1024 false (lit≤ tt) c.in_ok-heap.ensures)
