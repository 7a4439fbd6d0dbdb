use Rattle.std.proofs.Common.{◌≡◌, length}
use Rattle.melt_parts_tests.proofs.tests.links.random_calls_leave_what_a_plain_vector_has.Given as goal

abbrev pub invariant-loop : goal.invariant-loop
invariant-loop l = (l.links.nodes ≡ 16) × (length l.links.lists ≡ 3)
