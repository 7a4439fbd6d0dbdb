use Rattle.std.proofs.Common.{◌≡◌, ℕ, slice_get}
use Rattle.melt_links.specs.Links.{list_at}
use Rattle.melt_parts_tests.proofs.tests.links.compare_list.Given as goal

-- the walk stands somewhere in the list, or after its end
abbrev pub invariant-loop-of : goal.invariant-loop-of
invariant-loop-of l =
    (goal.iterator-loop-of).can_next l.of-iterator ×
    (goal.iterator-loop-of).is_finite l.of-iterator ×
    ((place : ℕ) × (l.at ≡ slice_get (list_at l.links l.list) place))
