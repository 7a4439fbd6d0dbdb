-- Two lists of four nodes, of which 1 and then 3 are put into the first.
use Rattle.std.proofs.Common.{zero, suc, [], inl, inr, arith}
use Rattle.melt_links.specs.Links.{NodeLists, empty_lists, pushed, StandsNowhere}
use Rattle.melt_links.proofs.Numbers.{contains_none, contains_cases}

-- the lists when one of them is put there
abbrev one : NodeLists
one = pushed (empty_lists 4 2) 0 1

pub none_has_first : StandsNowhere (empty_lists 4 2) 1
none_has_first zero there = contains_none 1 there
none_has_first (suc zero) there = contains_none 1 there
none_has_first (suc (suc list)) there = contains_none 1 there

pub one_has_no_second : StandsNowhere one 3
one_has_no_second zero there =
    elim (contains_cases 1 3 [] there) [
      | inl same ↦ absurd (omega (arith, same))
      | inr among ↦ contains_none 3 among
    ]
one_has_no_second (suc zero) there = contains_none 3 there
one_has_no_second (suc (suc list)) there = contains_none 3 there
