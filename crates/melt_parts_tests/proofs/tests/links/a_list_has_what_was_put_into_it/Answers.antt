use Rattle.std.proofs.Common.{◌∙◌, ap, subst, sym}
use Rattle.melt_links.specs.Links.{NodeLists, StandsNowhere, pushed}
use Rattle.melt_parts_tests.proofs.Lists.{none_has_first, one_has_no_second}
use Rattle.melt_parts_tests.proofs.tests.links.a_list_has_what_was_put_into_it.Goals as goal

pub push_front-requires-clause-alone : goal.push_front-requires-clause-alone
push_front-requires-clause-alone c =
    subst (λ (all : NodeLists). StandsNowhere all 1) (sym c.in_ok-links.ensures) none_has_first

pub push_front-requires-2-clause-alone : goal.push_front-requires-2-clause-alone
push_front-requires-2-clause-alone c =
    subst (λ (all : NodeLists). StandsNowhere all 3)
    (sym (c.push_front.ensures ∙ ap (λ (all : NodeLists). pushed all 0 1) c.in_ok-links.ensures)) one_has_no_second
