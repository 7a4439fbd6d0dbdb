use Rattle.std.proofs.Common.{◌-◌, sym, subst, arith, rules}
use Rattle.melt_links.specs.Links.{NodeLists, StandsNowhere}
use Rattle.melt_scion.proofs.LinkedScions.{all_filled, not_filled}
use Rattle.melt_scion.proofs.scions.ScionTable.new.Goals as goal

pub push_front-requires-clause-alone : goal.push_front-requires-clause-alone
push_front-requires-clause-alone c =
    subst (λ (links : NodeLists). StandsNowhere links (c.args.n - 1 - c.loop-pushed.pushed)) (sym c.loop-pushed.invariant)
    (not_filled c.args.n c.loop-pushed.pushed c.loop-pushed-test.true)

pub invariant_of-result : goal.invariant_of-result
invariant_of-result c =
    (all_filled c.args.n c.loop-pushed.pushed
    (c.in_ok-pairs.ensures.items_if_clones_equal (λ y clone. search rules)) c.loop-pushed.invariant c.ranges.n.fits
    (omega (arith, c.loop-pushed.auto.pushed-end, c.loop-pushed-test.false))).1

pub returns-clause-empty : goal.returns-clause-empty
returns-clause-empty c =
    (all_filled c.args.n c.loop-pushed.pushed
    (c.in_ok-pairs.ensures.items_if_clones_equal (λ y clone. search rules)) c.loop-pushed.invariant c.ranges.n.fits
    (omega (arith, c.loop-pushed.auto.pushed-end, c.loop-pushed-test.false))).0

pub returns-clause-table : goal.returns-clause-table
returns-clause-table c =
    (all_filled c.args.n c.loop-pushed.pushed
    (c.in_ok-pairs.ensures.items_if_clones_equal (λ y clone. search rules)) c.loop-pushed.invariant c.ranges.n.fits
    (omega (arith, c.loop-pushed.auto.pushed-end, c.loop-pushed-test.false))).1.table
