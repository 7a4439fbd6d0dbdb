use Rattle.std.proofs.Common.{◌+◌, ◌<◌, length, refl, sym, subst, arith}
use Rattle.melt_links.specs.Links.{NodeLists, StandsNowhere}
use Rattle.melt_links.proofs.Listed.{has_first}
use Rattle.melt_links.proofs.Standing.{pushes}
use Rattle.melt_links.proofs.links.Links.push_front.Goals as goal

pub index_mut-requires-3 : goal.index_mut-requires-3
index_mut-requires-3 c =
    let below = has_first c.args.list c.index.result.now c.self.invariant
    (subst (λ (all : NodeLists). c.args.list < length all.lists) (sym c.self.view_is) c.requires.list) c.index.ensures in
    omega (arith, below, c.self.inside.places.ok.0)

pub invariant_of-self : goal.invariant_of-self
invariant_of-self c =
    pushes (c.self.inside.nodes + c.args.list) c.args.list c.args.node c.index.result.now c.index_mut-3.result.now
    c.index_mut-2.result.now c.self.invariant
    (subst (λ (all : NodeLists). c.args.list < length all.lists) (sym c.self.view_is) c.requires.list)
    (subst (λ (all : NodeLists). c.args.node < all.nodes) (sym c.self.view_is) c.requires.node)
    (subst (λ (all : NodeLists). StandsNowhere all c.args.node) (sym c.self.view_is) c.requires.alone)
    c.pick.result c.pick.ensures refl c.index.ensures c.index_mut-2.ensures.value c.index_mut-3.ensures.value
