use Rattle.std.proofs.Common.{sym, subst, arith}
use Rattle.melt_links.specs.Links.{NodeLists, Stands}
use Rattle.melt_links.proofs.Listed.{has_place, has_neighbours}
use Rattle.melt_links.proofs.Standing.{unlinks}
use Rattle.melt_links.proofs.links.Links.unlink.Goals as goal

pub index-requires : goal.index-requires
index-requires c =
    let below = has_place c.args.node c.self.invariant
    (subst (λ (all : NodeLists). Stands all c.args.node) (sym c.self.view_is) c.requires) in
    omega (arith, below, c.self.inside.places.ok.0)

pub index_mut-requires : goal.index_mut-requires
index_mut-requires c =
    let bounds = has_neighbours c.args.node c.index.result.now c.self.invariant
    (subst (λ (all : NodeLists). Stands all c.args.node) (sym c.self.view_is) c.requires) c.index.ensures in
    omega (arith, bounds.0, c.self.inside.places.ok.0)

pub index_mut-requires-2 : goal.index_mut-requires-2
index_mut-requires-2 c =
    let bounds = has_neighbours c.args.node c.index.result.now c.self.invariant
    (subst (λ (all : NodeLists). Stands all c.args.node) (sym c.self.view_is) c.requires) c.index.ensures in
    omega (arith, bounds.1, c.self.inside.places.ok.0)

pub index_mut-requires-3 : goal.index_mut-requires-3
index_mut-requires-3 c =
    let below = has_place c.args.node c.self.invariant
    (subst (λ (all : NodeLists). Stands all c.args.node) (sym c.self.view_is) c.requires) in
    omega (arith, below, c.self.inside.places.ok.0)

pub invariant_of-self : goal.invariant_of-self
invariant_of-self c =
    unlinks c.args.node c.index.result.now c.index_mut.result.now c.index_mut-2.result.now c.index_mut-3.result.now
    c.self.invariant
    (subst (λ (all : NodeLists). Stands all c.args.node) (sym c.self.view_is) c.requires) c.pick.result
    c.pick.ensures c.index.ensures c.index_mut.ensures.value c.index_mut-2.ensures.value c.index_mut-3.ensures.value
