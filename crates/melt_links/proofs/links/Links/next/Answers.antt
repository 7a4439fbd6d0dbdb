use Rattle.std.proofs.Common.{◌≡◌, Some, sym, subst, suc, ap, ◌∙◌, arith}
use Rattle.std.specs.Prelude.{slice_get}
use Rattle.melt_links.specs.Links.{NodeLists, Stands, list_at, node_of}
use Rattle.melt_links.proofs.Listed.{has_place, shows_next}
use Rattle.melt_links.proofs.links.Links.next.Goals as goal

pub index-requires : goal.index-requires
index-requires c =
    let below = has_place c.args.node c.self.invariant
    (subst (λ (all : NodeLists). Stands all c.args.node) (sym c.self.view_is) c.requires) in
    omega (arith, below, c.self.inside.places.ok.0)

pub returns : goal.returns
returns c = λ list at is.
    subst (λ (all : NodeLists). slice_get (list_at all list) at ≡ Some c.args.node
    → c.node_at.result ≡ slice_get (list_at all list) (suc at)) c.self.view_is
    (shows_next list at c.args.node c.index.result.now c.node_at.result c.self.invariant c.index.ensures
    (c.node_at.ensures ∙ ap (λ (all : NodeLists). node_of all.nodes c.index.result.now.next) (sym c.self.view_is))) is
