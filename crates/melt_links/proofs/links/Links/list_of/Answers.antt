use Rattle.std.proofs.Common.{◌≡◌, ◌<◌, Some, sym, subst}
use Rattle.std.specs.Prelude.{◌↔◌}
use Rattle.std.specs.List.{Contains}
use Rattle.melt_links.specs.Links.{NodeLists, list_at}
use Rattle.melt_links.proofs.Listed.{shows_list}
use Rattle.melt_links.proofs.links.Links.list_of.Goals as goal

pub returns : goal.returns
returns c = λ list.
    subst (λ (all : NodeLists). (c.then_some.result ≡ Some list) ↔ Contains (list_at all list) c.args.node) c.self.view_is
    (shows_list c.args.node list c.index.result.now c.then_some.result c.self.invariant
    (subst (λ (all : NodeLists). c.args.node < all.nodes) (sym c.self.view_is) c.requires) c.index.ensures
    c.then_some.ensures)
