use Rattle.std.proofs.Common.{◌≡◌, ◌<◌, length, sym, subst, ap, ◌∙◌}
use Rattle.std.specs.Prelude.{slice_get}
use Rattle.melt_links.specs.Links.{NodeLists, list_at, node_of}
use Rattle.melt_links.proofs.Listed.{shows_first}
use Rattle.melt_links.proofs.links.Links.first.Goals as goal

pub returns : goal.returns
returns c =
    subst (λ (all : NodeLists). c.node_at.result ≡ slice_get (list_at all c.args.list) 0) c.self.view_is
    (shows_first c.args.list c.index.result.now c.node_at.result c.self.invariant
    (subst (λ (all : NodeLists). c.args.list < length all.lists) (sym c.self.view_is) c.requires) c.index.ensures
    (c.node_at.ensures ∙ ap (λ (all : NodeLists). node_of all.nodes c.index.result.now.next) (sym c.self.view_is)))
