use Rattle.std.proofs.Common.{◌-◌, None, sym, subst, ◌∙◌, ap, slice_set}
use Rattle.melt_links.specs.Links.{NodeLists, StandsNowhere, pushed}
use Rattle.melt_scion.specs.Scions.{Scions, IsLive, IsTable, IsKept, Frees, table_of}
use Rattle.melt_scion.proofs.LinkedScions.{freed, placed, stands_nowhere}
use Rattle.melt_scion.proofs.scions.ScionTable.free.Goals as goal

pub unlink-requires : goal.unlink-requires
unlink-requires c =
    let live = subst (λ (table : Scions). IsLive table c.args.scion) (sym c.self.view_is) c.requires in
    (1, (placed c.args.scion c.self.invariant live).stands)

pub push_front-requires-clause-alone : goal.push_front-requires-clause-alone
push_front-requires-clause-alone c =
    subst (λ (links : NodeLists). StandsNowhere links (c.args.scion - 1)) (sym c.unlink.ensures)
    (stands_nowhere c.self.inside.links (c.args.scion - 1))

pub invariant_of-self : goal.invariant_of-self
invariant_of-self c =
    let live = subst (λ (table : Scions). IsLive table c.args.scion) (sym c.self.view_is) c.requires in
    let pairs = slice_set c.self.inside.pairs.items (c.args.scion - 1) None in
    let links_are = c.push_front.ensures
    ∙ ap (λ (links : NodeLists). pushed links 0 (c.args.scion - 1)) c.unlink.ensures in
    subst (IsKept pairs) (sym links_are)
    (freed c.args.scion (c.args.scion - 1) (placed c.args.scion c.self.invariant live).next c.self.invariant live).1

pub returns-clause-frees : goal.returns-clause-frees
returns-clause-frees c =
    let live = subst (λ (table : Scions). IsLive table c.args.scion) (sym c.self.view_is) c.requires in
    let pairs = slice_set c.self.inside.pairs.items (c.args.scion - 1) None in
    let links_are = c.push_front.ensures
    ∙ ap (λ (links : NodeLists). pushed links 0 (c.args.scion - 1)) c.unlink.ensures in
    subst (λ (old : Scions). Frees old (table_of pairs c.push_front.new.self) c.args.scion) c.self.view_is
    (subst (λ (links : NodeLists). Frees (table_of c.self.inside.pairs.items c.self.inside.links) (table_of pairs links)
    c.args.scion) (sym links_are)
    (freed c.args.scion (c.args.scion - 1) (placed c.args.scion c.self.invariant live).next c.self.invariant live).0)

pub returns-clause-table : goal.returns-clause-table
returns-clause-table c =
    let live = subst (λ (table : Scions). IsLive table c.args.scion) (sym c.self.view_is) c.requires in
    let pairs = slice_set c.self.inside.pairs.items (c.args.scion - 1) None in
    let links_are = c.push_front.ensures
    ∙ ap (λ (links : NodeLists). pushed links 0 (c.args.scion - 1)) c.unlink.ensures in
    subst (λ (links : NodeLists). IsTable (table_of pairs links)) (sym links_are)
    (freed c.args.scion (c.args.scion - 1) (placed c.args.scion c.self.invariant live).next c.self.invariant live).1.table
