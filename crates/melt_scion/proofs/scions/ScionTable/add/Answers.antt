use Rattle.std.proofs.Common.{◌+◌, ◌<◌, Some, sym, subst, ◌∙◌, ap, arith, slice_set}
use Rattle.melt_links.specs.Links.{NodeLists, StandsNowhere, pushed}
use Rattle.melt_scion.specs.Scions.{Scions, IsTable, IsKept, Adds, table_of}
use Rattle.melt_scion.proofs.LinkedScions.{added, next_given, stands_nowhere}
use Rattle.melt_scion.proofs.scions.ScionTable.add.Goals as goal

pub push_front-requires-clause-node : goal.push_front-requires-clause-node
push_front-requires-clause-node c =
    let next = next_given c.unwrap-node.result c.self.invariant (sym c.first.ensures ∙ c.unwrap-node.ensures) in
    subst (λ (links : NodeLists). c.unwrap-node.result < links.nodes) (sym c.unlink.ensures)
    (omega (arith, next.in_range, c.self.invariant.nodes))

pub push_front-requires-clause-alone : goal.push_front-requires-clause-alone
push_front-requires-clause-alone c =
    subst (λ (links : NodeLists). StandsNowhere links c.unwrap-node.result) (sym c.unlink.ensures)
    (stands_nowhere c.self.inside.links c.unwrap-node.result)

pub index_mut-requires : goal.index_mut-requires
index_mut-requires c =
    let next = next_given c.unwrap-node.result c.self.invariant (sym c.first.ensures ∙ c.unwrap-node.ensures) in
    omega (arith, next.in_range, c.self.inside.pairs.ok.0)

pub overflow_add-result : goal.overflow_add-result
overflow_add-result c =
    let next = next_given c.unwrap-node.result c.self.invariant (sym c.first.ensures ∙ c.unwrap-node.ensures) in
    omega (arith, next.in_range, c.self.invariant.small)

pub invariant_of-self : goal.invariant_of-self
invariant_of-self c =
    let pairs = slice_set c.self.inside.pairs.items c.unwrap-node.result (Some (c.args.home, c.args.address)) in
    let links_are = c.push_front.ensures
    ∙ ap (λ (links : NodeLists). pushed links 1 c.unwrap-node.result) c.unlink.ensures in
    subst (IsKept pairs) (sym links_are)
    (added c.unwrap-node.result c.args.home c.args.address c.self.invariant
    (sym c.first.ensures ∙ c.unwrap-node.ensures)).1

pub returns-clause-adds : goal.returns-clause-adds
returns-clause-adds c =
    let pairs = slice_set c.self.inside.pairs.items c.unwrap-node.result (Some (c.args.home, c.args.address)) in
    let links_are = c.push_front.ensures
    ∙ ap (λ (links : NodeLists). pushed links 1 c.unwrap-node.result) c.unlink.ensures in
    let done = (added c.unwrap-node.result c.args.home c.args.address c.self.invariant
    (sym c.first.ensures ∙ c.unwrap-node.ensures)).0 in
    subst (λ (old : Scions). Adds old (table_of pairs c.push_front.new.self) c.args.home c.args.address
    (c.unwrap-node.result + 1)) c.self.view_is
    (subst (λ (links : NodeLists). Adds (table_of c.self.inside.pairs.items c.self.inside.links) (table_of pairs links)
    c.args.home c.args.address (c.unwrap-node.result + 1)) (sym links_are) done)

pub returns-clause-table : goal.returns-clause-table
returns-clause-table c =
    let pairs = slice_set c.self.inside.pairs.items c.unwrap-node.result (Some (c.args.home, c.args.address)) in
    let links_are = c.push_front.ensures
    ∙ ap (λ (links : NodeLists). pushed links 1 c.unwrap-node.result) c.unlink.ensures in
    subst (λ (links : NodeLists). IsTable (table_of pairs links)) (sym links_are)
    (added c.unwrap-node.result c.args.home c.args.address c.self.invariant
    (sym c.first.ensures ∙ c.unwrap-node.ensures)).1.table
