use Rattle.std.proofs.Common.{◌-◌, Some, sym, subst, ◌∙◌, slice_set}
use Rattle.melt_scion.specs.Scions.{Scions, IsLive, SetsAddress, table_of}
use Rattle.melt_scion.proofs.LinkedScions.{moved, placed, read_pair}
use Rattle.melt_scion.proofs.scions.ScionTable.set_address.Goals as goal

pub invariant_of-self : goal.invariant_of-self
invariant_of-self c =
    let live = subst (λ (table : Scions). IsLive table c.args.scion) (sym c.self.view_is) c.requires in
    let next = (placed c.args.scion c.self.invariant live).next in
    let at = read_pair c.args.scion c.index.result.now c.self.invariant live c.index.ensures ∙ c.in-Some.is in
    (moved c.args.scion (c.args.scion - 1) c.args.address next c.self.invariant at).1

pub returns-in-Some-clause-sets : goal.returns-in-Some-clause-sets
returns-in-Some-clause-sets c =
    let live = subst (λ (table : Scions). IsLive table c.args.scion) (sym c.self.view_is) c.requires in
    let next = (placed c.args.scion c.self.invariant live).next in
    let at = read_pair c.args.scion c.index.result.now c.self.invariant live c.index.ensures ∙ c.in-Some.is in
    let done = moved c.args.scion (c.args.scion - 1) c.args.address next c.self.invariant at in
    let pairs = slice_set c.self.inside.pairs.items (c.args.scion - 1) (Some (c.in-Some.home, c.args.address)) in
    subst (λ (old : Scions). SetsAddress old (table_of pairs c.self.inside.links) c.args.scion c.args.address)
    c.self.view_is done.0

pub returns-in-Some-clause-table : goal.returns-in-Some-clause-table
returns-in-Some-clause-table c =
    let live = subst (λ (table : Scions). IsLive table c.args.scion) (sym c.self.view_is) c.requires in
    let next = (placed c.args.scion c.self.invariant live).next in
    let at = read_pair c.args.scion c.index.result.now c.self.invariant live c.index.ensures ∙ c.in-Some.is in
    (moved c.args.scion (c.args.scion - 1) c.args.address next c.self.invariant at).1.table
