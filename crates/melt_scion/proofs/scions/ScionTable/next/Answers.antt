use Rattle.std.proofs.Common.{◌≡◌, ◌+◌, suc, Some, sym, ap, subst, ◌∙◌, arith}
use Rattle.std.specs.Option.{option_map}
use Rattle.melt_scion.specs.Scions.{Scions, IsLive, next_after}
use Rattle.melt_scion.proofs.LinkedScions.{after_live, after_below}
use Rattle.melt_scion.proofs.scions.ScionTable.next.Goals as goal

pub returns-in_err-node-clause-next : goal.returns-in_err-node-clause-next
returns-in_err-node-clause-next c =
    let live = subst (λ (table : Scions). IsLive table c.args.scion) (sym c.self.view_is) c.requires in
    c.from_residual.ensures ∙ sym (ap (λ (table : Scions). next_after table.live c.args.scion) (sym c.self.view_is)
    ∙ (after_live c.args.scion c.next.result c.self.invariant live c.next.ensures
    ∙ ap (option_map suc) c.in_err-node.was))

pub overflow_add-result : goal.overflow_add-result
overflow_add-result c =
    let live = subst (λ (table : Scions). IsLive table c.args.scion) (sym c.self.view_is) c.requires in
    let low = after_below c.args.scion c.in_ok-node.node c.next.result c.self.invariant live c.next.ensures
    c.in_ok-node.was in
    omega (arith, low, c.self.invariant.small)

pub returns-clause-next : goal.returns-clause-next
returns-clause-next c =
    let live = subst (λ (table : Scions). IsLive table c.args.scion) (sym c.self.view_is) c.requires in
    let next : suc c.in_ok-node.node ≡ c.in_ok-node.node + 1 = omega arith in
    sym (ap (λ (table : Scions). next_after table.live c.args.scion) (sym c.self.view_is)
    ∙ (after_live c.args.scion c.next.result c.self.invariant live c.next.ensures
    ∙ (ap (option_map suc) c.in_ok-node.was ∙ ap Some next)))
