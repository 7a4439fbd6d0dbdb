use Rattle.std.proofs.Common.{◌≡◌, ◌+◌, Some, sym, subst, ◌∙◌, arith}
use Rattle.melt_scion.specs.Scions.{Scions, first_of}
use Rattle.melt_scion.proofs.LinkedScions.{first_live, live_below}
use Rattle.melt_scion.proofs.scions.ScionTable.first.Goals as goal

pub overflow_add-result : goal.overflow_add-result
overflow_add-result c =
    let low = live_below 0 c.in_ok-node.node c.self.invariant (sym c.first.ensures ∙ c.in_ok-node.was) in
    omega (arith, low, c.self.invariant.small)

pub returns-clause-first : goal.returns-clause-first
returns-clause-first c =
    subst (λ (table : Scions). Some (c.in_ok-node.node + 1) ≡ first_of table.live) c.self.view_is
    (sym (first_live _ c.in_ok-node.node (sym c.first.ensures ∙ c.in_ok-node.was)))
