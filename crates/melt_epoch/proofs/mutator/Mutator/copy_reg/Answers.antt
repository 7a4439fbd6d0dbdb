use Rattle.std.proofs.Common.{List, sym, subst}
use Rattle.std.specs.Prelude.{slice_index}
use Rattle.melt_model.specs.Thread.{value_in}
use Rattle.melt_model.specs.declared.history.Value.{Value}
use Rattle.melt_epoch.proofs.Holding.{seated_set}
use Rattle.melt_epoch.specs.Mutators.{IsSeated, with_reference}
use Rattle.melt_epoch.specs.declared.mutator.Mutator.{Mutator}
use Rattle.melt_epoch.proofs.mutator.Mutator.copy_reg.Goals as goal

pub returns-clause-seated : goal.returns-clause-seated
returns-clause-seated g c words seated =
    let m = c.args.self.now in
    let dst = c.args.dst in
    let src = c.args.src in
    let next = seated_set words m dst (slice_index m.registers.regs src) (value_in m.values src) seated
    c.set.ensures.sixteen c.requires.registers.0 (seated.registers src) in
    subst (λ (x : Mutator _). IsSeated words (record x { values = c.pick-values.result })) (sym c.set.ensures.sets)
    (subst (λ (l : List Value).
    IsSeated words
    (record (with_reference m dst (slice_index m.registers.regs src) (value_in m.values src)) { values = l }))
    (sym c.pick-values.ensures) next)
