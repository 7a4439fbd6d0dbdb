use Rattle.std.proofs.Common.{refl, ◌∙◌, ap}
use Rattle.std.specs.Prelude.{Some, []}
use Rattle.melt_epoch.specs.declared.mutator.Mutator.{Mutator}
use Rattle.melt_epoch.proofs.Empty.{new_may_start}
use Rattle.melt_epoch_tests.specs.declared.tests.epoch.given.NoDisk.{NoDisk}
use Rattle.melt_epoch_tests.proofs.tests.epoch.given.new_mutator.Goals as goal

pub returns-clause-may_start : goal.returns-clause-may_start
returns-clause-may_start c =
    let is = c.set_reader.ensures in
    new_may_start (λ (x : NoDisk). Some []) c.set_reader.new.self (record { faults = 0 }) refl
    (ap (λ (m : Mutator NoDisk). m.seat) is ∙ c.new-mutator.ensures.seat)
    (ap (λ (m : Mutator NoDisk). m.reader) is)
    (ap (λ (m : Mutator NoDisk). m.registers.regs) is ∙ c.new-mutator.ensures.registers)
    (ap (λ (m : Mutator NoDisk). m.values) is ∙ c.new-mutator.ensures.values)
