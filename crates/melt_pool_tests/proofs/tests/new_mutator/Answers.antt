use Rattle.std.proofs.Common.{◌≡◌, ℕ, refl, sym, ◌∙◌, ap, subst}
use Rattle.std.specs.Prelude.{Some, [], replicate}
use Rattle.melt_model.specs.declared.history.Value.TheVariants.{Nil}
use Rattle.melt_trace.specs.Script.{operations}
use Rattle.melt_epoch.specs.declared.mutator.Mutator.{Mutator}
use Rattle.melt_epoch.proofs.Empty.{new_may_start}
use Rattle.melt_safepoint.specs.Threads.{IsNewThread}
use Rattle.melt_pool.specs.declared.worker.Worker.{Worker}
use Rattle.melt_pool_tests.specs.declared.tests.NoDisk.{NoDisk}
use Rattle.melt_pool_tests.proofs.Starting.{new_rests}
use Rattle.melt_pool_tests.proofs.tests.new_mutator.Goals as goal

pub returns-clause-may_start : goal.returns-clause-may_start
returns-clause-may_start g c =
    let is = c.set_reader.ensures in
    let worker : Worker NoDisk = record { reader = record { faults = 0 }; state = Some c.in-Ok.state } in
    new_may_start (λ (x : Worker NoDisk). Some []) c.set_reader.new.self worker refl
    (ap (λ (m : Mutator (Worker NoDisk)). m.seat) is ∙ c.new-mutator.ensures.seat)
    (ap (λ (m : Mutator (Worker NoDisk)). m.reader) is)
    (ap (λ (m : Mutator (Worker NoDisk)). m.registers.regs) is ∙ c.new-mutator.ensures.registers)
    (ap (λ (m : Mutator (Worker NoDisk)). m.values) is ∙ c.new-mutator.ensures.values)

pub returns-clause-new : goal.returns-clause-new
returns-clause-new g c =
    let is = c.set_reader.ensures in
    let script = c.args.trace.now in
    let state = c.in-Ok.state in
    let m : Mutator (Worker NoDisk) = c.set_reader.new.self in
    let worker : Worker NoDisk = record { reader = record { faults = 0 }; state = Some state } in
    let thread : m.thread ≡ c.args.thread =
    ap (λ (x : Mutator (Worker NoDisk)). x.thread) is ∙ c.new-mutator.ensures.thread in
    let values : m.values ≡ replicate 16 Nil =
    ap (λ (x : Mutator (Worker NoDisk)). x.values) is ∙ c.new-mutator.ensures.values in (
      state,
      new_rests script state m worker
          (subst (λ (t : ℕ). IsNewThread (operations script t) script.globals state) (sym thread) c.in-Ok.ensures)
          (ap (λ (x : Mutator (Worker NoDisk)). x.reader) is) refl values,
    )
