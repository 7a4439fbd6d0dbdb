use Rattle.std.proofs.Common.{◌≡◌, sym, ◌∙◌}
use Rattle.std.specs.Prelude.{Some, []}
use Rattle.melt_epoch.proofs.Empty.{two_may_start}
use Rattle.melt_pool.specs.declared.worker.Worker.{Worker}
use Rattle.melt_pool_tests.specs.declared.tests.NoDisk.{NoDisk}
use Rattle.melt_pool_tests.proofs.Starting.{two_new}
use Rattle.melt_pool_tests.proofs.tests.first_refused.Goals as goal

pub returns-clause-may_start : goal.returns-clause-may_start
returns-clause-may_start g c =
    two_may_start (λ (x : Worker NoDisk). Some []) c.refuse.new.mutator c.new_mutator.result
    (λ same. let e : 0 ≡ 1 =
    sym (c.refuse.ensures.thread ∙ c.new_mutator-first.ensures.thread) ∙ (same ∙ c.new_mutator.ensures.thread) in
    absurd (cc))
    (c.refuse.ensures.may_start c.new_mutator-first.ensures.may_start) c.new_mutator.ensures.may_start

pub returns-clause-new : goal.returns-clause-new
returns-clause-new g c =
    two_new c.args.trace.now c.refuse.new.mutator c.new_mutator.result
    (c.refuse.ensures.new c.args.trace.now c.new_mutator-first.ensures.new) c.new_mutator.ensures.new
