use Rattle.std.proofs.Common.{◌≡◌, sym, ◌∙◌}
use Rattle.std.specs.Prelude.{Some, []}
use Rattle.melt_epoch.proofs.Empty.{two_may_start}
use Rattle.melt_epoch_tests.specs.declared.tests.epoch.given.NoDisk.{NoDisk}
use Rattle.melt_epoch_tests.proofs.tests.epoch.given.two_mutators.Goals as goal

pub returns : goal.returns
returns c =
    two_may_start (λ (x : NoDisk). Some []) c.new_mutator.result c.new_mutator-2.result
    (λ same. let e : 0 ≡ 1 = sym c.new_mutator.ensures.thread ∙ (same ∙ c.new_mutator-2.ensures.thread) in
    absurd (cc))
    c.new_mutator.ensures.may_start c.new_mutator-2.ensures.may_start
