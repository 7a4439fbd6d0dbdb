use Rattle.std.specs.Prelude.{Some, []}
use Rattle.melt_epoch.proofs.Empty.{eight_may_start}
use Rattle.melt_epoch_tests.specs.declared.tests.epoch.given.NoDisk.{NoDisk}
use Rattle.melt_epoch_tests.proofs.tests.epoch.given.eight_mutators.Goals as goal

pub returns : goal.returns
returns c =
    let a = c.new_mutator.ensures in
    let b = c.new_mutator-2.ensures in
    let d = c.new_mutator-3.ensures in
    let e = c.new_mutator-4.ensures in
    let f = c.new_mutator-5.ensures in
    let h = c.new_mutator-6.ensures in
    let i = c.new_mutator-7.ensures in
    let j = c.new_mutator-8.ensures in
    eight_may_start (λ (x : NoDisk). Some []) _ (
      (a.thread, a.may_start),
      (
        (b.thread, b.may_start),
        (
          (d.thread, d.may_start),
          (
            (e.thread, e.may_start),
            (
              (f.thread, f.may_start),
              (
                (h.thread, h.may_start),
                ((i.thread, i.may_start), ((j.thread, j.may_start), tt)),
              ),
            ),
          ),
        ),
      ),
    )
