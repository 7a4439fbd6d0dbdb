use Rattle.std.proofs.Common.{◌≡◌, ◌≤◌, ℕ, sym, ◌∙◌, ap, subst}
use Rattle.std.specs.Prelude.{None, Some}
use Rattle.melt_rule.specs.declared.began.Start.{Start}
use Rattle.melt_epoch.specs.Ends.{MutatorsBegin}
use Rattle.melt_pool.specs.Epochs.{AllMayRun, AllRest, Ended}
use Rattle.melt_pool.specs.Firsts.{AllCame}
use Rattle.melt_pool.specs.Workers.{image_of}
use Rattle.melt_pool.specs.declared.first.First.TheVariants.{Went, Lacked, Stopped}
use Rattle.melt_pool.proofs.After.{came_seated, may_call}
use Rattle.melt_pool.proofs.Ending.{lacked_ends, never_stopped_first, went_ends}
use Rattle.melt_pool.proofs.Passing.{all_end, all_joined}
use Rattle.melt_pool.proofs.epoch.run_epoch.Goals as goal

pub run_from-came-requires-clause-runs : goal.run_from-came-requires-clause-runs
run_from-came-requires-clause-runs g c κs within =
    let rest = c.requires.rest in
    let begun = c.in_ok-epoch in (
      rest.0,
      all_joined rest.0 begun.epoch.words c.args.mutators.now c.begin_with.new.mutators
          (subst (λ (s : Start). AllRest rest.0 s.began c.args.mutators.now) (sym begun.ensures.start) rest.1)
          begun.ensures.kept begun.ensures.joined,
    )

pub run_from-came-requires-clause-first : goal.run_from-came-requires-clause-first
run_from-came-requires-clause-first g c κs within =
    let rest = c.requires.rest in
    may_call rest.0 c.args.start.now.began c.args.first c.args.mutators.now c.begin_with.new.mutators rest.1
    c.in_ok-epoch.ensures.kept c.requires.first

pub finish-heap-requires : goal.finish-heap-requires
finish-heap-requires g c =
    let rest = c.requires.rest in
    let begun = c.in_ok-epoch in
    let words = begun.epoch.words in
    let image = image_of g.R.RecordReader.image in
    let ms = c.args.mutators.now in
    let ns = c.begin_with.new.mutators in
    let rs = c.run_from-came.new.mutators in
    let may : AllMayRun rest.0 words ns =
    all_joined rest.0 words ms ns (subst (λ (s : Start). AllRest rest.0 s.began ms) (sym begun.ensures.start) rest.1)
    begun.ensures.kept begun.ensures.joined in
    let seated =
    came_seated g.R.RecordReader.faults begun.epoch.end c.args.every words c.args.first rest.0 ns rs
    c.run_from-came.result may begun.ensures.joined c.run_from-came.ensures.came in
    all_end image words ms ns rs
    (subst (λ (s : Start). MutatorsBegin image s ms) (sym begun.ensures.start) c.requires.mutators) begun.ensures.kept
    seated.0 seated.1

pub returns-in-Went-clause-ended : goal.returns-in-Went-clause-ended
returns-in-Went-clause-ended g c =
    let begun = c.in_ok-epoch in
    let words = begun.epoch.words in
    let image = g.R.RecordReader.image in
    let faults = g.R.RecordReader.faults in
    let ms = c.args.mutators.now in
    let ns = c.begin_with.new.mutators in
    let rs = c.run_from-came.new.mutators in
    let qs = c.finish-heap.new.mutators in
    let heap = c.finish-heap.result.0 in
    let h = c.finish-heap.result.1 in
    let every = c.args.every in
    let first = c.args.first in
    let finish : begun.epoch.end ≡ c.args.end =
    begun.epoch.fits.ends ∙ (ap (λ (s : Start). s.began.end) begun.ensures.start ∙ sym c.requires.heap.ends) in
    let came : AllCame faults c.args.end every first words ns rs Went =
    subst (λ (n : ℕ). AllCame faults n every first words ns rs Went) finish
    (subst (AllCame faults begun.epoch.end every first words ns rs) c.in-Went.is c.run_from-came.ensures.came) in
    subst (λ (s : Start). Ended image faults c.args.end every first s.began ms qs heap h None) begun.ensures.start
    (went_ends image faults c.args.end every words ms ns rs qs heap h begun.ensures.kept begun.ensures.joined
    c.finish-heap.ensures.left c.finish-heap.ensures.ended first came)

pub returns-in-Lacked-clause-ended : goal.returns-in-Lacked-clause-ended
returns-in-Lacked-clause-ended g c =
    let begun = c.in_ok-epoch in
    let words = begun.epoch.words in
    let image = g.R.RecordReader.image in
    let faults = g.R.RecordReader.faults in
    let ms = c.args.mutators.now in
    let ns = c.begin_with.new.mutators in
    let rs = c.run_from-came.new.mutators in
    let qs = c.finish-heap.new.mutators in
    let heap = c.finish-heap.result.0 in
    let h = c.finish-heap.result.1 in
    let every = c.args.every in
    let first = c.args.first in
    let need = c.in-Lacked.need in
    let came : AllCame faults begun.epoch.end every first words ns rs (Lacked need) =
    subst (AllCame faults begun.epoch.end every first words ns rs) c.in-Lacked.is c.run_from-came.ensures.came in
    subst (λ (s : Start). Ended image faults c.args.end every first s.began ms qs heap h (Some need))
    begun.ensures.start
    (lacked_ends image faults c.args.end every words ms ns rs qs heap h begun.ensures.kept begun.ensures.joined
    c.finish-heap.ensures.left c.finish-heap.ensures.ended first need came)

pub unreachable-requires : goal.unreachable-requires
unreachable-requires g c =
    let begun = c.in_ok-epoch in
    let words = begun.epoch.words in
    let image = g.R.RecordReader.image in
    let faults = g.R.RecordReader.faults in
    let ms = c.args.mutators.now in
    let ns = c.begin_with.new.mutators in
    let rs = c.run_from-came.new.mutators in
    let every = c.args.every in
    let first = c.args.first in
    let came : AllCame faults begun.epoch.end every first words ns rs Stopped =
    subst (AllCame faults begun.epoch.end every first words ns rs) c.in-Stopped.is c.run_from-came.ensures.came in
    let some_forward : 1 ≤ words.start.began.forwards =
    subst (λ (s : Start). 1 ≤ s.began.forwards) (sym begun.ensures.start) c.requires.some_forward in
    never_stopped_first image faults begun.epoch.end every words ms ns rs c.finish-heap.new.mutators
    c.finish-heap.result.0 c.finish-heap.result.1 begun.ensures.kept begun.ensures.joined c.finish-heap.ensures.left
    c.finish-heap.ensures.ended first came some_forward
