use Rattle.std.proofs.Common.{◌≡◌, ◌<◌, length, sym, ◌∙◌, subst, arith}
use Rattle.std.specs.Prelude.{slice_index_or}
use Rattle.std.proofs.lemmas.Option.{get_or_from_slice_get, slice_get_within}
use Rattle.melt_epoch.specs.Mutators.{HasReader}
use Rattle.melt_epoch.specs.declared.mutator.Mutator.{Mutator}
use Rattle.melt_pool.specs.Workers.{MayRun, Runs, image_of}
use Rattle.melt_pool.proofs.epoch.run_all.Goals as goal

pub for_each_mut-requires-clause-accepts : goal.for_each_mut-requires-clause-accepts
for_each_mut-requires-clause-accepts g c κs within i p below is =
    let words = c.args.epoch.now.words in
    let runs = c.requires.runs in (
      (runs.0, subst (λ (m : Mutator _). MayRun runs.0 words m) (sym is) (runs.1 i p.now below)),
      subst (λ (m : Mutator _). HasReader (image_of g.R.RecordReader.image) words m) (sym is)
          (c.requires.readers i p.now below),
    )

pub returns-clause-runs : goal.returns-clause-runs
returns-clause-runs g c =
    let words = c.args.epoch.now.words in
    let finish = c.args.epoch.now.end in
    let every = c.args.every in
    let old = c.args.mutators.now in
    let new = c.for_each_mut.new.s in
    record {
      count = c.for_each_mut.auto.s;
      each = λ k m n was is.
          let change = (c.for_each_mut.ensures k m (slice_get_within old k m was)).1 in
          let same : length new ≡ length old = c.for_each_mut.auto.s in
          let below : k < length old = slice_get_within old k m was in
          let there : slice_index_or old k m ≡ m = get_or_from_slice_get old k m m was in
          let here : slice_index_or new k m ≡ n = get_or_from_slice_get new k n m is in
          subst (λ (x : Mutator _). Runs g.R.RecordReader.faults finish every words x n) (change.argument_is ∙ there)
          (subst (λ (x : Mutator _). Runs g.R.RecordReader.faults finish every words change.argument.now x)
          (change.left ∙ here) change.call.0);
    }

pub returns-clause-readers : goal.returns-clause-readers
returns-clause-readers g c k d below =
    let words = c.args.epoch.now.words in
    let old = c.args.mutators.now in
    let new = c.for_each_mut.new.s in
    let same : length new ≡ length old = c.for_each_mut.auto.s in
    let change = (c.for_each_mut.ensures k d (omega (arith, below, same))).1 in
    subst (λ (x : Mutator _). HasReader (image_of g.R.RecordReader.image) words x) change.left change.call.1
