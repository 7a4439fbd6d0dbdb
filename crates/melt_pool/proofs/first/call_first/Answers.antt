use Rattle.std.proofs.Common.{◌≡◌, ◌≢◌, rules, sym, subst}
use Rattle.std.specs.Prelude.{None, Some}
use Rattle.melt_model.specs.declared.operations.Op.TheVariants.{Collect}
use Rattle.melt_epoch.specs.declared.mutator.Mutator.{Mutator}
use Rattle.melt_safepoint.specs.declared.thread.Mode.TheVariants.{Lacking}
use Rattle.melt_safepoint.specs.declared.thread.ThreadState.{ThreadState}
use Rattle.melt_pool.specs.Programs.{Works, made_again}
use Rattle.melt_pool.specs.Firsts.{CameTo}
use Rattle.melt_pool.specs.Workers.{faults_of}
use Rattle.melt_pool.proofs.Firsts.{came_first}
use Rattle.melt_pool.proofs.Running.{brings_one, worker_reads, works_with}
use Rattle.melt_pool.proofs.first.call_first.Goals as goal

pub make_first-first-requires-clause-works : goal.make_first-first-requires-clause-works
make_first-first-requires-clause-works g c =
    let words = c.args.epoch.now.words in
    let m = c.args.m.now in
    let worker = c.in-Some.worker in
    let state = c.in-Some-take.state in
    let runs = c.requires.runs in
    let there : m.reader ≡ Some worker = search rules in
    let had : worker.state ≡ Some state = search rules in
    let same : runs.1.state ≡ state = brings_one m runs.1.state state worker runs.1.brings there had in
    let is : c.set_reader.new.self ≡ record m { reader = Some (record worker { state = None }) } = search rules in (
      runs.0,
      subst (λ (x : Mutator _). Works runs.0 words x (made_again state)) (sym is)
          (works_with runs.0 words m (made_again state) (Some (record worker { state = None }))
          (subst (λ (s : ThreadState). Works runs.0 words m (made_again s)) same runs.1.works)),
    )

pub make_first-first-requires-clause-reader : goal.make_first-first-requires-clause-reader
make_first-first-requires-clause-reader g c =
    let m = c.args.m.now in
    let worker = c.in-Some.worker in
    let there : m.reader ≡ Some worker = search rules in
    let is : c.set_reader.new.self ≡ record m { reader = Some (record worker { state = None }) } = search rules in
    worker_reads g.R.RecordReader.image c.args.epoch.now.words m c.set_reader.new.self worker None there is
    c.requires.reader

pub make_first-first-requires-clause-lacks : goal.make_first-first-requires-clause-lacks
make_first-first-requires-clause-lacks g c =
    let m = c.args.m.now in
    let worker = c.in-Some.worker in
    let state = c.in-Some-take.state in
    let may = c.requires.calls in
    let there : m.reader ≡ Some worker = search rules in
    let had : worker.state ≡ Some state = search rules in
    let same : may.state ≡ state = brings_one m may.state state worker may.brings there had in
    subst (λ (s : ThreadState). s.mode ≡ Lacking) same may.lacks

pub make_first-first-requires-clause-calls : goal.make_first-first-requires-clause-calls
make_first-first-requires-clause-calls g c =
    let m = c.args.m.now in
    let worker = c.in-Some.worker in
    let state = c.in-Some-take.state in
    let may = c.requires.calls in
    let there : m.reader ≡ Some worker = search rules in
    let had : worker.state ≡ Some state = search rules in
    let same : may.state ≡ state = brings_one m may.state state worker may.brings there had in
    subst (λ (s : ThreadState). s.op ≢ Some Collect) same may.calls

pub returns-clause-came : goal.returns-clause-came
returns-clause-came g c =
    let words = c.args.epoch.now.words in
    let finish = c.args.epoch.now.end in
    let every = c.args.every in
    let faults = g.R.RecordReader.faults in
    let m = c.args.m.now in
    let worker = c.in-Some.worker in
    let state = c.in-Some-take.state in
    let after = c.make_first-first.new.state in
    let r = c.make_first-first.new.m in
    let back = c.in-Some-take_reader.worker in
    let first = c.make_first-first.result in
    let there : m.reader ≡ Some worker = search rules in
    let had : worker.state ≡ Some state = search rules in
    let is : c.set_reader.new.self ≡ record m { reader = Some (record worker { state = None }) } = search rules in
    let now : r.reader ≡ Some back = search rules in
    let n_is : c.set_reader-2.new.self ≡ record r { reader = Some (record back { state = Some after }) } =
    search rules in
    came_first faults finish every words m r c.set_reader-2.new.self worker back state after there had now n_is first
    (subst (λ (x : Mutator _). CameTo (faults_of faults) finish every words x r state after first) is
    c.make_first-first.ensures.came)

pub returns-clause-reader : goal.returns-clause-reader
returns-clause-reader g c =
    let r = c.make_first-first.new.m in
    let back = c.in-Some-take_reader.worker in
    let after = c.make_first-first.new.state in
    let now : r.reader ≡ Some back = search rules in
    let n_is : c.set_reader-2.new.self ≡ record r { reader = Some (record back { state = Some after }) } =
    search rules in
    worker_reads g.R.RecordReader.image c.args.epoch.now.words r c.set_reader-2.new.self back (Some after) now n_is
    c.make_first-first.ensures.reader
