use Rattle.std.proofs.Common.{◌≡◌, rules, sym, ◌∙◌, ap, subst}
use Rattle.std.specs.Prelude.{None, Some}
use Rattle.melt_epoch.specs.declared.mutator.Mutator.{Mutator}
use Rattle.melt_safepoint.specs.Modes.{IsEnded}
use Rattle.melt_safepoint.specs.declared.thread.ThreadState.{ThreadState}
use Rattle.melt_pool.specs.Programs.{ThreadWentOn, WaitsByCause, Works, made_again}
use Rattle.melt_pool.proofs.Running.{back_as_was, brings_one, has_run, worker_reads, works_with}
use Rattle.melt_pool.proofs.worker.run_worker.Goals as goal

pub run_program-requires-clause-works : goal.run_program-requires-clause-works
run_program-requires-clause-works g c =
    let words = c.args.epoch.now.words in
    let m = c.args.m.now in
    let worker = c.in-Some.worker in
    let state = c.in-Some-take.state in
    let runs = c.requires.runs in
    let there : m.reader ≡ Some worker = search rules in
    let had : worker.state ≡ Some state = search rules in
    let same : runs.1.state ≡ state = brings_one m runs.1.state state worker runs.1.brings there had in
    let is : c.set_reader.new.self ≡ record m { reader = Some (record worker { state = None }) } = search rules in (
      runs.0,
      subst (λ (x : Mutator _). Works runs.0 words x (made_again state)) (sym is)
          (works_with runs.0 words m (made_again state) (Some (record worker { state = None }))
          (subst (λ (s : ThreadState). Works runs.0 words m (made_again s)) same runs.1.works)),
    )

pub run_program-requires-clause-reader : goal.run_program-requires-clause-reader
run_program-requires-clause-reader g c =
    let m = c.args.m.now in
    let worker = c.in-Some.worker in
    let there : m.reader ≡ Some worker = search rules in
    let is : c.set_reader.new.self ≡ record m { reader = Some (record worker { state = None }) } = search rules in
    worker_reads g.R.RecordReader.image c.args.epoch.now.words m c.set_reader.new.self worker None there is
    c.requires.reader

pub returns-clause-runs : goal.returns-clause-runs
returns-clause-runs g c =
    let words = c.args.epoch.now.words in
    let m = c.args.m.now in
    let worker = c.in-Some.worker in
    let state = c.in-Some-take.state in
    let there : m.reader ≡ Some worker = search rules in
    let had : worker.state ≡ Some state = search rules in
    let is : c.set_reader.new.self ≡ record m { reader = Some (record worker { state = None }) } = search rules in
    let r = c.run_program.new.m in
    let back = c.in-Some-take_reader.worker in
    let now : r.reader ≡ Some back = search rules in
    let n_is : c.set_reader-2.new.self
    ≡ record r { reader = Some (record back { state = Some c.run_program.new.state }) } = search rules in
    record {
      thread = ap (λ (x : Mutator _). x.thread) n_is
          ∙ (c.run_program.ensures.thread ∙ ap (λ (x : Mutator _). x.thread) is);
      has_run = λ script s brings works.
          let same : s ≡ state = brings_one m s state worker brings there had in
          let began : Works script words c.set_reader.new.self (made_again state) =
          subst (λ (x : Mutator _). Works script words x (made_again state)) (sym is)
          (works_with script words m (made_again state) (Some (record worker { state = None }))
          (subst (λ (y : ThreadState). Works script words m (made_again y)) same works)) in
          has_run g.R.RecordReader.faults c.args.epoch.now.end m (Some (record worker { state = None })) now n_is
          (c.run_program.ensures.works script began) c.run_program.ensures.waits
          (λ over. (c.run_program.ensures.ended (subst (λ (y : ThreadState). IsEnded y.mode) same over)).0 ∙ sym same)
          (λ over.
          let as_was = c.run_program.ensures.ended (subst (λ (y : ThreadState). IsEnded y.mode) same over) in
          back_as_was m there had (as_was.1
          ∙ is) now n_is as_was.0) (λ goes. c.run_program.ensures.ends script began
          (λ over. goes (subst (λ (y : ThreadState). IsEnded y.mode) (sym same) over))) (subst
          (λ (x : Mutator _). ThreadWentOn c.args.every script x r s c.run_program.new.state) is
          (subst (λ (y : ThreadState). ThreadWentOn c.args.every script c.set_reader.new.self r y
          c.run_program.new.state)
          (sym same) (c.run_program.ensures.goes_on script began)))
          (subst (λ (y : ThreadState). WaitsByCause y.mode c.run_program.new.state.mode r) (sym same)
          c.run_program.ensures.caused);
    }

pub returns-clause-reader : goal.returns-clause-reader
returns-clause-reader g c =
    let r = c.run_program.new.m in
    let back = c.in-Some-take_reader.worker in
    let now : r.reader ≡ Some back = search rules in
    let n_is : c.set_reader-2.new.self
    ≡ record r { reader = Some (record back { state = Some c.run_program.new.state }) } = search rules in
    worker_reads g.R.RecordReader.image c.args.epoch.now.words r c.set_reader-2.new.self back
    (Some c.run_program.new.state) now n_is c.run_program.ensures.reader
