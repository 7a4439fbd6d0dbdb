-- The threads go on, after the call of one that lacked room or at once.
use Rattle.std.proofs.Common.{◌≡◌, ℕ, ◌<◌, Some, sym, ◌∙◌, subst, arith}
use Rattle.std.specs.Prelude.{Option}
use Rattle.melt_core.specs.Views.{view}
use Rattle.melt_safepoint.specs.Epochs.{EndsEpoch, SomeMayRun, to_do}
use Rattle.melt_safepoint.specs.Rows.{Row, row_of}
use Rattle.melt_safepoint.specs.Shown.{Shown}
use Rattle.melt_safepoint.proofs.Safepoints.{called_own}
use Rattle.melt_safepoint.proofs.ToDo.{called_less}
use Rattle.melt_step.specs.Going.{CallsFirst, MadeCall, core_view}
use Rattle.melt_step.proofs.Going.{goes_from, runs_all, runs_after}
use Rattle.melt_step.proofs.epoch.go_through.Given.{Over}
use Rattle.melt_step.proofs.epoch.go_through.Goals as goal
use Rattle.melt_step.proofs.epoch.go_through.Goals.{In-None-call}

-- the thread that is to be the first may make its call
awaited : (g : Over) (c : In-None-call g)
    → SomeMayRun c.requires.may.0 (Some c.in-Some.thread) (row_of core_view c.args.run.now)
awaited g c =
    subst (λ (f : Option ℕ). SomeMayRun c.requires.may.0 f (row_of core_view c.args.run.now)) c.in-Some.is
    c.requires.may.3

-- it made it
made : (g : Over) (c : In-None-call g) (shown : Shown) → shown.end ≡ c.args.end
    → shown.image ≡ g.R.RecordReader.image c.args.reader.now
    → MadeCall shown (row_of core_view c.args.run.now) (row_of core_view c.call.new.run) c.in-Some.thread
made g c shown ends shows =
    subst (CallsFirst shown (row_of core_view c.args.run.now) (row_of core_view c.call.new.run) c.in-Some.thread)
    c.in-None-call.is (c.call.ensures.called shown ends shows)

-- so it has less to do
fewer : (g : Over) (c : In-None-call g) → to_do c.call.new.run.states.items < to_do c.args.run.now.states.items
fewer g c =
    let awaits = (awaited g c).3.1 in
    called_less c.args.run.now.states.items c.call.new.run.states.items c.in-Some.thread awaits.waits.0 awaits.waits.1
    (made g c c.requires.may.0 c.requires.may.1 c.requires.may.2).called

pub run_events-requires : goal.run_events-requires
run_events-requires g c =
    let may = subst (λ (f : Option ℕ). SomeMayRun c.requires.may.0 f (row_of core_view c.args.run.now)) c.in-None.is
    c.requires.may.3 in (
      omega arith,
      (
        (
          c.requires.may.0,
          c.requires.may.1,
          c.requires.may.2,
          (may.0, may.1, may.2, view c.args.run.now.machine.core, goes_from may.3.0),
        ),
        (may.3.2, (may.3.0.quiet, c.requires.stop)),
      ),
    )

pub run_events-requires-in-None-call : goal.run_events-requires-in-None-call
run_events-requires-in-None-call g c =
    let here = (goal.at.run_events-requires-in-None-call g c).In-None-call in
    let may = awaited g here in
    let awaits = may.3.1 in
    let called = made g here c.requires.may.0 c.requires.may.1 c.requires.may.2 in (
      omega arith,
      (
        (
          c.requires.may.0,
          c.requires.may.1,
          c.requires.may.2 ∙ sym c.call.ensures.image,
          (may.0, may.1, may.2, view c.args.run.now.machine.core, called.keeps may.0 may.1 may.2 may.3.0 may.3.1),
        ),
        (
          called_own c.args.run.now.states.items c.call.new.run.states.items c.in-Some.thread awaits.waits.0 awaits.own
              awaits.waits.1 called.called,
          (called.quiet, called.stop),
        ),
      ),
    )

pub returns-in-None-clause-ends : goal.returns-in-None-clause-ends
returns-in-None-clause-ends g c = λ shown ends shows.
    runs_all shown c.args.first (row_of core_view c.args.run.now) (row_of core_view c.run_events.new.run) c.in-None.is
    (c.run_events.ensures.keeps shown ends shows) c.run_events.ensures.rests c.run_events.ensures.less
    c.run_events.ensures.collector

pub returns-in-None-call-clause-ends : goal.returns-in-None-call-clause-ends
returns-in-None-call-clause-ends g c = λ shown ends shows.
    let here = (goal.at.returns-in-None-call-clause-ends g c).In-None-call in
    runs_after shown c.args.first c.in-Some.thread (row_of core_view c.args.run.now) (row_of core_view c.call.new.run)
    (row_of core_view c.run_events-in-None-call.new.run) c.in-Some.is (made g here shown ends shows) (fewer g here)
    c.call.ensures.collector
    (c.run_events-in-None-call.ensures.keeps shown ends (shows ∙ sym c.call.ensures.image))
    c.run_events-in-None-call.ensures.rests c.run_events-in-None-call.ensures.less
    c.run_events-in-None-call.ensures.collector

pub returns-in-Some-call-clause-ends : goal.returns-in-Some-call-clause-ends
returns-in-Some-call-clause-ends g c = λ shown ends shows.
    let old : Row = row_of core_view c.args.run.now in
    let new : Row = row_of core_view c.call.new.run in
    subst (λ (f : Option ℕ). EndsEpoch shown f old new (Some c.in-Some-call.need)) (sym c.in-Some.is)
    (subst (CallsFirst shown old new c.in-Some.thread) c.in-Some-call.is (c.call.ensures.called shown ends shows))
