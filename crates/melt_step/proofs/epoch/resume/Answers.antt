-- All threads that wait make their calls again, and then stand in the epoch that goes on.
use Rattle.std.proofs.Common.{◌<◌, ◌≤◌, length, get_or, refl, ap, arith}
use Rattle.std.proofs.lemmas.Option.{slice_get-get_or}
use Rattle.std.specs.Vec.{with_items}
use Rattle.melt_core.specs.Views.{view}
use Rattle.melt_safepoint.specs.declared.thread.ThreadState.{ThreadState}
use Rattle.melt_safepoint.proofs.MakingAgain.{AgainBelow, again_more, again_done, again_knows, again_resumed}
use Rattle.melt_safepoint.specs.Rows.{row_of}
use Rattle.melt_step.specs.Going.{core_view}
use Rattle.melt_step.proofs.Going.{again_keeps}
use Rattle.melt_step.proofs.epoch.resume.Goals as goal

pub loop-state-preserved : goal.loop-state-preserved
loop-state-preserved g c =
    let below : c.loop-state.state-index < length c.loop-state.state-items =
    omega (arith, c.loop-state-test.true, c.loop-state.auto.state-items) in
    let state : ThreadState = get_or c.loop-state.state-items c.loop-state.state-index c.state-item.result in
    again_more c.args.run.now.states.items c.loop-state.state-items c.loop-state.state-index state c.make_again.new.self
    c.loop-state.invariant
    (slice_get-get_or c.loop-state.state-items c.loop-state.state-index c.state-item.result below)
    (record { again = c.make_again.ensures.again; same = c.make_again.ensures.same })

pub returns : goal.returns
returns g c =
    let looped : AgainBelow c.args.run.now.states.items
    (with_items c.args.run.now.states c.loop-state.state-items).items c.loop-state.state-index =
    again_done c.args.run.now.states c.loop-state.state-items c.loop-state.state-index c.loop-state.invariant in
    let over : length c.args.run.now.states.items ≤ c.loop-state.state-index =
    omega (arith, c.loop-state-test.false, ap length c.deref_mut-state-items.ensures.value) in
    record {
      keeps = λ shown. again_keeps shown (row_of core_view c.args.run.now) _ c.loop-state.state-index looped
          c.requires.quiet refl refl refl refl refl;
      core = refl;
      collector = refl;
      stop = again_knows c.args.run.now.states.items _ c.loop-state.state-index (view c.args.run.now.machine.core)
          looped
          over c.requires.own c.requires.stop;
      resumed = again_resumed c.args.run.now.states.items _ c.loop-state.state-index looped over c.requires.own;
      lost = looped.lost;
    }
