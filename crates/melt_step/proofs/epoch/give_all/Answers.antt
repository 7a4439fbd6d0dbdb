-- A step of the thread is one of the run: its state stands in the place of the one with which it began.
use Rattle.std.proofs.Common.{◌≡◌, ◌<◌, ◌≤◌, ℕ, List, length, refl, sym, ◌∙◌, subst, arith}
use Rattle.std.proofs.lemmas.Option.{slice_get-get_or}
use Rattle.std.specs.Prelude.{Some, slice_get, slice_index_or, slice_set}
use Rattle.melt_core.specs.Views.{View, view}
use Rattle.melt_core.proofs.Staged.{set_twice}
use Rattle.melt_safepoint.specs.declared.thread.ThreadState.{ThreadState}
use Rattle.melt_safepoint.specs.Epochs.{to_do}
use Rattle.melt_safepoint.specs.Losses.{CountsLosses}
use Rattle.melt_safepoint.specs.Modes.{MayGo}
use Rattle.melt_safepoint.specs.Rows.{Row, row_of}
use Rattle.melt_safepoint.specs.Tables.{KnowsStop, potential}
use Rattle.melt_safepoint.proofs.Losses.{counts_set, counts_then}
use Rattle.melt_safepoint.proofs.TableModes.{stop_known}
use Rattle.melt_safepoint.proofs.Tables.{Table_untold, table_ready}
use Rattle.melt_safepoint.proofs.Threads.{get_set_same}
use Rattle.melt_step.specs.Going.{core_view}
use Rattle.melt_step.proofs.Going.{some_on, step_capacity, step_keeps, step_less, step_to_do}
use Rattle.melt_step.proofs.Stored.{capacity_stores}
use Rattle.melt_step.proofs.epoch.give_all.Goals as goal
use Rattle.melt_step.proofs.epoch.give_all.Invariants.{row_at, states_at}

-- the thread is in the state that stands in its place
here : (xs : List ThreadState) (t : ℕ) (first s : ThreadState) → t < length xs → slice_get (slice_set xs t s) t ≡ Some s
here xs t first s within =
    get_set_same xs t (slice_index_or xs t first) s (slice_get-get_or xs t first within)

pub make_events-next-requires-clause-ready : goal.make_events-next-requires-clause-ready
make_events-next-requires-clause-ready g c =
    let v : View = view c.loop-core.core in
    let s : ThreadState = c.loop-core.state in
    let states : List ThreadState = states_at c.args.run.now c.args.thread s in
    let stands = some_on c.args.end _ (row_of core_view c.args.run.now) (row_at c.args.run.now c.args.thread v s)
    c.requires.stands c.loop-core.invariant.keeps in
    table_ready c.args.thread (Table_untold stands.3.0 stands.3.1 stands.3.2 stands.3.4.disk v states stands.3.4.table)
    (stands.3.4.under.ends ∙ stands.1)
    (here c.args.run.now.states.items c.args.thread c.index_mut-state.result.now s c.requires.there)

pub loop-core-smaller : goal.loop-core-smaller
loop-core-smaller g c =
    let v : View = view c.loop-core.core in
    let w : View = view c.make_events-next.new.core in
    let s : ThreadState = c.loop-core.state in
    let after : ThreadState = c.make_events-next.new.state in
    let xs : List ThreadState = c.args.run.now.states.items in
    let goes : MayGo s.mode = c.can_go.ensures.0 c.loop-core-test.true in
    let stands = some_on c.args.end _ (row_of core_view c.args.run.now) (row_at c.args.run.now c.args.thread v s)
    c.requires.stands c.loop-core.invariant.keeps in
    subst (λ (states : List ThreadState). potential states w.calls
    < potential (states_at c.args.run.now c.args.thread s) v.calls) (set_twice xs c.args.thread s after)
    (step_less _ w c.args.thread after stands.3.4 stands.1
    (here xs c.args.thread c.index_mut-state.result.now s c.requires.there) goes c.make_events-next.ensures.step)

pub loop-core-preserved : goal.loop-core-preserved
loop-core-preserved g c =
    let v : View = view c.loop-core.core in
    let w : View = view c.make_events-next.new.core in
    let s : ThreadState = c.loop-core.state in
    let after : ThreadState = c.make_events-next.new.state in
    let t : ℕ = c.args.thread in
    let xs : List ThreadState = c.args.run.now.states.items in
    let states : List ThreadState = states_at c.args.run.now t s in
    let same : slice_set states t after ≡ slice_set xs t after = set_twice xs t s after in
    let at : slice_get states t ≡ Some s = here xs t c.index_mut-state.result.now s c.requires.there in
    let goes : MayGo s.mode = c.can_go.ensures.0 c.loop-core-test.true in
    let had = c.loop-core.invariant in
    let old : Row = row_at c.args.run.now t v s in
    let new : Row = row_at c.args.run.now t w after in
    let stands = some_on c.args.end _ (row_of core_view c.args.run.now) old c.requires.stands had.keeps in
    let less : to_do (slice_set xs t after) ≤ to_do states =
    subst (λ (ys : List ThreadState). to_do ys ≤ to_do states) same
    (step_to_do _ w t after stands.3.4 stands.1 at goes c.make_events-next.ensures.step) in
    let nearer : potential (slice_set xs t after) w.calls < potential states v.calls =
    subst (λ (ys : List ThreadState). potential ys w.calls < potential states v.calls) same
    (step_less _ w t after stands.3.4 stands.1 at goes c.make_events-next.ensures.step) in
    record {
      keeps = λ shown ends shows begun told script config runs.
          step_keeps old new t after at goes c.make_events-next.ensures.step (sym same) c.make_events-next.ensures.due
          c.make_events-next.ensures.makes c.make_events-next.ensures.ties refl refl refl refl shown ends
          (shows ∙ sym had.image) begun told script config (had.keeps shown ends shows begun told script config runs);
      next = c.make_events-next.ensures.next;
      stop = subst (KnowsStop w) same (stop_known v w states t s after had.stop at goes c.make_events-next.ensures.stop);
      stored = capacity_stores v w (step_capacity _ w t after stands.3.4 stands.1 c.make_events-next.ensures.step)
          ∙ had.stored;
      less = omega (arith, less, had.less);
      nearer = omega (arith, nearer, had.nearer);
      image = c.make_events-next.ensures.image ∙ had.image;
      lost = counts_then xs states (slice_set xs t after) _ _ _ had.lost
          (subst (λ (ys : List ThreadState). CountsLosses states ys (g.R.RecordReader.faults c.loop-core.reader)
          (g.R.RecordReader.faults c.make_events-next.new.reader)) same
          (counts_set states t s after _ _ at c.make_events-next.ensures.lost));
    }
