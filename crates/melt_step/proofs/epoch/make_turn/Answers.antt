-- The state that was borrowed is that of the thread whose turn it is.
use Rattle.std.proofs.Common.{◌≡◌, ◌<◌, List, length, refl, sym, ◌∙◌, ap, subst, arith}
use Rattle.std.proofs.Math.ListN.{length-set}
use Rattle.std.proofs.lemmas.Option.{get_or_from_slice_get, slice_get_within}
use Rattle.std.specs.Prelude.{Some, slice_get}
use Rattle.melt_core.specs.Views.{view}
use Rattle.melt_safepoint.specs.declared.thread.ThreadState.{ThreadState}
use Rattle.melt_safepoint.specs.Modes.{MayGo}
use Rattle.melt_safepoint.proofs.Losses.{counts_set}
use Rattle.melt_step.specs.Turns.{GoesAt}
use Rattle.melt_safepoint.proofs.Tables.{Table_untold, table_ready}
use Rattle.melt_safepoint.proofs.TableModes.{stop_known}
use Rattle.melt_safepoint.specs.Rows.{row_of}
use Rattle.melt_step.specs.Going.{core_view}
use Rattle.melt_step.proofs.Going.{step_capacity, step_keeps, step_less, step_to_do}
use Rattle.melt_step.proofs.Stored.{capacity_stores}
use Rattle.melt_step.proofs.epoch.make_turn.Goals as goal
use Rattle.melt_step.proofs.epoch.make_turn.Goals.{After-index_mut-state}
use Rattle.melt_step.proofs.epoch.make_turn.Given.{Over}

-- the state that was borrowed
here : (g : Over) (c : After-index_mut-state g) → GoesAt c.args.run.now.states.items c.args.thread
    → (slice_get c.args.run.now.states.items c.args.thread ≡ Some c.index_mut-state.result.now)
    × MayGo c.index_mut-state.result.now.mode
here g c turn =
    let is : c.index_mut-state.result.now ≡ turn.0 =
    c.index_mut-state.ensures.value
    ∙ get_or_from_slice_get c.args.run.now.states.items c.args.thread turn.0 _ turn.1 in
    (turn.1 ∙ ap Some (sym is), subst (λ (x : ThreadState). MayGo x.mode) (sym is) turn.2)

pub index_mut-state-requires : goal.index_mut-state-requires
index_mut-state-requires g c =
    let within : c.args.thread < length c.args.run.now.states.items =
    slice_get_within c.args.run.now.states.items c.args.thread c.requires.goes.0 c.requires.goes.1 in
    omega (arith, within, c.args.run.now.states.ok)

pub make_event-requires : goal.make_event-requires
make_event-requires g c =
    let at = goal.at.make_event-requires g c in
    let borrowed = here g at.After-index_mut-state c.requires.goes in
    let stands = c.requires.stands in
    record {
      ready = table_ready c.args.thread
          (Table_untold stands.3.0 stands.3.1 stands.3.2 stands.3.4.disk (view c.args.run.now.machine.core)
          c.args.run.now.states.items stands.3.4.table) (stands.3.4.under.ends ∙ stands.1) borrowed.0;
      goes = borrowed.1;
    }

pub returns : goal.returns
returns g c =
    let at = goal.at.returns g c in
    let borrowed = here g at.After-index_mut-state c.requires.goes in
    let s : ThreadState = c.index_mut-state.result.now in
    let after : ThreadState = c.make_event.new.state in
    let states : List ThreadState = c.args.run.now.states.items in
    let stands = c.requires.stands in
    record {
      keeps = step_keeps (row_of core_view c.args.run.now) _ c.args.thread after borrowed.0 borrowed.1
          c.make_event.ensures.step refl c.make_event.ensures.due c.make_event.ensures.makes c.make_event.ensures.ties refl
          refl refl refl;
      stop = stop_known (view c.args.run.now.machine.core)
          (view c.make_event.new.core) states c.args.thread s after c.requires.stop borrowed.0 borrowed.1
          c.make_event.ensures.stop;
      there = length-set states c.args.thread after;
      nearer = step_less _ (view c.make_event.new.core) c.args.thread after stands.3.4 stands.1 borrowed.0 borrowed.1
          c.make_event.ensures.step;
      less = step_to_do _ (view c.make_event.new.core) c.args.thread after stands.3.4 stands.1 borrowed.0 borrowed.1
          c.make_event.ensures.step;
      image = c.make_event.ensures.image;
      collector = refl;
      stored = capacity_stores (view c.args.run.now.machine.core) (view c.make_event.new.core)
          (step_capacity _ (view c.make_event.new.core) c.args.thread after stands.3.4 stands.1
          c.make_event.ensures.step);
      lost = counts_set states c.args.thread s after _ _ borrowed.0 c.make_event.ensures.lost;
    }
