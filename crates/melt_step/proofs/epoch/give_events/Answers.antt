-- The thread that goes on alone is the one that took the event.
use Rattle.std.proofs.Common.{◌≡◌, ◌<◌, length, sym, ◌∙◌, ap, subst, arith}
use Rattle.std.specs.Prelude.{List, Option, ℕ, IfSome}
use Rattle.melt_core.specs.Views.{stores}
use Rattle.melt_safepoint.specs.Epochs.{to_do}
use Rattle.melt_safepoint.specs.Losses.{CountsLosses}
use Rattle.melt_safepoint.specs.Rows.{Row, row_of}
use Rattle.melt_safepoint.specs.Tables.{KnowsStop}
use Rattle.melt_safepoint.proofs.Losses.{counts_then}
use Rattle.melt_step.specs.Going.{StandsInside, SomeStandsInside, core_view}
use Rattle.melt_step.proofs.Going.{some_on}
use Rattle.melt_step.proofs.epoch.give_events.Goals as goal
use Rattle.melt_step.proofs.epoch.give_events.Goals.{After-take_turn, else-thread-last-via-else-thread-last}
use Rattle.melt_step.proofs.epoch.give_events.Goals.{else-thread-last-via-then-thread-last+else-gives_all}
use Rattle.melt_step.proofs.epoch.give_events.Given.{Over}

-- after the event the run stands as before
stands : (g : Over) (c : After-take_turn g)
    → SomeStandsInside c.args.end (g.R.RecordReader.image c.take_turn.new.reader) (row_of core_view c.take_turn.new.run)
stands g c =
    let before : SomeStandsInside c.args.end (g.R.RecordReader.image c.args.reader.now) (row_of core_view
    c.loop-thread.run) =
    some_on c.args.end _ (row_of core_view c.args.run.now) (row_of core_view c.loop-thread.run) c.requires.stands
    c.loop-thread.invariant.keeps in
    let same : g.R.RecordReader.image c.take_turn.new.reader ≡ g.R.RecordReader.image c.args.reader.now =
    c.take_turn.ensures.image ∙ c.loop-thread.invariant.image in
    subst (λ (image : Option (List ℕ)). SomeStandsInside c.args.end image (row_of core_view c.take_turn.new.run)) (sym
    same)
    (some_on c.args.end _ (row_of core_view c.loop-thread.run) (row_of core_view c.take_turn.new.run) before
    (λ shown ends shows. c.take_turn.ensures.keeps shown ends (shows ∙ sym c.loop-thread.invariant.image)))

pub gives_all-requires : goal.gives_all-requires
gives_all-requires g c =
    let table = (stands g (goal.at.gives_all-requires g c).After-take_turn).3.4.table in
    omega (arith, ap length c.deref.ensures.value, table.count, table.threads, table.stands.few)

pub give_all-requires : goal.give_all-requires
give_all-requires g c = (
  omega arith,
  (
    stands g (goal.at.give_all-requires g c).After-take_turn,
    (
      c.take_turn.ensures.stop,
      subst (λ (r : Option ℕ). IfSome r (λ t. t < length c.take_turn.new.run.states.items)) c.in-Some.is
          c.take_turn.ensures.there,
    ),
  ),
)

pub loop-thread-preserved : goal.loop-thread-preserved
loop-thread-preserved g c =
    let row : row_of core_view c.else-thread-last.run ≡ row_of core_view c.take_turn.new.run =
    elim c.else-thread-last.branch [
      | else-thread-last-via-then-thread-last+else-gives_all w ↦ ap (row_of core_view) w.run-is
      | else-thread-last-via-else-thread-last w ↦ ap (row_of core_view) w.run-is
    ] in
    let before = c.loop-thread.invariant in
    let turn = c.take_turn.ensures in
    record {
      keeps = λ shown ends shows begun told script config goes.
          subst (StandsInside begun told script config shown) (sym row)
          (turn.keeps shown ends (shows ∙ sym before.image) begun told script config
          (before.keeps shown ends shows begun told script config goes));
      stop = subst (λ (r : Row). KnowsStop r.view r.states) (sym row) turn.stop;
      collector = ap (λ (r : Row). r.collector) row ∙ (turn.collector ∙ before.collector);
      stored = ap (λ (r : Row). stores r.view) row ∙ (turn.stored ∙ before.stored);
      less = omega (arith, ap (λ (r : Row). to_do r.states) row, turn.less, before.less);
      image = turn.image ∙ before.image;
      lost = subst (λ (r : Row). CountsLosses c.args.run.now.states.items r.states
          (g.R.RecordReader.faults c.args.reader.now) (g.R.RecordReader.faults c.take_turn.new.reader)) (sym row)
          (counts_then _ _ _ _ _ _ before.lost turn.lost);
    }
