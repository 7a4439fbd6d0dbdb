-- A run stands before its first event.
use Rattle.std.proofs.lemmas.Bool.Decides.{nat_tests}
use Rattle.std.proofs.Common.{◌≡◌, ℕ, ◌≤◌, true, arith, refl, sym, ◌∙◌, subst}
use Rattle.std.specs.Prelude.{◌==◌}
use Rattle.melt_core.specs.Epochs.{core_of}
use Rattle.melt_core.specs.Views.{stores, view}
use Rattle.melt_core.proofs.Naming.{stores_is}
use Rattle.melt_core.specs.declared.machine.Core.{Core}
use Rattle.melt_safepoint.proofs.Starting.{losses_new, idle_new}
use Rattle.melt_safepoint.specs.Tables.{KnowsStop}
use Rattle.melt_safepoint.specs.Rows.{row_of}
use Rattle.melt_safepoint.specs.Shown.{Shown}
use Rattle.melt_step.specs.Going.{core_view}
use Rattle.melt_step.proofs.Starting.{Begins, begins_new, names_asked, own_new, stop_new}
use Rattle.melt_safepoint.proofs.Closing.{Run_new}
use Rattle.melt_step.proofs.run.new_run.Given.{Over}
use Rattle.melt_step.proofs.run.new_run.Goals as goal
use Rattle.melt_step.proofs.run.new_run.Goals.{After-new-4, else-this-eq1, then-this-eq1}

is_one : (n : ℕ) → n == 1 ≡ true → n ≡ 1
is_one n is = grind (arith, nat_tests, is)

-- there is room for all entries, where they are stored
enough : (g : Over) (c : After-new-4 g) → g.row.STORED == 1 ≡ true → c.in_ok-states.entries ≤ c.if-this-eq1.room
enough g c is = elim c.if-this-eq1.branch [
  | then-this-eq1 w ↦ omega (arith, w.room-is)
  | else-this-eq1 w ↦ absurd (w.if-this-eq1.false (is_one g.row.STORED is))
]

-- what its threads stand for, and what is at rest
begun : (g : Over) (c : After-new-4 g) (shown : Shown)
    → Begins c.args.told c.args.trace.now c.args.config shown.image (view c.begin.result)
    c.in_ok-states.states.items
begun g c shown =
    subst (λ (core : Core). Begins c.args.told c.args.trace.now c.args.config shown.image (view core)
    c.in_ok-states.states.items) (sym c.begin.ensures)
    (begins_new c.args.told shown.image c.requires.ranges c.globals.ensures.value c.threads.ensures.count
    c.threads.ensures.within.1 c.in_ok-heap.ensures c.in_ok-rest.ensures (enough g c) c.in_ok-states.ensures)

pub returns-clause-stands : goal.returns-clause-stands
returns-clause-stands g c = λ shown ends limits some.
    let begun = begun g (goal.at.returns-clause-stands g c).After-new-4 shown in
    Run_new c.args.told c.args.trace.now c.args.config shown c.in_ok-states.entries (row_of (core_view {stored = g.row.STORED}) (record {
      machine = record { core = c.begin.result; turns = c.new-3.result; trace = c.args.trace };
      states = c.in_ok-states.states;
      collector = c.new-4.result;
      words = c.args.config.heap;
      every = c.args.config.every;
      told = c.args.told;
    })) c.requires.ranges ends limits some begun.table begun.quiet begun.history c.in_ok-states.ensures refl refl refl
    c.new-4.ensures.none c.new-4.ensures.plan

pub returns-clause-own : goal.returns-clause-own
returns-clause-own g c =
    own_new c.args.trace.now c.in_ok-states.entries c.in_ok-states.states.items c.in_ok-states.ensures

pub returns-clause-stop : goal.returns-clause-stop
returns-clause-stop g c =
    subst (λ (core : Core). KnowsStop (view core) c.in_ok-states.states.items) (sym c.begin.ensures)
    (stop_new c.args.trace.now c.in_ok-states.entries c.in_ok-heap.heap c.in_ok-rest.rest c.in_ok-states.states.items
    c.in_ok-states.ensures)

pub returns-clause-none_lost : goal.returns-clause-none_lost
returns-clause-none_lost g c =
    losses_new c.args.trace.now c.in_ok-states.entries c.in_ok-states.states.items c.in_ok-states.ensures

pub returns-clause-idle : goal.returns-clause-idle
returns-clause-idle g c = λ none.
    idle_new c.args.trace.now c.in_ok-states.entries c.in_ok-states.states.items c.in_ok-states.ensures none

pub returns-clause-stored : goal.returns-clause-stored
returns-clause-stored g c =
    subst (λ (core : Core). stores (view core) ≡ (g.row.STORED == 1)) (sym c.begin.ensures)
    (stores_is (core_of c.in_ok-heap.heap c.in_ok-rest.rest)
    ∙ names_asked (g.row.STORED == 1) c.in_ok-heap.ensures)
