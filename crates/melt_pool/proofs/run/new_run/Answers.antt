-- A run stands before its first epoch.
use Rattle.std.proofs.Common.{ℕ, ◌≤◌, List, length, refl, ap, arith}
use Rattle.std.proofs.lemmas.List.{length-replicate}
use Rattle.melt_model.specs.declared.history.Entry.{Entry}
use Rattle.melt_core.specs.Epochs.{no_registers}
use Rattle.melt_safepoint.specs.Rows.{row_of}
use Rattle.melt_safepoint.proofs.Starting.{idle_new, losses_new}
use Rattle.melt_pool.specs.Machines.{parallel_view}
use Rattle.melt_pool.specs.Parts.{parts_view}
use Rattle.melt_pool.proofs.NewRun.{new_none_own, new_run_stands}
use Rattle.melt_pool.proofs.run.new_run.Goals as goal

-- its view is that of its parts with an empty history, and its mutators are away, so there are few of them
pub returns-clause-stands : goal.returns-clause-stands
returns-clause-stands g c = λ shown ends limits some.
    let m = c.in_ok-new_parallel.field-0 in
    let new = c.in_ok-new_parallel.ensures in
    let n : ℕ = length c.args.trace.now.programs in
    let few : n ≤ 8 =
    omega (arith, m.away.count, m.away.few, ap length new.registers, length-replicate n no_registers) in
    new_run_stands shown (row_of parallel_view (record {
      machine = m;
      states = c.in_ok-states.states;
      collector = c.new.result;
      words = c.args.config.heap;
      every = c.args.config.every;
      told = c.args.told;
    })) c.requires.ranges few ends limits some new.heap new.registers c.in_ok-states.ensures
    (ap (λ (h : List Entry). parts_view m.heap h m.registers.items) new.history) refl refl refl c.new.ensures.none
    c.new.ensures.plan

pub returns-clause-own : goal.returns-clause-own
returns-clause-own g c =
    new_none_own c.args.trace.now c.in_ok-states._entries c.in_ok-states.states.items c.in_ok-states.ensures

pub returns-clause-none_lost : goal.returns-clause-none_lost
returns-clause-none_lost g c =
    losses_new c.args.trace.now c.in_ok-states._entries c.in_ok-states.states.items c.in_ok-states.ensures

pub returns-clause-idle : goal.returns-clause-idle
returns-clause-idle g c = λ none.
    idle_new c.args.trace.now c.in_ok-states._entries c.in_ok-states.states.items c.in_ok-states.ensures none
