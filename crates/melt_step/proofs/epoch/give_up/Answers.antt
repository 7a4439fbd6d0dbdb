-- All threads stand as they did, and are halted.
use Rattle.std.proofs.Common.{Bool, Vec, Global, sym, ◌∙◌, ap}
use Rattle.melt_model.specs.declared.reports.Journal.{Journal}
use Rattle.melt_safepoint.proofs.Collected.{stands_failed}
use Rattle.melt_safepoint.proofs.Halting.{halted_losses}
use Rattle.melt_core.specs.Views.{history_in, view}
use Rattle.melt_step.proofs.Stored.{names_as}
use Rattle.melt_step.proofs.epoch.give_up.Goals as goal

pub returns-clause-stands : goal.returns-clause-stands
returns-clause-stands g c = λ told script config unpaid shown stands some.
    stands_failed shown stands some (
      c.left_of.ensures.heap,
      c.left_of.ensures.history
          ∙ (ap (λ (stored : Bool). history_in stored c.finish-heap.result.1) (sym (names_as (view c.args.run.machine.core) c.finish-heap.result.0 c.finish-heap.result.1
          c.finish-heap.ensures.finished c.requires.stored))
          ∙ c.finish-heap.ensures.finished.log),
    )
    (record {
      left_is = c.halt_run.ensures.left;
      states = c.halt_run.ensures.states;
      journal = ap (λ (v : Vec Journal Global). v.items) c.halt_run.ensures.journal;
      halt_is = c.halt_run.ensures.halt;
    })

pub returns-clause-lost : goal.returns-clause-lost
returns-clause-lost g c = λ faults. halted_losses c.args.run.states.items _ faults c.halt_run.ensures.states
