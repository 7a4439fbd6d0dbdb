-- Where a collection was refused, the run is halted.
use Rattle.std.proofs.Common.{◌≡◌, List, Vec, Global, ◌∙◌, ap}
use Rattle.melt_model.specs.declared.reports.Journal.{Journal}
use Rattle.melt_move.specs.Planned.{phase_done}
use Rattle.melt_safepoint.proofs.Collected.{refused_failed, refused_full, stands_failed, stands_full, waits_goes}
use Rattle.melt_safepoint.proofs.Journals.{halted_counts}
use Rattle.melt_safepoint.proofs.Writes.{full_settled, stop_wrote_failed, stop_wrote_full}
use Rattle.melt_safepoint.proofs.run.Run.collect.Goals as goal

-- the journal of a run that is halted is that of before
halted_journal : {a b : Vec Journal Global} {js : List Journal} → a ≡ b → b.items ≡ js → a.items ≡ js
halted_journal {a} {b} {js} same stays = ap (λ (v : Vec Journal Global). v.items) same ∙ stays

pub returns-in-Err-DiskFull-clause-stopped : goal.returns-in-Err-DiskFull-clause-stopped
returns-in-Err-DiskFull-clause-stopped g c = λ told script config before.
    stands_full c.args.force before.0.1 before.2 before.1
    (refused_full _ _ _ _ _ _ c.in-Err-DiskFull.field-0-is c.in-Err-DiskFull.ensures.refused) (record {
      left_is = c.halt_run.ensures.left;
      states = c.halt_run.ensures.states;
      journal = cc (c.halt_run.ensures.journal, c.in-Err-DiskFull.ensures.journal_stays);
      halt_is = c.halt_run.ensures.halt;
    })

pub returns-in-Err-DiskFull-clause-stop_counts : goal.returns-in-Err-DiskFull-clause-stop_counts
returns-in-Err-DiskFull-clause-stop_counts g c = (
  λ is. absurd (cc (c.halt_run.ensures.halt, is)),
  halted_counts c.args.self.states.items c.halt_run.result.states.items _ _ c.halt_run.ensures.states
      c.collect.ensures.read_faults,
)

pub returns-in-Err-DiskFull-clause-stop_keeps : goal.returns-in-Err-DiskFull-clause-stop_keeps
returns-in-Err-DiskFull-clause-stop_keeps g c =
    halted_journal c.halt_run.ensures.journal c.in-Err-DiskFull.ensures.journal_stays

pub returns-in-Err-DiskFull-clause-stop_wrote : goal.returns-in-Err-DiskFull-clause-stop_wrote
returns-in-Err-DiskFull-clause-stop_wrote g c =
    stop_wrote_full _ _ _ _ _ _ c.halt_run.result.halt c.halt_run.result.left c.halt_run.result.journal.items
    c.halt_run.ensures.halt
    (halted_journal c.halt_run.ensures.journal c.in-Err-DiskFull.ensures.journal_stays)
    (full_settled _ _ c.in-Err-DiskFull.field-0-is c.in-Err-DiskFull.ensures.refused_wrote c.halt_run.ensures.left)

pub returns-clause-stop_wrote : goal.returns-clause-stop_wrote
returns-clause-stop_wrote g c =
    stop_wrote_failed _ c.halt_run-in-Err-DiskFault.result.journal.items _ _
    c.halt_run-in-Err-DiskFault.result.halt c.halt_run-in-Err-DiskFault.result.left
    c.halt_run-in-Err-DiskFault.ensures.halt

pub returns-clause-stop_keeps : goal.returns-clause-stop_keeps
returns-clause-stop_keeps g c =
    halted_journal c.halt_run-in-Err-DiskFault.ensures.journal c.in-Err-DiskFault.ensures.journal_stays

pub returns-clause-stopped : goal.returns-clause-stopped
returns-clause-stopped g c = λ told script config before.
    stands_failed _ before.0.1 (waits_goes _ before.2) (refused_failed (phase_done c.args.force c.args.self.collector.plan.next) _ _ _ _ _
    c.in-Err-DiskFault.field-0-is c.in-Err-DiskFault.ensures.refused) (record {
      left_is = c.halt_run-in-Err-DiskFault.ensures.left;
      states = c.halt_run-in-Err-DiskFault.ensures.states;
      journal = cc (c.halt_run-in-Err-DiskFault.ensures.journal, c.in-Err-DiskFault.ensures.journal_stays);
      halt_is = c.halt_run-in-Err-DiskFault.ensures.halt;
    })

pub returns-clause-stop_counts : goal.returns-clause-stop_counts
returns-clause-stop_counts g c = (
  λ is. c.collect.ensures.failed c.in-Err-DiskFault.left (cc (c.in-Err-DiskFault.is, c.in-Err-DiskFault.field-0-is)),
  halted_counts c.args.self.states.items c.halt_run-in-Err-DiskFault.result.states.items _ _
      c.halt_run-in-Err-DiskFault.ensures.states c.collect.ensures.read_faults,
)
