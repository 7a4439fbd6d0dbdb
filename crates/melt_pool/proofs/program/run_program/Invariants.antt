-- The thread stands on, as far as it stood, and has less to do with each turn; one that had ended does nothing.
use Rattle.std.proofs.Common.{◌≡◌}
use Rattle.melt_trace.specs.Script.{Script}
use Rattle.melt_epoch.specs.Mutators.{HasReader}
use Rattle.melt_safepoint.specs.Modes.{IsEnded}
use Rattle.melt_pool.specs.Programs.{ThreadWentOn, HasEndedWell, WaitsByCause, Works, made_again, turns_left}
use Rattle.melt_pool.proofs.program.run_program.Given as goal

abbrev pub invariant-loop-is_announced : goal.invariant-loop-is_announced
invariant-loop-is_announced g l = record {
  works : (script : Script) → Works script l.fn.epoch.words l.fn.m (made_again l.fn.state)
      → Works script l.epoch.words l.m l.state;
  ends : (script : Script) → Works script l.fn.epoch.words l.fn.m (made_again l.fn.state)
      → (IsEnded l.fn.state.mode → ⊥)
      → HasEndedWell g.R.RecordReader.faults l.epoch.words.start.began.told l.epoch.end script l.m l.state;
  ended : IsEnded l.fn.state.mode → (l.state ≡ l.fn.state) × (l.m ≡ l.fn.m);
  reader : HasReader g.R.RecordReader.image l.epoch.words l.m;
  thread : l.m.thread ≡ l.fn.m.thread;
  goes_on : (script : Script) → Works script l.fn.epoch.words l.fn.m (made_again l.fn.state)
      → ThreadWentOn l.every script l.fn.m l.m l.fn.state l.state;
  caused : WaitsByCause l.fn.state.mode l.state.mode l.m;
}

abbrev pub decreases-loop-is_announced : goal.decreases-loop-is_announced
decreases-loop-is_announced g l = turns_left l.state
