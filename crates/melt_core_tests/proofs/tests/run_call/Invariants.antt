use Rattle.std.proofs.Common.{◌≡◌, ◌+◌, ◌≤◌}
use Rattle.std.specs.Prelude.{false}
use Rattle.melt_scion.specs.Heaps.{no_homes_on}
use Rattle.melt_core.specs.Advances.{Continues, KeepsOthers}
use Rattle.melt_core.specs.Stages.{events_left}
use Rattle.melt_core.specs.Views.{Standing, call_of, stage_of, view}
use Rattle.melt_core_tests.proofs.tests.run_call.Given as goal

abbrev pub invariant-loop-events : goal.invariant-loop-events
invariant-loop-events l =
    Standing false no_homes_on (view l.core) ×
    KeepsOthers (view l.initial.core) (view l.core) l.thread ×
    Continues (call_of (view l.core) l.thread) l.op ×
    ((view l.core).log ≡ (view l.initial.core).log) ×
    (l.events + events_left 16 (stage_of (view l.core) l.thread) ≤ 168)

abbrev pub decreases-loop-events : goal.decreases-loop-events
decreases-loop-events l = events_left 16 (stage_of (view l.core) l.thread)
