use Rattle.std.proofs.Common.{◌*◌}
use Rattle.melt_scion.specs.Heaps.{no_homes_on}
use Rattle.melt_core.specs.Views.{view}
use Rattle.melt_core_tests.proofs.Onward.{Onward}
use Rattle.melt_core_tests.proofs.tests.objects_that_are_made_at_once_stand_apart.Given as goal

abbrev pub invariant-loop-events : goal.invariant-loop-events
invariant-loop-events l = Onward no_homes_on (view l.initial.core) (view l.core) l.op (2 * l.events)
