use Rattle.std.proofs.Common.{◌≡◌, ◌+◌, ◌≤◌, length}
use Rattle.std.specs.Prelude.{false}
use Rattle.melt_scion.specs.Heaps.{no_homes_on}
use Rattle.melt_core.specs.Views.{IsQuiet, Standing, view}
use Rattle.melt_core_tests.proofs.tests.expect.Given as goal

abbrev pub invariant-loop-at : goal.invariant-loop-at
invariant-loop-at l =
    Standing false no_homes_on (view l.core) ×
    IsQuiet (view l.core) ×
    (length (view l.core).globals ≡ length (view l.initial.core).globals) ×
    (length (view l.core).held ≡ length (view l.initial.core).held) ×
    (length (view l.core).forward ≡ length (view l.initial.core).forward) ×
    ((view l.core).capacity ≡ (view l.initial.core).capacity) ×
    (length (view l.core).log ≤ length (view l.initial.core).log + l.at-counter)
