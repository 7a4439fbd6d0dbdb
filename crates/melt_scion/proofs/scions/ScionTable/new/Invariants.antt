use Rattle.std.specs.Prelude.{◌≡◌}
use Rattle.melt_scion.proofs.LinkedScions.{filled}
use Rattle.melt_scion.proofs.scions.ScionTable.new.Given as goal

abbrev pub invariant-loop-pushed : goal.invariant-loop-pushed
invariant-loop-pushed l = l.links ≡ filled l.n l.pushed
