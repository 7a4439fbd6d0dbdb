use Rattle.melt_scion.specs.GhostMaps.{numbered}
use Rattle.melt_parts_tests.proofs.tests.scion.maps.with_number.Given as goal

abbrev pub ghost-pick : goal.ghost-pick
ghost-pick a = let from = a.from.now in numbered from.0.now from.1 from.2
