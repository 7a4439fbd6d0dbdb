use Rattle.melt_scion.specs.GhostMaps.{no_pairs}
use Rattle.melt_scion.proofs.maps.GhostMaps.none.Given as goal

abbrev pub ghost-pick : goal.ghost-pick
ghost-pick a = no_pairs
