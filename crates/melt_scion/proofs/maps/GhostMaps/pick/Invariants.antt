use Rattle.melt_scion.proofs.maps.GhostMaps.pick.Given as goal

abbrev pub ghost-pick : goal.ghost-pick
ghost-pick g a = (g.pairs.addresses, g.pairs.homes)
