use Rattle.melt_model.proofs.ghosts.Ghost.again.Given as goal

abbrev pub ghost-pick : goal.ghost-pick
ghost-pick g a = a.from.now
