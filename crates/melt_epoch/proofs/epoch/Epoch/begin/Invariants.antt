use Rattle.melt_epoch.proofs.epoch.Epoch.begin.Given as goal

abbrev pub ghost-pick : goal.ghost-pick
ghost-pick g a = g.start
