use Rattle.melt_rule.proofs.pass.Pass.note.Given as goal

abbrev pub ghost-pick : goal.ghost-pick
ghost-pick g a = g.history
