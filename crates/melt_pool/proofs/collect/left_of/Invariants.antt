-- The history of what is left is the one that the run has at hand.
use Rattle.melt_pool.proofs.collect.left_of.Given as goal

abbrev pub ghost-pick : goal.ghost-pick
ghost-pick a = a.from.now
