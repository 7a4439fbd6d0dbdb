-- The history of what is left is the one that the rest has, stored or not.
use Rattle.melt_core.specs.Views.{history_in}
use Rattle.melt_step.proofs.collector.left_of.Given as goal

abbrev pub ghost-pick : goal.ghost-pick
ghost-pick a = let from = a.from.now in history_in from.1 from.0.now
