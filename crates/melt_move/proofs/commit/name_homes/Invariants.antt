use Rattle.melt_move.proofs.Naming.{given_names}
use Rattle.melt_move.proofs.commit.name_homes.Given as goal

abbrev pub ghost-pick : goal.ghost-pick
ghost-pick g a = let from = a.from.now in given_names from.0.now from.1.now
