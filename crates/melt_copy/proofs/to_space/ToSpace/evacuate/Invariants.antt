use Rattle.std.proofs.Common.{[], ◌∷◌, ◌++◌}
use Rattle.melt_copy.proofs.to_space.ToSpace.evacuate.Given as goal

abbrev pub ghost-pick : goal.ghost-pick
ghost-pick g a = let from = a.from.now in from.0.now ++ (record { from = from.1; to = from.2; shape = from.3 }) ∷ []
