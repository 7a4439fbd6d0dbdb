use Rattle.melt_copy.specs.Copied.{renamed_pairs}
use Rattle.melt_copy.proofs.collect.rename_all.Given as goal

abbrev pub ghost-pick : goal.ghost-pick
ghost-pick g a = let from = a.from.now in renamed_pairs from.0.now from.1.now
