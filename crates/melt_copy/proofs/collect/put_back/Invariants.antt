use Rattle.melt_copy.specs.Copied.{renamed_pairs}
use Rattle.melt_copy.proofs.collect.put_back.Given as goal

abbrev pub ghost-pick : goal.ghost-pick
ghost-pick a = let from = a.from.now in renamed_pairs from.0.now from.1.now
