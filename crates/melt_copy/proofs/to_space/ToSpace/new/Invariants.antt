use Rattle.std.proofs.Common.{[]}
use Rattle.melt_copy.proofs.to_space.ToSpace.new.Given as goal

abbrev pub ghost-pick : goal.ghost-pick
ghost-pick a = []
