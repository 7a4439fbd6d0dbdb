use Rattle.std.specs.Prelude.{[]}
use Rattle.melt_core.proofs.machine.Rest.new.Given as goal

abbrev pub ghost-pick : goal.ghost-pick
ghost-pick a = []
