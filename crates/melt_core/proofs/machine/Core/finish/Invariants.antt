use Rattle.std.specs.Prelude.{length}
use Rattle.melt_core.proofs.Nameless.{within_pairs}
use Rattle.melt_core.proofs.machine.Core.finish.Given as goal

abbrev pub ghost-pick : goal.ghost-pick
ghost-pick a = within_pairs (length a.from.now.space.list) a.from.now.maps
