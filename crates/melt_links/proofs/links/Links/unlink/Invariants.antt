use Rattle.std.specs.Prelude.{map}
use Rattle.melt_links.specs.Links.{without}
use Rattle.melt_links.proofs.links.Links.unlink.Given as goal

abbrev pub ghost-pick : goal.ghost-pick
ghost-pick a = let from = a.from.now in map (without from.1) from.0.now
