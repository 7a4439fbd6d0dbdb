use Rattle.std.specs.Prelude.{[], replicate}
use Rattle.melt_links.proofs.links.Links.new.Given as goal

abbrev pub ghost-pick : goal.ghost-pick
ghost-pick a = replicate a.from.now []
