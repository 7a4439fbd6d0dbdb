-- The disk is one of those that end at word 1, and its reader tells that it has no words.
use Rattle.std.proofs.Common.{refl}
use Rattle.std.specs.Prelude.{[], Some}
use Rattle.melt_scion.specs.Heaps.{no_homes_on}
use Rattle.melt_core.specs.Advances.{TellsDisk}
use Rattle.melt_core.proofs.NoHomes.{as_told_by}
use Rattle.melt_core_tests.proofs.tests.advance.Goals as goal

pub advance-requires : goal.advance-requires
advance-requires c = record { disk = no_homes_on; ends = refl; asks = c.requires }

tells_nothing : TellsDisk (Some []) no_homes_on
tells_nothing = (refl, λ k. refl)

pub returns : goal.returns
returns c =
    as_told_by tells_nothing (c.advance.ensures.advances.over no_homes_on refl)
