use Rattle.std.specs.Prelude.{Some}
use Rattle.melt_scion.specs.GhostMaps.{numbered}
use Rattle.melt_core.specs.Noted.{number_given}
use Rattle.melt_core.specs.Views.{names_in}
use Rattle.melt_core.proofs.machine.Core.name.Given as goal

abbrev pub ghost-pick : goal.ghost-pick
ghost-pick a =
    let from = a.from.now in numbered from.0.now.maps from.1 (number_given (Some (names_in from.0.now)) from.2)
