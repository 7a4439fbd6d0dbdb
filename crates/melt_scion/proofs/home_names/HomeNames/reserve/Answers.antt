use Rattle.std.proofs.Common.{ap, ◌∙◌}
use Rattle.melt_scion.specs.HomeNames.{NamedHomes}
use Rattle.melt_scion.proofs.HomeNumbers.{names_same}
use Rattle.melt_scion.proofs.home_names.HomeNames.reserve.Goals as goal

pub returns-clause-names : goal.returns-clause-names
returns-clause-names c =
    names_same c.self.inside.numbers.entries c.reserve.new.self.entries c.reserve.ensures.entries.2
    ∙ ap (λ (homes : NamedHomes). homes.names) c.self.view_is
