use Rattle.std.proofs.Common.{ap, ◌∙◌}
use Rattle.std.specs.FinMap.{remove}
use Rattle.melt_scion.specs.HomeNames.{NamedHomes}
use Rattle.melt_scion.proofs.HomeNumbers.{name_gone}
use Rattle.melt_scion.proofs.home_names.HomeNames.remove.Goals as goal

pub returns-clause-names : goal.returns-clause-names
returns-clause-names c =
    name_gone c.self.inside.numbers.entries c.remove.new.self.entries c.args.home c.remove.ensures.updates.0
    ∙ ap (λ (homes : NamedHomes). remove homes.names c.args.home) c.self.view_is
