use Rattle.std.proofs.Common.{ap, sym, ◌∙◌}
use Rattle.melt_scion.specs.HomeNames.{NamedHomes, home_name}
use Rattle.melt_scion.proofs.HomeNumbers.{name_is}
use Rattle.melt_scion.proofs.home_names.HomeNames.get.Goals as goal

pub returns : goal.returns
returns c =
    c.copied.ensures ∙ (c.get.ensures.value
    ∙ (sym (name_is c.self.inside.numbers.entries c.args.home)
    ∙ ap (λ (homes : NamedHomes). home_name homes c.args.home) c.self.view_is))
