use Rattle.std.proofs.Common.{arith}
use Rattle.std.proofs.lemmas.Grind.{common_steps}
use Rattle.melt_scion.proofs.Named.{names_of-none}
use Rattle.melt_scion.proofs.names.AddressNames.new.Goals as goal

pub returns : goal.returns
returns c = grind (arith, common_steps, names_of-none)
