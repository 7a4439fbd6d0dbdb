use Rattle.std.specs.Prelude.{Some}
use Rattle.melt_core.specs.Noted.{number_given}
use Rattle.melt_core.specs.Views.{names_in}
use Rattle.melt_core.proofs.Naming.{told_named}
use Rattle.melt_core.proofs.machine.Core.name.Goals as goal

pub returns-in-None : goal.returns-in-None
returns-in-None c =
    told_named c.args.self.now c.pick.result c.args.address
    (number_given (Some (names_in c.args.self.now.heap)) c.args.naming) c.in-None.is c.pick.ensures c.requires.first
    c.requires.last
