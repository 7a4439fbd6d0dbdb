use Rattle.melt_move.proofs.Naming.{names_none}
use Rattle.melt_move.proofs.commit.name_homes.Goals as goal

pub returns-in-None-clause-names : goal.returns-in-None-clause-names
returns-in-None-clause-names g c =
    names_none c.args.homes.now c.args.names.now c.args.maps.now c.pick.result c.in-None.is c.pick.ensures
