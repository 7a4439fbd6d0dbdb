-- After the events that find the object comes that of `get`.
use Rattle.melt_core.specs.declared.call.Access.TheVariants.{Get}
use Rattle.melt_core.proofs.AtOnce.{uses}
use Rattle.melt_core.proofs.machine.Core.get_at_once.Goals as goal

pub returns-in-Ok : goal.returns-in-Ok
returns-in-Ok c =
    uses (c.in-Ok.address, c.in-Ok.shape) (Get c.args.j) c.in-Ok.ensures.goes c.in-Ok.ensures.may c.get.ensures
