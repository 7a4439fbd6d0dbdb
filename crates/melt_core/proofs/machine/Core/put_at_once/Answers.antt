-- After the events that find the object comes that of `put`.
use Rattle.melt_core.specs.declared.call.Access.TheVariants.{Put}
use Rattle.melt_core.proofs.AtOnce.{uses}
use Rattle.melt_core.proofs.machine.Core.put_at_once.Goals as goal

pub returns-in-Ok : goal.returns-in-Ok
returns-in-Ok c =
    uses (c.in-Ok.address, c.in-Ok.shape) (Put c.args.j c.args.v) c.in-Ok.ensures.goes c.in-Ok.ensures.may c.put.ensures
