-- After the events that find the object comes that of `store`.
use Rattle.std.proofs.Common.{refl}
use Rattle.melt_core.specs.declared.call.Access.TheVariants.{Store}
use Rattle.melt_core.specs.declared.call.Stage.TheVariants.{Headed}
use Rattle.melt_core.proofs.AtOnce.{uses}
use Rattle.melt_core.proofs.machine.Core.store_at_once.Goals as goal

pub returns-in-Ok : goal.returns-in-Ok
returns-in-Ok c =
    let access = Store c.args.i c.args.src in
    uses (c.in-Ok.object, c.in-Ok.field-0-1) access c.in-Ok.ensures.goes c.in-Ok.ensures.may
    (c.store.ensures (Headed c.in-Ok.object c.in-Ok.field-0-1 access) (c.in-Ok.field-0-1, refl) c.in-Ok.ensures.may)
