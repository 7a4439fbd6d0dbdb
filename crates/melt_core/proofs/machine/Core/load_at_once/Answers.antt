-- After the events that find the object comes that of `look`.
use Rattle.std.proofs.Common.{refl}
use Rattle.melt_core.specs.declared.call.Access.TheVariants.{Load}
use Rattle.melt_core.specs.declared.call.Stage.TheVariants.{Headed}
use Rattle.melt_core.proofs.AtOnce.{uses}
use Rattle.melt_core.proofs.machine.Core.load_at_once.Goals as goal

pub returns-in-Ok : goal.returns-in-Ok
returns-in-Ok c =
    let access = Load c.args.dst c.args.i in
    uses (c.in-Ok.object, c.in-Ok.field-0-1) access c.in-Ok.ensures.goes c.in-Ok.ensures.may
    (c.look.ensures (Headed c.in-Ok.object c.in-Ok.field-0-1 access) (c.in-Ok.field-0-1, refl) c.in-Ok.ensures.may)
