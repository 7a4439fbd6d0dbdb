use Rattle.std.proofs.Common.{arith, length-drop}
use Rattle.melt_io.proofs.Fronts.{front_taken}
use Rattle.melt_io.proofs.memory.take_next.Goals as goal

pub returns-clause-taken : goal.returns-clause-taken
returns-clause-taken c =
    front_taken c.args.bytes.now c.args.pos.now c.min-start.result c.min-n.result _ _ c.min-start.ensures
    (omega (arith, length-drop c.min-start.result c.args.bytes.now)) c.copy_from_slice.ensures.after
