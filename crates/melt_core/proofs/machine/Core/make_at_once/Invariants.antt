-- The call goes on from the beginning, and has stored so many words; its stage is written where it was claimed.
use Rattle.std.specs.Prelude.{◌≡◌, Some}
use Rattle.melt_core.specs.Changed.{with_call}
use Rattle.melt_core.specs.Views.{call_of, view}
use Rattle.melt_core.proofs.AtOnce.{MayMakeNextEvent, making}
use Rattle.melt_core.proofs.machine.Core.make_at_once.Given as goal

abbrev pub invariant-loop-stored : goal.invariant-loop-stored
invariant-loop-stored l =
    MayMakeNextEvent (view l.fn.self)
    (with_call (view l.self) l.fn.thread (Some (making l.fn.op l.address l.fn.shape l.stored l.fn.dst))) l.fn.thread
    l.fn.op
    × (call_of (view l.self) l.fn.thread ≡ Some (making l.fn.op l.address l.fn.shape 0 l.fn.dst))
