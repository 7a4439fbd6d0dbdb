-- The events are that of `poll`, which writes nothing here, and that of `look`.
use Rattle.std.proofs.Common.{refl, rules}
use Rattle.melt_core.specs.Changed.{with_stage}
use Rattle.melt_core.specs.Views.{view}
use Rattle.melt_core.specs.declared.call.Stage.TheVariants.{Polled}
use Rattle.melt_core.specs.declared.call.Task.TheVariants.{LoadGlobal}
use Rattle.melt_core.proofs.AtOnce.{MayMakeNextEvent, last_from, polled_well, polls}
use Rattle.melt_core.proofs.machine.Core.load_global_at_once.Goals as goal
use Rattle.melt_core.proofs.machine.Core.load_global_at_once.Goals.{Else-self}

-- after the first event
polled : (c : Else-self) → MayMakeNextEvent (view c.args.self.now)
    (with_stage (view c.args.self.now) c.args.thread c.args.op (Polled (LoadGlobal c.args.dst c.args.g))) c.args.thread c.args.op
polled c = polls (LoadGlobal c.args.dst c.args.g) c.requires.asks c.requires.first (c.requires.task, tt) (search rules)

pub look-requires : goal.look-requires
look-requires c =
    (Polled (LoadGlobal c.args.dst c.args.g), refl, (polled (goal.at.look-requires c).Else-self).may)

pub returns : goal.returns
returns c =
    let goes = polled (goal.at.returns c).Else-self in
    last_from goes (polled_well (LoadGlobal c.args.dst c.args.g))
    (c.look.ensures (Polled (LoadGlobal c.args.dst c.args.g)) refl goes.may)
