-- The events are that of `poll`, which writes nothing here, and that of `store`.
use Rattle.std.proofs.Common.{refl, rules}
use Rattle.melt_core.specs.Changed.{with_stage}
use Rattle.melt_core.specs.Views.{view}
use Rattle.melt_core.specs.declared.call.Stage.TheVariants.{Polled}
use Rattle.melt_core.specs.declared.call.Task.TheVariants.{StoreGlobal}
use Rattle.melt_core.proofs.AtOnce.{MayMakeNextEvent, last_from, polled_well, polls}
use Rattle.melt_core.proofs.machine.Core.store_global_at_once.Goals as goal
use Rattle.melt_core.proofs.machine.Core.store_global_at_once.Goals.{Else-self}

-- after the first event
polled : (c : Else-self) → MayMakeNextEvent (view c.args.self.now)
    (with_stage (view c.args.self.now) c.args.thread c.args.op (Polled (StoreGlobal c.args.g c.args.src))) c.args.thread c.args.op
polled c = polls (StoreGlobal c.args.g c.args.src) c.requires.asks c.requires.first (c.requires.task, tt) (search rules)

pub store-requires : goal.store-requires
store-requires c =
    (Polled (StoreGlobal c.args.g c.args.src), refl, (polled (goal.at.store-requires c).Else-self).may)

pub returns : goal.returns
returns c =
    let goes = polled (goal.at.returns c).Else-self in
    last_from goes (polled_well (StoreGlobal c.args.g c.args.src))
    (c.store.ensures (Polled (StoreGlobal c.args.g c.args.src)) refl goes.may)
