use Rattle.std.proofs.Common.{refl, rules}
use Rattle.melt_core.specs.declared.call.Stage.TheVariants.{Polled}
use Rattle.melt_core.specs.declared.call.Task.TheVariants.{LoadGlobal, StoreGlobal}
use Rattle.melt_core.proofs.Staged.{may_from, moves_from}
use Rattle.melt_core.proofs.machine.Core.after_poll.Goals as goal

pub look-requires : goal.look-requires
look-requires c =
    (Polled (LoadGlobal c.in-LoadGlobal.dst c.in-LoadGlobal.g), refl, may_from c.requires.asks (search rules))

pub store-requires : goal.store-requires
store-requires c =
    (Polled (StoreGlobal c.in-StoreGlobal.g c.in-StoreGlobal.src), refl, may_from c.requires.asks (search rules))

pub returns-in-LoadGlobal : goal.returns-in-LoadGlobal
returns-in-LoadGlobal c =
    let stage = Polled (LoadGlobal c.in-LoadGlobal.dst c.in-LoadGlobal.g) in
    moves_from c.requires.asks (search rules)
    (c.look.ensures stage refl (may_from c.requires.asks (search rules)))

pub returns-in-StoreGlobal : goal.returns-in-StoreGlobal
returns-in-StoreGlobal c =
    let stage = Polled (StoreGlobal c.in-StoreGlobal.g c.in-StoreGlobal.src) in
    moves_from c.requires.asks (search rules)
    (c.store.ensures stage refl (may_from c.requires.asks (search rules)))
