-- What stood over a disk stands in the new epoch.
use Rattle.std.proofs.Common.{sym, subst}
use Rattle.melt_core.specs.Views.{Standing, view}
use Rattle.melt_core.specs.declared.machine.Core.{Core}
use Rattle.melt_step.proofs.epoch.renew.Goals as goal

pub returns-clause-rests : goal.returns-clause-rests
returns-clause-rests c = λ told disk stands.
    subst (λ (k : Core). Standing told disk (view k)) (sym c.begin.ensures)
    (c.finish-heap.ensures.rests told disk stands).stands
