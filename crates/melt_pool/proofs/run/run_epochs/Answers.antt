-- The engine of a run by real threads lends one reader to each thread at most for an epoch.
use Rattle.std.proofs.Common.{rules}
use Rattle.std.proofs.lemmas.Result.{IfOk-weaker}
use Rattle.melt_pool.proofs.run.run_epochs.Goals as goal

pub returns-clause-lends : goal.returns-clause-lends
returns-clause-lends g c =
    IfOk-weaker c.run_by_engine.result _ _
    (λ done lends script ends. lends (λ threads. threads)
    (record { each = λ run alloc space later first result made. search rules }) script ends)
    c.run_by_engine.ensures.lends
