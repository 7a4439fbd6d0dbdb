-- What is left stands as the run did.
use Rattle.std.proofs.Common.{refl}
use Rattle.melt_safepoint.specs.Rows.{row_of}
use Rattle.melt_safepoint.proofs.Closing.{ended_all}
use Rattle.melt_safepoint.proofs.run.Run.end.Goals as goal

pub finish-requires : goal.finish-requires
finish-requires g c = record { quiet = c.requires.stands.1.3.quiet }

pub returns-clause-stands : goal.returns-clause-stands
returns-clause-stands g c = λ told script config shown stands.
    ended_all told script config shown (row_of g.E.Machine.view c.args.self) _ stands c.requires.ended
    (record { left = c.finish.ensures.left; states = refl; journal = refl; halt_is = refl })
