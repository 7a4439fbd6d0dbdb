-- The threads make their calls again, and then take events.
use Rattle.std.proofs.Common.{arith}
use Rattle.melt_core.specs.Views.{view}
use Rattle.melt_safepoint.proofs.ToDo.{resumed_same}
use Rattle.melt_step.proofs.Going.{known_rests, stands_from}
use Rattle.melt_step.proofs.epoch.run_events.Goals as goal

pub give_events-requires : goal.give_events-requires
give_events-requires g c =
    let stands = c.requires.stands in (
      omega arith,
      (
        (
          stands.0,
          stands.1,
          stands.2,
          (
            stands.3.0,
            stands.3.1,
            stands.3.2,
            stands.3.3,
            c.resume.ensures.keeps stands.0 stands.3.3 stands.3.0 stands.3.1 stands.3.2 stands.3.4,
          ),
        ),
        c.resume.ensures.stop,
      ),
    )

pub returns-clause-keeps : goal.returns-clause-keeps
returns-clause-keeps g c = λ shown ends shows begun told script config goes.
    let after = c.give_events.ensures.keeps shown ends shows begun told script config
    (c.resume.ensures.keeps shown begun told script config goes) in
    (stands_from c.give_events.ensures.waits after, after.tied)

pub returns-clause-rests : goal.returns-clause-rests
returns-clause-rests g c =
    known_rests (view c.give_events.new.run.machine.core) c.give_events.new.run.states.items c.give_events.ensures.stop
    c.give_events.ensures.waits

pub returns-clause-less : goal.returns-clause-less
returns-clause-less g c =
    omega (
      arith,
      c.give_events.ensures.less,
      resumed_same c.args.run.now.states.items c.resume.new.run.states.items c.resume.ensures.resumed,
    )
