use Rattle.std.proofs.Common.{inl}
use Rattle.melt_model.proofs.AliveObjects.{listed_held, one_more_next}
use Rattle.melt_model_tests.proofs.plain.alive.one_more.Goals as goal

pub returns-in-Some : goal.returns-in-Some
returns-in-Some c = (inl (listed_held c.args.registers.now c.in-Some.object c.in-Some.ensures.0), c.in-Some.ensures.1)

pub returns-in-None : goal.returns-in-None
returns-in-None c = one_more_next c.args.history.now c.args.registers.now c.args.objects.now _ c.in-None.ensures
    c.one_more_in_slots.ensures
