use Rattle.std.proofs.Common.{◌+◌, ◌-◌, length}
use Rattle.melt_model.proofs.AliveObjects.{Found}
use Rattle.melt_model_tests.proofs.plain.alive.alive_objects.Given as goal

abbrev pub invariant-loop-object : goal.invariant-loop-object
invariant-loop-object l = Found l.history l.registers l.objects.items

abbrev pub decreases-loop-object : goal.decreases-loop-object
decreases-loop-object l = (length l.registers + length l.history) - length l.objects.items
