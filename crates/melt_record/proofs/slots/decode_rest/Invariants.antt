use Rattle.melt_record.specs.Records.{AreSlots}
use Rattle.melt_record.proofs.slots.decode_rest.Given as goal

abbrev pub invariant-loop-slot : goal.invariant-loop-slot
invariant-loop-slot l = AreSlots l.end l.slot l.fn.words
