use Rattle.std.proofs.Common.{◌≡◌, ◌+◌}
use Rattle.melt_move.specs.GivingHomes.{MarksSlots}
use Rattle.melt_move.proofs.homes.mark_slots.Given as goal

abbrev pub invariant-loop-slot : goal.invariant-loop-slot
invariant-loop-slot g l = record {
  marks : MarksSlots l.slots l.slot-index l.fn.marks l.marks;
  visits : l.steps ≡ l.fn.steps + l.slot-index;
}
