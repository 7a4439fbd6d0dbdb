use Rattle.melt_move.proofs.Marking.{marks_some, marks_none}
use Rattle.melt_move.proofs.homes.mark_slots.Goals as goal
use Rattle.melt_move.proofs.homes.mark_slots.Goals.{in-Some, in_default}
use Rattle.std.proofs.Common.{◌+◌, refl, sym, subst, arith}
use Rattle.melt_move.specs.GivingHomes.{MarksSlots}

pub bounds-marks-address : goal.bounds-marks-address
bounds-marks-address g c =
    let below = c.requires.below c.loop-slot.slot-index c.in-Some.address (omega arith)
    ((c.in-Some.ensures c.in-Some.address).0 refl) in
    omega (arith, below, c.loop-slot.invariant.marks.size)

pub loop-slot-preserved : goal.loop-slot-preserved
loop-slot-preserved g c = record {
  marks = elim c.match-address_in.branch [
    | in-Some w ↦
        let below = c.requires.below c.loop-slot.slot-index w.in-Some.address (omega arith)
        ((w.in-Some.ensures w.in-Some.address).0 refl) in
        marks_some c.args.slots.now c.loop-slot.slot-index w.in-Some.address c.args.marks.now c.loop-slot.marks
        c.match-address_in.marks c.loop-slot.invariant.marks w.in-Some.ensures
        (omega (arith, below, c.loop-slot.invariant.marks.size)) w.marks-is
    | in_default w ↦
        subst (MarksSlots c.args.slots.now (c.loop-slot.slot-index + 1) c.args.marks.now) (sym w.marks-is)
        (marks_none c.args.slots.now c.loop-slot.slot-index c.args.marks.now c.loop-slot.marks
        c.loop-slot.invariant.marks w.in_default.ensures)
  ];
  visits = omega (arith, c.loop-slot.invariant.visits, c.tick.ensures);
}
