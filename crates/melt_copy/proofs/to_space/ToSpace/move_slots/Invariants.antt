use Rattle.std.proofs.Common.{◌+◌, ◌≤◌}
use Rattle.melt_copy.specs.Evacuating.{Collection, Evacuates, EvacuatesSlots, FindsMore}
use Rattle.melt_copy.proofs.to_space.ToSpace.move_slots.Given as goal

abbrev pub invariant-loop-place : goal.invariant-loop-place
invariant-loop-place g l = record {
  more : FindsMore l.fn.self.moves l.self.moves;
  evacuates : (c : Collection) → EvacuatesSlots c l.phase l.fn.space l.fn.self l.first l.refs
      → Evacuates c l.space l.self l.place;
  visits : l.steps + l.fn.self.next + l.first ≤ l.fn.steps + l.self.next + l.place;
}
