use Rattle.std.proofs.Common.{◌+◌, ◌-◌, ◌≤◌}
use Rattle.melt_copy.specs.Evacuating.{Collection, EvacuatesQueue, FindsMore}
use Rattle.melt_copy.proofs.to_space.ToSpace.scan.Given as goal

abbrev pub invariant-loop-done : goal.invariant-loop-done
invariant-loop-done g l = record {
  more : FindsMore l.fn.self.moves l.self.moves;
  queue : (c : Collection) → EvacuatesQueue c l.phase l.held_words l.fn.space l.fn.self 0
      → EvacuatesQueue c l.phase l.held_words l.space l.self l.done;
  visits : l.steps + l.fn.self.next ≤ l.fn.steps + l.self.next + l.done;
}

abbrev pub decreases-loop-done : goal.decreases-loop-done
decreases-loop-done g l = l.fn.space.used + 1 - l.done
