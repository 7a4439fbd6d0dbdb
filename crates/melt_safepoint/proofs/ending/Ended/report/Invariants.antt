-- The threads so far are reported, and the others are to come.
use Rattle.std.proofs.Common.{◌≡◌, ◌++◌}
use Rattle.melt_safepoint.proofs.Reporting.{Reported}
use Rattle.melt_safepoint.proofs.ending.Ended.report.Given as goal

abbrev pub invariant-loop-state : goal.invariant-loop-state
invariant-loop-state l = Reported l.yielded l.threads.items
    × (l.yielded ++ l.state-iterator.rest.items ≡ l.fn.self.states.items)
