use Rattle.std.proofs.Common.{◌≡◌, ◌+◌, ◌*◌}
use Rattle.melt_copy.specs.Tracking.{goes}
use Rattle.melt_copy.proofs.Committing.{Forwards}
use Rattle.melt_copy.proofs.commit.forward_held.Given as goal

abbrev pub invariant-loop-registers : goal.invariant-loop-registers
invariant-loop-registers g l = record {
  forwards : Forwards (goes l.forwarding) l.fn.held l.held l.registers-index;
  visits : l.steps ≡ l.fn.steps + 17 * l.registers-index;
}
