use Rattle.std.proofs.Common.{◌≡◌, ◌+◌}
use Rattle.melt_copy.proofs.Committing.{Forwards}
use Rattle.melt_move.proofs.collect.drop_held.Given as goal

abbrev pub invariant-loop-registers : goal.invariant-loop-registers
invariant-loop-registers g l = record {
  dropped : Forwards (λ address. 0) l.fn.held l.held l.registers-index;
  visits : l.steps ≡ l.fn.steps + l.registers-index;
}
