use Rattle.std.proofs.Common.{◌≢◌, ℕ, ◌<◌}
use Rattle.melt_core.specs.Holdings.{nth_register}
use Rattle.melt_core.proofs.held.is_held_before.Given as goal

-- none of those before holds the same
abbrev pub invariant-loop-before : goal.invariant-loop-before
invariant-loop-before l = (i : ℕ) → i < l.before → nth_register l.held i ≢ l.address
