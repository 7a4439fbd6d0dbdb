use Rattle.std.proofs.Common.{◌≡◌, ◌+◌, ◌≤◌, drop}
use Rattle.melt_model.specs.History.{made}
use Rattle.melt_model_tests.proofs.plain.made.Given as goal

abbrev pub invariant-loop-entry : goal.invariant-loop-entry
invariant-loop-entry l = (l.count ≤ l.entry-index) × (l.count + made (drop l.entry-index l.history) ≡ made l.history)
