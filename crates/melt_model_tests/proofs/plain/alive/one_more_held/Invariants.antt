use Rattle.std.proofs.Common.{◌≡◌, ℕ, ◌<◌}
use Rattle.std.specs.Prelude.{Contains, slice_index_or}
use Rattle.melt_model.specs.declared.history.Value.TheVariants.{Ref}
use Rattle.melt_model_tests.proofs.plain.alive.one_more_held.Given as goal

abbrev pub invariant-loop-value : goal.invariant-loop-value
invariant-loop-value l = (k : ℕ) → k < l.value-index → (n : ℕ) → slice_index_or l.registers k (Ref n) ≡ Ref n
    → Contains l.objects n
