use Rattle.std.proofs.Common.{◌≡◌, ℕ, ◌<◌}
use Rattle.std.specs.Prelude.{Contains, slice_get, Some}
use Rattle.melt_model.specs.Plain.{Wrote}
use Rattle.melt_model.specs.declared.history.Entry.{Entry}
use Rattle.melt_model_tests.proofs.plain.alive.one_more_in_slots.Given as goal

abbrev pub invariant-loop-entry : goal.invariant-loop-entry
invariant-loop-entry l = (p : ℕ) → p < l.entry-index → (e : Entry) → slice_get l.history p ≡ Some e → (n : ℕ)
    → Wrote l.history l.objects e.act n → Contains l.objects n
