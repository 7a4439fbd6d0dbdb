use Rattle.std.proofs.Common.{◌≡◌, ℕ, ◌<◌, take}
use Rattle.std.specs.Prelude.{slice_get, Some}
use Rattle.melt_model.specs.History.{MayFollow}
use Rattle.melt_model.specs.declared.history.Entry.{Entry}
use Rattle.melt_model_tests.proofs.plain.is_legal.Given as goal

abbrev pub invariant-loop-place : goal.invariant-loop-place
invariant-loop-place l = (p : ℕ) → p < l.place → (e : Entry) → slice_get l.history p ≡ Some e
    → MayFollow (take p l.history) l.globals e.act
