-- Registers that hold nothing, and calls that are not refused.
use Rattle.std.proofs.Common.{◌≡◌, ◌≤◌, ℕ, List, length, refl, inl, inr, arith}
use Rattle.std.specs.Prelude.{Result, Ok, Err, OnOk, IsErr}
use Rattle.std.proofs.lemmas.Bool.{cases_lt}
use Rattle.melt_scion.specs.Heaps.{register_in}
use Rattle.melt_scion.specs.declared.registers.Registers.{Registers}
use Rattle.melt_copy.proofs.Committing.{Forwards}
use Rattle.melt_copy.proofs.Held.{past_threads}

-- registers of which each was made to hold nothing
pub nothing_held : (old new : List Registers) (n t r : ℕ) → Forwards (λ address. 0) old new n → length new ≤ n
    → register_in new t r ≡ 0
nothing_held old new n t r forwards all = elim (cases_lt t n) [
  | inl below ↦ forwards.done t r below
  | inr above ↦ past_threads new t r (omega (arith, all, above))
]

-- what holds of a call that ends well holds where it was not refused
pub when_ok : {A E : Type 0} (result : Result A E) (P : Type 0) → OnOk result P → (IsErr result → ⊥) → P
when_ok (Ok a) P on never = on
when_ok (Err e) P on never = absurd (never refl)

-- two facts of a call that ends well, and what follows from both
pub on_ok_both : {A E : Type 0} (result : Result A E) (P Q R : Type 0) → OnOk result P → OnOk result Q → (P → Q → R)
    → OnOk result R
on_ok_both (Ok a) P Q R one other both = both one other
on_ok_both (Err e) P Q R one other both = tt
