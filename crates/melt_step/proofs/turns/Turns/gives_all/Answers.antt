-- The first thread that can go on is the one, and none after it can.
use Rattle.std.proofs.Common.{◌≡◌, ℕ, ◌+◌, ◌≤◌, rules, arith, inl, inr, refl, subst, List}
use Rattle.std.proofs.lemmas.Bool.{cases_eq, cases_lt}
use Rattle.std.specs.Prelude.{IfNone, None, Option, Some, slice_get}
use Rattle.melt_safepoint.specs.declared.thread.ThreadState.{ThreadState}
use Rattle.melt_safepoint.specs.Modes.{MayGo}
use Rattle.melt_step.proofs.turns.Turns.gives_all.Goals as goal

pub returns-clause-all : goal.returns-clause-all
returns-clause-all c given =
    let states : List ThreadState = c.args.states.now in
    let first : ℕ = c.in-Some.first in
    let none : c.first_from-other.result ≡ None = search rules in
    let after : (u : ℕ) (s : ThreadState) → first + 1 ≤ u → slice_get states u ≡ Some s → MayGo s.mode → ⊥ =
    subst (λ (found : Option ℕ). IfNone found ((u : ℕ) (s : ThreadState) → first + 1 ≤ u
    → slice_get states u ≡ Some s → MayGo s.mode → ⊥)) none c.first_from-other.ensures.none in
    record {
      no_line = search rules;
      alone = λ u goes. elim (cases_eq u first) [
        | inl same ↦ omega (arith, same, c.if-first-thread.false)
        | inr other ↦ absurd (elim (cases_lt u first) [
          | inl below ↦ c.in-Some.ensures.first.1 u (omega arith) below goes
          | inr above ↦ after u goes.0 (omega (arith, other, above)) goes.1 goes.2
        ])
      ];
      turn = refl;
    }
