-- What the two totals of a collection are to the history for which the state stands.
use Rattle.std.proofs.Common.{◌≡◌, ◌≢◌, ℕ, ◌≤◌, List, [], refl, sym, ◌∙◌, ap, subst, arith, inl, inr}
use Rattle.std.specs.Prelude.{◌↔◌, Some}
use Rattle.melt_model.specs.History.{Legal}
use Rattle.melt_model.specs.Alive.{Alive, Held, words_of, CostsSum}
use Rattle.melt_model.specs.declared.history.Entry.{Entry}
use Rattle.melt_model.specs.declared.history.Value.{Value}
use Rattle.melt_model.specs.declared.reports.Phase.{Phase}
use Rattle.melt_scion.specs.State.{State}
use Rattle.melt_scion.specs.Placed.{Maps, IsNamed, Placed, value_at}
use Rattle.melt_scion.specs.Moves.{Leaves}
use Rattle.melt_scion.specs.Collected.{Collected, CountsWords, HeldAt}
use Rattle.melt_scion.proofs.Homeless.{no_scions}
use Rattle.melt_scion.proofs.Reaching.{reached_alive, alive_reached, value_held, held_address}
use Rattle.melt_scion.proofs.Numbered.{counts_numbers}

module _ (h : List Entry) (value : ℕ → ℕ → Value) (maps : Maps) (s : State) (placed : Placed h value maps s) where
  held_named : (a : ℕ) → HeldAt s a → IsNamed maps a
  held_named a is = elim (placed.formed.registers is.0.thread is.0.register) [
    | inl none ↦ absurd (is.1 (sym is.0.holds ∙ none))
    | inr named ↦ subst (IsNamed maps) is.0.holds named.0
  ]

  held_number : (n : ℕ) → Held value n ↔ ((a : ℕ) × HeldAt s a × (maps.address a ≡ Some n))
  held_number n = (
    λ held.
        let a = s.register held.thread held.register in
        let at = held_address maps n a (value held.thread held.register)
        (placed.registers held.thread held.register) held.holds in (
          a,
          (
            record { thread = held.thread; register = held.register; holds = refl },
            λ none. omega (arith, none, at.0),
          ),
          at.1,
        ),
    λ is.
        let t = is.1.0.thread in
        let r = is.1.0.register in
        let stands : value_at maps is.0 ≡ Some (value t r) = ap (value_at maps) (sym is.1.0.holds)
        ∙ placed.registers t r in
        let first : 1 ≤ is.0 = let some = is.1.1 in omega (arith, some) in
        record { thread = t; register = r; holds = value_held maps is.0 n (value t r) stands first is.2 },
  )

  -- the words of the objects in registers
  pub held_costs : (held : ℕ) → CountsWords s (HeldAt s) held → CostsSum (words_of h) (Held value) held
  held_costs held counts =
      counts_numbers h maps s placed.formed.words placed.tells (HeldAt s) (Held value) held held_named held_number
      counts

  -- The words of all objects after a collection of which none left for the disk. Before it no home was reserved.
  pub live_costs : {phase : Phase} {new : Maps} {t : State} {to home scion : ℕ → ℕ} {live : ℕ} → Legal h s.base.globals
      → s.base.homes ≡ [] → ((a : ℕ) → Leaves phase s a → ⊥) → Collected phase maps new s t to home scion
      → CountsWords t (IsNamed new) live → CostsSum (words_of h) (Alive h value) live
  live_costs {new} {t} {to} {live} legal none stay collected counts =
      let after = collected.placed h value placed in
      counts_numbers h new t after.formed.words after.tells (IsNamed new) (Alive h value) live (λ a is. is) (λ n. (
        λ alive.
            let found = alive_reached h value maps s legal placed none n alive in
            let some : to found.0 ≢ 0 = elim (collected.words.chooses.go found.0 found.2) [
              | inl stays ↦ stays
              | inr leaves ↦ absurd (stay found.0 leaves)
            ] in
            let at = collected.names.names found.0 some ∙ found.1 in
            (to found.0, (n, at), at),
        λ is.
            let from = collected.names.only is.0 n is.2 in
            reached_alive h value maps s from.0 n placed (no_scions h maps s placed.tells none)
            (collected.words.chooses.stay from.0 from.1).0 from.3,
      )) counts
