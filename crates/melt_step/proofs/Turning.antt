-- Lines of a trace are dropped until one is of a thread that can go on.
use Rattle.std.proofs.Common.{◌≡◌, ◌≢◌, ℕ, ◌+◌, ◌-◌, ◌<◌, ◌≤◌, ◌⊎◌, inl, inr, List, length, slice_get, Some, refl, sym}
use Rattle.std.proofs.Common.{◌∙◌, ap, subst, arith}
use Rattle.std.proofs.lemmas.Bool.{cases_eq}
use Rattle.std.proofs.lemmas.Option.{same_Some}
use Rattle.melt_safepoint.specs.declared.thread.ThreadState.{ThreadState}
use Rattle.melt_step.specs.Turns.{GoesAt, NoLine, GivesEvents, OfLine}
use Rattle.melt_step.specs.declared.turns.Turns.{Turns}

-- The lines before the present one are dropped. Either none was, or nothing is left of a line that was begun.
pub record Dropping (orders : List (ℕ × ℕ)) (states : List ThreadState) (old now : Turns) : Type 0 where
  pub from : old.line ≤ now.line
  pub within : old.line ≤ length orders → now.line ≤ length orders
  pub dropped : NoLine orders states old.line now.line
  pub turn : now.turn ≡ old.turn
  pub begun : (now ≡ old) ⊎ ((old.line < now.line) × (now.left ≡ 0))

-- one line more is of a thread that cannot go on
no_line_more : (orders : List (ℕ × ℕ)) (states : List ThreadState) (from to : ℕ) (line : ℕ × ℕ)
    → slice_get orders to ≡ Some line → (GoesAt states line.0 → ⊥) → NoLine orders states from to
    → NoLine orders states from (to + 1)
no_line_more orders states from to line is cannot before k other le lt at goes = elim (cases_eq k to) [
  | inl same ↦ cannot (subst (λ (x : ℕ × ℕ). GoesAt states x.0)
      (same_Some other line (sym at ∙ (ap (λ (n : ℕ). slice_get orders n) same ∙ is))) goes)
  | inr different ↦ before k other le (omega (arith, different)) at goes
]

-- the present line is dropped too, as its thread cannot go on
pub dropped_more :
    (orders : List (ℕ × ℕ)) (states : List ThreadState) (old now new : Turns) (line : ℕ × ℕ)
    → Dropping orders states old now → slice_get orders now.line ≡ Some line → (GoesAt states line.0 → ⊥)
    → now.line < length orders
    → new ≡ record now { line = now.line + 1; left = 0 }
    → Dropping orders states old new
dropped_more orders states old now new line d is cannot lt made =
    subst (λ (x : Turns). Dropping orders states old x) (sym made) (record {
      from = omega (arith, d.from);
      within = λ le. omega (arith, lt);
      dropped = no_line_more orders states old.line now.line line is cannot d.dropped;
      turn = d.turn;
      begun = inr (omega (arith, d.from), refl);
    })

-- how many events a line gives: all of them, or those that were left when it was the first and begun
gives : (orders : List (ℕ × ℕ)) (states : List ThreadState) (old now : Turns) (events left : ℕ)
    → Dropping orders states old now → ((now.left ≡ 0) × (left ≡ events)) ⊎ ((now.left ≢ 0) × (left ≡ now.left))
    → GivesEvents old now.line events left
gives orders states old now events left d (inl whole) = elim d.begun [
  | inl same ↦ inr (inr (ap (λ (x : Turns). x.left) (sym same) ∙ whole.0), whole.1)
  | inr later ↦ inr (inl (λ e. omega (arith, later.0, e)), whole.1)
]
gives orders states old now events left d (inr rest) = elim d.begun [
  | inl same ↦ inl (
    ap (λ (x : Turns). x.line) same,
    (λ e. rest.0 (ap (λ (x : Turns). x.left) same ∙ e)),
    rest.1 ∙ ap (λ (x : Turns). x.left) same,
  )
  | inr later ↦ absurd (rest.0 later.1)
]

-- the thread of the present line takes one of its events
pub of_line : {orders : List (ℕ × ℕ)} {states : List ThreadState} {old now : Turns} (new : Turns) {t events : ℕ}
    (left : ℕ) → Dropping orders states old now → slice_get orders now.line ≡ Some (t, events) → 1 ≤ events
    → GoesAt states t → ((now.left ≡ 0) × (left ≡ events)) ⊎ ((now.left ≢ 0) × (left ≡ now.left)) → new.left ≡ left - 1
    → (new.left ≢ 0 → new.line ≡ now.line) → (new.left ≡ 0 → new.line ≡ now.line + 1) → new.turn ≡ now.turn
    → OfLine orders states old new t
of_line {orders} {states} {old} {now} new {events} left d is some goes which less stays over turn = record {
  k = now.line;
  events = events;
  count = left;
  from = d.from;
  line = is;
  goes = goes;
  dropped = d.dropped;
  gives = gives orders states old now events left d which;
  one = elim which [ inl whole ↦ omega (arith, whole.1, less, some) | inr rest ↦ omega (arith, rest.0, rest.1, less) ];
  stays = stays;
  over = over;
  turn = turn ∙ d.turn;
}
