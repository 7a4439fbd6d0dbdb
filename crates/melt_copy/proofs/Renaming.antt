-- The names of addresses after objects were moved.
use Rattle.std.proofs.Common.{◌≡◌, ℕ, zero, suc, eqb, List, [], ◌∷◌, refl, sym, ◌∙◌, ap, inl, inr}
use Rattle.std.specs.Prelude.{slice_get, Option, Some}
use Rattle.std.proofs.lemmas.Bool.{cases_eq, eq-eqb, ne_eqb, cond-true, cond-false}
use Rattle.melt_copy.specs.declared.forwarding.Relocation.{Relocation}
use Rattle.melt_copy.specs.Moving.{name_after}

-- what moves to an address, where no two objects do
pub name_after-at : (name : ℕ → Option ℕ) (moves : List Relocation) (k : ℕ) (m : Relocation)
    → slice_get moves k ≡ Some m → ((j : ℕ) (x : Relocation) → slice_get moves j ≡ Some x → x.to ≡ m.to → x ≡ m)
    → name_after name moves m.to ≡ name m.from
name_after-at name [] k m at one = absurd (cc)
name_after-at name (x ∷ moves) zero m at one =
    cond-true (eqb x.to m.to) (name x.from) (name_after name moves m.to)
    (let same : x.to ≡ m.to = cc in eq-eqb x.to m.to same) ∙ (let same : name x.from ≡ name m.from = cc in same)
name_after-at name (x ∷ moves) (suc k) m at one =
    elim (cases_eq x.to m.to) [
      | inl same ↦ cond-true (eqb x.to m.to) (name x.from) (name_after name moves m.to) (eq-eqb x.to m.to same)
          ∙ ap (λ (y : Relocation). name y.from) (one 0 x refl same)
      | inr other ↦ cond-false (eqb x.to m.to) (name x.from) (name_after name moves m.to) (ne_eqb x.to m.to other)
          ∙ name_after-at name moves k m at (λ j y there. one (suc j) y there)
    ]

-- an object that moves to an address, with its number
pub record Comes (name : ℕ → Option ℕ) (moves : List Relocation) (address n : ℕ) : Type 0 where
  pub index : ℕ
  pub move : Relocation
  pub is : slice_get moves index ≡ Some move
  pub to : move.to ≡ address
  pub named : name move.from ≡ Some n

-- an address with a number has an object that moved there
pub comes : (name : ℕ → Option ℕ) (moves : List Relocation) (address n : ℕ) → name_after name moves address ≡ Some n
    → Comes name moves address n
comes name [] address n named = absurd (cc)
comes name (x ∷ moves) address n named =
    elim (cases_eq x.to address) [
      | inl same ↦ record {
        index = 0;
        move = x;
        is = refl;
        to = same;
        named =
            sym (cond-true (eqb x.to address) (name x.from) (name_after name moves address)
            (eq-eqb x.to address same)) ∙ named;
      }
      | inr other ↦
          let rest = comes name moves address n
          (sym (cond-false (eqb x.to address) (name x.from) (name_after name moves address) (ne_eqb x.to address other))
          ∙ named) in
          record { index = suc rest.index; move = rest.move; is = rest.is; to = rest.to; named = rest.named }
    ]
