-- Where the homes of a disk lie: one after the other, so that no two have a word in common.
use Rattle.std.proofs.Common.{◌≡◌, ◌≢◌, ◌⊎◌, ℕ, zero, suc, ◌+◌, ◌<◌, ◌≤◌, inl, inr, List, [], ◌∷◌, sym, ◌∙◌, ap, arith}
use Rattle.std.specs.Prelude.{Some, slice_get}
use Rattle.std.proofs.lemmas.Bool.{cases_order}
use Rattle.std.proofs.lemmas.Option.{same_Some}
use Rattle.melt_word.specs.Words.{cost_of}
use Rattle.melt_word.specs.declared.header.Shape.{Shape}
use Rattle.melt_scion.specs.State.{Home, Follow, IsReserved}

-- homes that follow each other end past where they begin
follow_up : (from end : ℕ) (homes : List Home) → Follow from homes end → from ≤ end
follow_up from end [] follows = omega (arith, follows)
follow_up from end (x ∷ homes) follows =
    let rest : from + cost_of x.shape ≤ end = follow_up (from + cost_of x.shape) end homes follows.1 in
    omega arith

-- each of them lies between
follow_within : (from end j : ℕ) (homes : List Home) (y : Home) → Follow from homes end →
    slice_get homes j ≡ Some y → (from ≤ y.at) × (y.at + cost_of y.shape ≤ end)
follow_within from end j [] y follows at = absurd (cc)
follow_within from end zero (x ∷ homes) y follows at =
    let same : x ≡ y = same_Some x y at in
    let here : y.at ≡ from = ap (λ (home : Home). home.at) (sym same) ∙ follows.0 in
    let cost : cost_of x.shape ≡ cost_of y.shape = ap (λ (home : Home). cost_of home.shape) same in
    let rest : from + cost_of x.shape ≤ end = follow_up (from + cost_of x.shape) end homes follows.1 in
    (omega arith, omega arith)
follow_within from end (suc j) (x ∷ homes) y follows at =
    let rest = follow_within (from + cost_of x.shape) end j homes y follows.1 at in
    let after : from + cost_of x.shape ≤ y.at = rest.0 in
    (omega arith, rest.1)

-- of two of them, the one that is named first ends before the other begins
follow_order : (from end i j : ℕ) (homes : List Home) {x y : Home} → Follow from homes end → slice_get homes i ≡ Some x
    → slice_get homes j ≡ Some y → i < j → x.at + cost_of x.shape ≤ y.at
follow_order from end i j [] {x} {y} follows first second less = absurd (cc)
follow_order from end i zero (w ∷ homes) {x} {y} follows first second less = absurd (omega arith)
follow_order from end zero (suc j) (w ∷ homes) {x} {y} follows first second less =
    let same : w ≡ x = same_Some w x first in
    let here : x.at ≡ from = ap (λ (home : Home). home.at) (sym same) ∙ follows.0 in
    let cost : cost_of w.shape ≡ cost_of x.shape = ap (λ (home : Home). cost_of home.shape) same in
    let rest = follow_within (from + cost_of w.shape) end j homes y follows.1 second in
    let after : from + cost_of w.shape ≤ y.at = rest.0 in
    omega arith
follow_order from end (suc i) (suc j) (w ∷ homes) {x} {y} follows first second less =
    follow_order (from + cost_of w.shape) end i j homes follows.1 first second (omega arith)

module _ (homes : List Home) (end : ℕ) (follows : Follow 1 homes end) where
  -- a home lies between the first word of the disk and the end
  pub reserved_within : (home : ℕ) (z : Shape) → IsReserved homes home z → (1 ≤ home) × (home + cost_of z ≤ end)
  reserved_within home z is =
      follow_within 1 end is.index homes (record { at = home; shape = z }) follows is.is

  -- two homes are one, with one shape, or have no word in common
  pub reserved_apart : (home other : ℕ) (z y : Shape) → IsReserved homes home z → IsReserved homes other y →
      ((home ≡ other) × (z ≡ y)) ⊎ ((home + cost_of z ≤ other) ⊎ (other + cost_of y ≤ home))
  reserved_apart home other z y is also =
      let this : Home = record { at = home; shape = z } in
      let that : Home = record { at = other; shape = y } in
      elim (cases_order is.index also.index) [
        | inl same ↦
            let one : this ≡ that = same_Some this that (sym is.is ∙ (ap (slice_get homes) same ∙ also.is)) in
            inl (ap (λ (x : Home). x.at) one, ap (λ (x : Home). x.shape) one)
        | inr differ ↦ elim differ [
          | inl less ↦
              inr (inl (follow_order 1 end is.index also.index homes follows is.is also.is less))
          | inr more ↦
              inr (inr (follow_order 1 end also.index is.index homes follows also.is is.is more))
        ]
      ]

  -- a home was reserved for one shape
  pub reserved_once : (home : ℕ) (z y : Shape) → IsReserved homes home z → IsReserved homes home y → z ≡ y
  reserved_once home z y is also = elim (reserved_apart home home z y is also) [
    | inl same ↦ same.1
    | inr apart ↦ elim apart [ inl before ↦ absurd (omega arith) | inr after ↦ absurd (omega arith) ]
  ]

  -- a word of one home is none of another's
  pub reserved_words : (home other j : ℕ) (z y : Shape) → IsReserved homes home z → IsReserved homes other y →
      home ≢ other → j < cost_of z → (home + j < other) ⊎ (other + cost_of y ≤ home + j)
  reserved_words home other j z y is also differ below = elim (reserved_apart home other z y is also) [
    | inl same ↦ absurd (differ same.0)
    | inr apart ↦ elim apart [ inl before ↦ inl (omega arith) | inr after ↦ inr (omega arith) ]
  ]
