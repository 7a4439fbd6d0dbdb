-- The places of objects that were moved, one after the other.
use Rattle.std.proofs.Common.{◌≡◌, ◌≢◌, ℕ, zero, suc, ◌+◌, ◌-◌, ◌<◌, ◌≤◌, List, [], ◌∷◌, take, refl, sym, ◌∙◌, ap}
use Rattle.std.proofs.Common.{arith, inl, inr}
use Rattle.std.specs.Prelude.{slice_get, Some, map}
use Rattle.std.proofs.lemmas.Bool.{cases_lt, cases_order}
use Rattle.std.proofs.lemmas.List.Sums.{sum_by-cons}
use Rattle.std.proofs.lemmas.Option.{same_Some}
use Rattle.melt_word.specs.Words.{cost_of}
use Rattle.melt_scion.specs.State.{State}
use Rattle.melt_copy.specs.declared.forwarding.Relocation.{Relocation}
use Rattle.melt_copy.specs.Moving.{words_in, Relocates}

-- the words of one object more
pub words_in-cons : (m : Relocation) (moves : List Relocation) → words_in (m ∷ moves) ≡ cost_of m.shape + words_in moves
words_in-cons m moves = sum_by-cons (λ (n : ℕ). n) (cost_of m.shape) (map (λ (x : Relocation). cost_of x.shape) moves)

-- an object after the first ones
pub words_in-front : (moves : List Relocation) (k : ℕ) (m : Relocation) → slice_get moves k ≡ Some m
    → words_in (take k moves) + cost_of m.shape ≤ words_in moves
words_in-front [] k m at = absurd (cc)
words_in-front (x ∷ moves) zero m at = let same : x ≡ m = cc in let cost : cost_of x.shape ≡ cost_of m.shape =
    cc in omega (arith, words_in-cons x moves)
words_in-front (x ∷ moves) (suc k) m at =
    omega (arith, words_in-front moves k m at, words_in-cons x moves, words_in-cons x (take k moves))

-- an object among the first ones
pub words_in-before : (moves : List Relocation) (i j : ℕ) (m : Relocation) → slice_get moves i ≡ Some m → i < j
    → words_in (take i moves) + cost_of m.shape ≤ words_in (take j moves)
words_in-before moves i zero m at before = absurd (omega arith)
words_in-before [] i (suc j) m at before = absurd (cc)
words_in-before (x ∷ moves) zero (suc j) m at before = let same : x ≡ m =
    cc in let cost : cost_of x.shape ≡ cost_of m.shape = cc in omega (arith, words_in-cons x (take j moves))
words_in-before (x ∷ moves) (suc i) (suc j) m at before =
    omega (
      arith,
      words_in-before moves i j m at (omega arith),
      words_in-cons x (take i moves),
      words_in-cons x (take j moves),
    )

-- the object that takes a word
pub record Takes (moves : List Relocation) (at : ℕ) : Type 0 where
  pub index : ℕ
  pub move : Relocation
  pub is : slice_get moves index ≡ Some move
  pub from : words_in (take index moves) ≤ at
  pub to : at < words_in (take index moves) + cost_of move.shape

-- each word below the last belongs to an object
pub takes_word : (moves : List Relocation) (at : ℕ) → at < words_in moves → Takes moves at
takes_word [] at below = absurd (omega arith)
takes_word (x ∷ moves) at below =
    elim (cases_lt at (cost_of x.shape)) [
      | inl here ↦ record { index = 0; move = x; is = refl; from = omega arith; to = omega arith }
      | inr there ↦
          let rest = takes_word moves (at - cost_of x.shape) (omega (arith, words_in-cons x moves)) in
          let more = words_in-cons x (take rest.index moves) in
          record {
            index = suc rest.index;
            move = rest.move;
            is = rest.is;
            from = omega (arith, more, rest.from);
            to = omega (arith, more, rest.to);
          }
    ]

-- a later object lies after an earlier one
pub place_after : {s : State} {f : ℕ → ℕ} {moves : List Relocation} {free : ℕ} (i j : ℕ) {a b : Relocation}
    → Relocates s f moves free → slice_get moves i ≡ Some a → slice_get moves j ≡ Some b → i < j
    → a.to + cost_of a.shape ≤ b.to
place_after {moves} i j {a} {b} forwarding first second before =
    omega (arith, forwarding.places i a first, forwarding.places j b second, words_in-before moves i j a first before)

-- an object lies from word 1 on and below the end
pub place_below : (s : State) (f : ℕ → ℕ) (moves : List Relocation) (free : ℕ) (k : ℕ) (m : Relocation)
    → Relocates s f moves free → slice_get moves k ≡ Some m → (1 ≤ m.to) × (m.to + cost_of m.shape ≤ free)
place_below s f moves free k m forwarding at = (
  omega (arith, forwarding.places k m at),
  omega (arith, forwarding.places k m at, forwarding.after, words_in-front moves k m at),
)

-- two objects at one place are one
pub same_place : {s : State} {f : ℕ → ℕ} {moves : List Relocation} {free : ℕ} (i j : ℕ) {a b : Relocation}
    → Relocates s f moves free → slice_get moves i ≡ Some a → slice_get moves j ≡ Some b → a.to ≡ b.to
    → (i ≡ j) × (a ≡ b)
same_place {moves} i j {a} {b} forwarding first second same =
    elim (cases_order i j) [
      | inl is ↦ (is, same_Some a b (sym first ∙ (ap (slice_get moves) is ∙ second)))
      | inr other ↦ absurd (elim other [
        | inl before ↦ omega (arith, place_after i j forwarding first second before)
        | inr after ↦ omega (arith, place_after j i forwarding second first after)
      ])
    ]

-- two moves from one address are one
pub same_source : {s : State} {f : ℕ → ℕ} {moves : List Relocation} {free : ℕ} (i j : ℕ) {a b : Relocation}
    → Relocates s f moves free → slice_get moves i ≡ Some a → slice_get moves j ≡ Some b → a.from ≡ b.from
    → (i ≡ j) × (a ≡ b)
same_source {f} i j {a} {b} forwarding first second same =
    same_place i j forwarding first second
    (sym (forwarding.found i a first) ∙ (ap f same ∙ forwarding.found j b second))

-- the object of a move was found
pub place_found : (s : State) (f : ℕ → ℕ) (moves : List Relocation) (free : ℕ) (k : ℕ) (m : Relocation)
    → Relocates s f moves free → slice_get moves k ≡ Some m → f m.from ≢ 0
place_found s f moves free k m forwarding at none = omega (arith, forwarding.found k m at, forwarding.places k m at)
