-- There is a scion for each object that is given one.
use Rattle.std.proofs.Common.{◌≡◌, ◌≢◌, ◌⊎◌, ℕ, zero, suc, ◌+◌, ◌<◌, ◌≤◌, List, length, get_or, refl, sym, ◌∙◌, ap}
use Rattle.std.proofs.Common.{subst, arith, inl, inr}
use Rattle.std.specs.Prelude.{◌/◌, slice_get, slice_index, IsSome, Option, Some, None}
use Rattle.std.specs.List.{Contains}
use Rattle.std.proofs.lemmas.Bool.{cases_order}
use Rattle.std.proofs.lemmas.List.{get_or_default}
use Rattle.std.proofs.lemmas.Option.{same_Some, slice_get-get_or}
use Rattle.melt_word.specs.Words.{cost_of}
use Rattle.melt_scion.specs.Scions.{Scions, IsTable, scion_at}
use Rattle.melt_scion.proofs.Few.{few_apart}
use Rattle.melt_copy.specs.declared.forwarding.Relocation.{Relocation}
use Rattle.melt_move.specs.GivenScions.{NamesScion}
use Rattle.melt_move.proofs.Freeing.{named_not_none, one_name}
use Rattle.melt_move.proofs.Turns.{IsOwner}

-- the objects lie in so many words, one after the other
pub record LieApart (size : ℕ) (moves : List Relocation) : Type 0 where
  pub placed : (k : ℕ) (m : Relocation) → slice_get moves k ≡ Some m
      → (1 ≤ m.to) × (m.to + cost_of m.shape ≤ size + 1)
  pub apart : (i j : ℕ) (m n : Relocation) → slice_get moves i ≡ Some m → slice_get moves j ≡ Some n → i < j
      → m.to + cost_of m.shape ≤ n.to

nought : Relocation
nought = record { from = 0; to = 0; shape = record { refs = 0; nums = 0 } }

-- they are at most half as many as the words
pub few_moves : (size : ℕ) (moves : List Relocation) → LieApart size moves → length moves ≤ size / 2
few_moves size moves lie =
    let move : ℕ → Relocation = λ k. get_or moves k nought in
    let there : (k : ℕ) → k < length moves → slice_get moves k ≡ Some (move k) =
    λ k below. slice_get-get_or moves k nought below in
    few_apart size (length moves) (λ k. (move k).to)
    (λ i below.
    let is = lie.placed i (move i) (there i below) in
    (is.0, omega (arith, is.1)))
    (λ i j before below.
    let is = lie.apart i j (move i) (move j) (there i (omega (arith, before, below))) (there j below) before in
    inl (omega (arith, is)))

module _ (size : ℕ) (moves : List Relocation) (count : ℕ) (word : ℕ → ℕ) (scions : Scions) (here : ℕ) (m : Relocation)
    (at : slice_get moves here ≡ Some m) (none : word (m.to + 1) ≡ 0) (lie : LieApart size moves)
    (only : (scion : ℕ) (pair : ℕ × ℕ) → scion_at scions scion ≡ Some pair → IsOwner moves count word scion pair)
    (table : IsTable scions) where
  -- an object that names a scion
  record Names (scion : ℕ) : Type 0 where
    pub index : ℕ
    pub move : Relocation
    pub home : ℕ
    pub is : slice_get moves index ≡ Some move
    pub names : NamesScion word move.to home scion

  -- where the object of a scion lies, if the scion is live
  owner : (scion : ℕ) (o : Option (ℕ × ℕ)) → scion_at scions scion ≡ o → ℕ
  owner scion None is = 0
  owner scion (Some pair) is = (only scion pair is).move.to

  owner_is : (scion : ℕ) (o : Option (ℕ × ℕ)) (is : scion_at scions scion ≡ o) → IsSome o
      → (n : Names scion) × (owner scion o is ≡ n.move.to)
  unfolding owner
  owner_is scion None is some = absurd (cc)
  owner_is scion (Some pair) is some =
      let own = only scion pair is in
      (record { index = own.index; move = own.move; home = pair.0; is = own.is; names = own.names }, refl)

  -- this object, and after it those of the live scions
  place : ℕ → ℕ
  place zero = m.to
  place (suc i) =
      let scion : ℕ = slice_index scions.live i in owner scion (scion_at scions scion) refl

  -- the object that wants a scion, or one that names the live scion of an index
  Which : ℕ → Relocation → Type 0
  Which i move = ((i ≡ 0) × (move ≡ m))
      ⊎ ((k : ℕ) × (home : ℕ) × (i ≡ suc k) × NamesScion word move.to home (slice_index scions.live k))

  -- the object at a place
  record PlacedAt (i : ℕ) : Type 0 where
    pub index : ℕ
    pub move : Relocation
    pub is : slice_get moves index ≡ Some move
    pub to : place i ≡ move.to
    pub which : Which i move

  named : (i : ℕ) → i < length scions.live → (n : Names (slice_index scions.live i)) × (place (suc i) ≡ n.move.to)
  unfolding place
  named i below =
      let scion : ℕ = slice_index scions.live i in
      let there : Contains scions.live scion = (i, below, get_or_default scions.live i scion 0 below) in
      owner_is scion (scion_at scions scion) refl ((table.live scion).0 there)

  placed_at : (i : ℕ) → i < suc (length scions.live) → PlacedAt i
  unfolding place Which
  placed_at zero below = record { index = here; move = m; is = at; to = refl; which = inl (refl, refl) }
  placed_at (suc i) below =
      let n = named i (omega (arith, below)) in
      record {
        index = n.0.index;
        move = n.0.move;
        is = n.0.is;
        to = n.1;
        which = inr (i, n.0.home, refl, n.0.names);
      }

  -- no two of these are one
  differ : (i j : ℕ) (p : PlacedAt i) (q : PlacedAt j) → i < j → j < suc (length scions.live) → p.index ≢ q.index
  unfolding Which
  differ i j p q less below same =
      let one : p.move ≡ q.move =
      same_Some p.move q.move (sym p.is ∙ (ap (slice_get moves) same ∙ q.is)) in
      elim q.which [
        | inl first ↦ omega (arith, first.0, less)
        | inr second ↦ elim p.which [
          | inl first ↦
              let mine : q.move ≡ m = sym one ∙ first.1 in
              named_not_none word q.move.to second.1 (slice_index scions.live second.0) second.3
              (ap (λ (x : Relocation). word (x.to + 1)) mine ∙ none)
          | inr also ↦
              let both = one_name word q.move.to also.1 (slice_index scions.live also.0) second.1
              (slice_index scions.live second.0)
              (subst (λ (x : Relocation). NamesScion word x.to also.1 (slice_index scions.live also.0)) one also.3)
              second.3 in
              table.live_once also.0 second.0 0 (omega (arith, less, also.2, second.2))
              (omega (arith, below, second.2)) both.1
        ]
      ]

  -- the live scions, and one more, are at most half as many as there are words
  pub scions_few : suc (length scions.live) ≤ size / 2
  scions_few = few_apart size (suc (length scions.live)) place
      (λ i below.
      let p = placed_at i below in
      let is = lie.placed p.index p.move p.is in
      (omega (arith, is.0, p.to), omega (arith, is.1, p.to)))
      (λ i j less below.
      let p = placed_at i (omega (arith, less, below)) in
      let q = placed_at j below in
      elim (cases_order p.index q.index) [
        | inl same ↦ absurd (differ i j p q less below same)
        | inr (inl before) ↦
            let far = lie.apart p.index q.index p.move q.move p.is q.is before in
            inl (omega (arith, far, p.to, q.to))
        | inr (inr after) ↦
            let far = lie.apart q.index p.index q.move p.move q.is p.is after in
            inr (omega (arith, far, p.to, q.to))
      ])
