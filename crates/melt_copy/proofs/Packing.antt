-- Stretches of words that are pairwise apart take no more words than there are.
use Rattle.std.proofs.Common.{◌≡◌, ◌≢◌, ℕ, zero, suc, min, ◌+◌, ◌-◌, ◌<◌, ◌≤◌, List, [], ◌∷◌, refl, arith, ◌⊎◌, inl}
use Rattle.std.proofs.Common.{inr}
use Rattle.std.specs.Prelude.{slice_get, Some}
use Rattle.std.proofs.lemmas.Bool.{cases_order}
use Rattle.melt_word.specs.Words.{cost_of}
use Rattle.melt_copy.specs.declared.forwarding.Relocation.{Relocation}
use Rattle.melt_copy.specs.Moving.{words_in}
use Rattle.melt_copy.proofs.Places.{words_in-cons}

-- A stretch has `min (top - from) cost` words below a place. It is hit where it has the place itself.
hit : ℕ → ℕ → ℕ → ℕ
hit top from cost = min (suc top - from) cost - min (top - from) cost

part_more : (top from cost : ℕ) → min (suc top - from) cost ≡ min (top - from) cost + hit top from cost
unfolding hit
part_more top from cost = omega arith

hit_once : (top from cost : ℕ) → hit top from cost ≤ 1
unfolding hit
hit_once top from cost = omega arith

hit_none : (top a c b d : ℕ) → (a + c ≤ b) ⊎ (b + d ≤ a) → hit top a c ≢ 0 → hit top b d ≡ 0
unfolding hit
hit_none top a c b d apart here = elim apart [ inl x ↦ omega arith | inr x ↦ omega arith ]

covered : ℕ → List Relocation → ℕ
covered top [] = 0
covered top (m ∷ moves) = min (top - m.from) (cost_of m.shape) + covered top moves

hits : ℕ → List Relocation → ℕ
hits top [] = 0
hits top (m ∷ moves) = hit top m.from (cost_of m.shape) + hits top moves

covered_more : (top : ℕ) (moves : List Relocation) → covered (suc top) moves ≡ covered top moves + hits top moves
unfolding covered hits
covered_more top [] = refl
covered_more top (m ∷ moves) = omega (arith, part_more top m.from (cost_of m.shape), covered_more top moves)

-- no two stretches overlap
abbrev pub AreApart : List Relocation → Type 0
AreApart moves = (i j : ℕ) (a b : Relocation) → slice_get moves i ≡ Some a → slice_get moves j ≡ Some b → i < j
    → (a.from + cost_of a.shape ≤ b.from) ⊎ (b.from + cost_of b.shape ≤ a.from)

no_hits : (top a c : ℕ) (moves : List Relocation) → hit top a c ≢ 0
    → ((k : ℕ) (m : Relocation) → slice_get moves k ≡ Some m → (a + c ≤ m.from) ⊎ (m.from + cost_of m.shape ≤ a))
    → hits top moves ≡ 0
unfolding hits
no_hits top a c [] here apart = refl
no_hits top a c (m ∷ moves) here apart =
    omega (
      arith,
      hit_none top a c m.from (cost_of m.shape) (apart 0 m refl) here,
      no_hits top a c moves here (λ k x at. apart (suc k) x at),
    )

hits_once : (top : ℕ) (moves : List Relocation) → AreApart moves → hits top moves ≤ 1
unfolding hits
hits_once top [] apart = omega arith
hits_once top (m ∷ moves) apart =
    elim (cases_order (hit top m.from (cost_of m.shape)) 0) [
      | inl none ↦ omega (
        arith,
        hits_once top moves
            (λ i j a b first second before. apart (suc i) (suc j) a b first second (omega arith)),
      )
      | inr some ↦
          let here : hit top m.from (cost_of m.shape) ≢ 0 = λ e. elim some [
            | inl x ↦ omega arith
            | inr x ↦ omega arith
          ] in
          omega (
            arith,
            hit_once top m.from (cost_of m.shape),
            no_hits top m.from (cost_of m.shape) moves here
                (λ k x at. apart 0 (suc k) m x refl at (omega arith)),
          )
    ]

covered_first : (moves : List Relocation) → ((k : ℕ) (m : Relocation) → slice_get moves k ≡ Some m → 1 ≤ m.from)
    → covered 1 moves ≡ 0
unfolding covered
covered_first [] first = refl
covered_first (m ∷ moves) first = omega (arith, first 0 m refl, covered_first moves (λ k x at. first (suc k) x at))

covered_all : (top : ℕ) (moves : List Relocation)
    → ((k : ℕ) (m : Relocation) → slice_get moves k ≡ Some m → m.from + cost_of m.shape ≤ top)
    → covered top moves ≡ words_in moves
unfolding covered
covered_all top [] within = refl
covered_all top (m ∷ moves) within =
    omega (arith, words_in-cons m moves, within 0 m refl, covered_all top moves (λ k x at. within (suc k) x at))

covered_bound : (top : ℕ) (moves : List Relocation) → AreApart moves
    → ((k : ℕ) (m : Relocation) → slice_get moves k ≡ Some m → 1 ≤ m.from) → covered (suc top) moves ≤ top
covered_bound zero moves apart first = omega (arith, covered_first moves first)
covered_bound (suc top) moves apart first =
    omega (arith, covered_more (suc top) moves, hits_once (suc top) moves apart, covered_bound top moves apart first)

-- stretches from word 1 on, apart from each other and below a place
pub packed : (top : ℕ) (moves : List Relocation) → AreApart moves
    → ((k : ℕ) (m : Relocation) → slice_get moves k ≡ Some m → 1 ≤ m.from)
    → ((k : ℕ) (m : Relocation) → slice_get moves k ≡ Some m → m.from + cost_of m.shape ≤ suc top)
    → words_in moves ≤ top
packed top moves apart first within =
    omega (arith, covered_all (suc top) moves within, covered_bound top moves apart first)
