-- The words that new homes take, and that they fit.
use Rattle.std.proofs.Common.{◌≡◌, ℕ, zero, suc, ◌+◌, ◌-◌, ◌*◌, ◌<◌, ◌≤◌, ◌^◌, List, [], ◌∷◌, ◌++◌, length, get_or, set}
use Rattle.std.proofs.Common.{take}
use Rattle.std.proofs.Common.{refl, sym, ap, ◌∙◌, inl, inr, arith, sum_by, map}
use Rattle.std.specs.Prelude.{slice_get, Some}
use Rattle.std.specs.List.{enumerate_from}
use Rattle.std.proofs.Math.Nat.{mul-le-mul_left}
use Rattle.std.proofs.lemmas.Bool.{cases_order}
use Rattle.std.proofs.lemmas.List.Sums.{sum-map, sum_by-cons, sum_by_push}
use Rattle.std.proofs.lemmas.Option.{same_Some}
use Rattle.melt_word.specs.Words.{cost_of}
use Rattle.melt_scion.specs.State.{State, Reached}
use Rattle.melt_disk.specs.Homes.{need_of}
use Rattle.melt_disk.proofs.Needs.{need_below-le}
use Rattle.melt_copy.specs.declared.forwarding.Relocation.{Relocation}
use Rattle.melt_copy.specs.Moving.{IsWhole, words_in}
use Rattle.melt_copy.proofs.Packing.{AreApart, packed}
use Rattle.melt_copy.proofs.Places.{words_in-cons}
use Rattle.melt_move.specs.declared.homes.Given.{Given}
use Rattle.melt_move.specs.Plans.{IsShaped, need_for}
use Rattle.melt_move.proofs.Marking.{shaped_placed}

-- the words of one home more
pub need-cons : (g : Given) (given : List Given) → need_for (g ∷ given) ≡ cost_of g.shape + need_for given
need-cons g given = sum_by-cons (λ (n : ℕ). n) (cost_of g.shape) (map (λ (x : Given). cost_of x.shape) given)

-- a home lies before the end of all
pub need-front : (given : List Given) (k : ℕ) (g : Given) → slice_get given k ≡ Some g
    → need_for (take k given) + cost_of g.shape ≤ need_for given
need-front [] k g at = absurd (cc)
need-front (x ∷ given) zero g at = let same : x ≡ g = cc in let cost : cost_of x.shape ≡ cost_of g.shape =
    cc in omega (arith, need-cons x given)
need-front (x ∷ given) (suc k) g at =
    omega (arith, need-front given k g at, need-cons x given, need-cons x (take k given))

-- and before each later one
pub need-before : (given : List Given) (i j : ℕ) (g : Given) → slice_get given i ≡ Some g → i < j
    → need_for (take i given) + cost_of g.shape ≤ need_for (take j given)
need-before given i zero g at before = absurd (omega arith)
need-before [] i (suc j) g at before = absurd (cc)
need-before (x ∷ given) zero (suc j) g at before = let same : x ≡ g =
    cc in let cost : cost_of x.shape ≡ cost_of g.shape = cc in omega (arith, need-cons x (take j given))
need-before (x ∷ given) (suc i) (suc j) g at before =
    omega (
      arith,
      need-before given i j g at (omega arith),
      need-cons x (take i given),
      need-cons x (take j given),
    )

pub need_push : (gs : List Given) (g : Given) → need_for (gs ++ g ∷ []) ≡ need_for gs + cost_of g.shape
need_push gs g = sum-map (λ (x : Given). cost_of x.shape) (gs ++ g ∷ [])
    ∙ (sum_by_push (λ (x : Given). cost_of x.shape) gs g
    ∙ ap (λ (n : ℕ). n + cost_of g.shape) (sym (sum-map (λ (x : Given). cost_of x.shape) gs)))

-- the words of so many homes of each cost, where the first count is that of cost k
abbrev pub need_from : ℕ → List ℕ → ℕ
need_from k counts = sum_by (λ (entry : ℕ × ℕ). entry.0 * entry.1) (enumerate_from k counts)

need_from-cons : (k count : ℕ) (counts : List ℕ) → need_from k (count ∷ counts) ≡ k * count + need_from (k + 1) counts
need_from-cons k count counts =
    sum_by-cons (λ (entry : ℕ × ℕ). entry.0 * entry.1) (k, count) (enumerate_from (k + 1) counts)

one_more : (k count : ℕ) → k * (count + 1) ≡ k * count + k
one_more k count = grind arith

raised_from : (k i : ℕ) (counts : List ℕ) → i < length counts
    → need_from k (set counts i (get_or counts i 0 + 1)) ≡ need_from k counts + (k + i)
raised_from k i [] below = absurd (omega arith)
raised_from k zero (x ∷ counts) below =
    omega (arith, need_from-cons k (x + 1) counts, need_from-cons k x counts, one_more k x)
raised_from k (suc i) (x ∷ counts) below =
    omega (
      arith,
      need_from-cons k x (set counts i (get_or counts i 0 + 1)),
      need_from-cons k x counts,
      raised_from (k + 1) i counts (let b : suc i < suc (length counts) = below in omega (arith, b)),
    )

-- one home more of a cost
pub need_raised : (counts : List ℕ) (cost : ℕ) → cost < length counts
    → need_of (set counts cost (get_or counts cost 0 + 1)) ≡ need_of counts + cost
need_raised counts cost below = omega (arith, raised_from 0 cost counts below)

-- there are no more homes of a cost than words
pub count_within : (counts : List ℕ) (cost : ℕ) → 1 ≤ cost → cost < length counts
    → get_or counts cost 0 ≤ need_of counts
count_within counts cost some below =
    omega (arith, need_below-le counts cost below, mul-le-mul_left (get_or counts cost 0) some)

-- an object with a new home as one that was found
abbrev pub as_move : Given → Relocation
as_move g = record { from = g.from; to = 0; shape = g.shape }

pub move_words : (gs : List Given) → words_in (map as_move gs) ≡ need_for gs
move_words [] = refl
move_words (g ∷ gs) = omega (arith, words_in-cons (as_move g) (map as_move gs), need-cons g gs, move_words gs)

pub move_at : (gs : List Given) (k : ℕ) (m : Relocation) → slice_get (map as_move gs) k ≡ Some m
    → (g : Given) × (slice_get gs k ≡ Some g) × (as_move g ≡ m)
move_at [] k m at = absurd (cc)
move_at (g ∷ gs) zero m at = (g, refl, same_Some (as_move g) m at)
move_at (g ∷ gs) (suc k) m at = move_at gs k m at

module _ (s : State) (gs : List Given) (whole : IsWhole s)
    (each : (k : ℕ) (g : Given) → slice_get gs k ≡ Some g → Reached s g.from × IsShaped s g.from g.shape)
    (once : (i j : ℕ) (g h : Given) → slice_get gs i ≡ Some g → slice_get gs j ≡ Some h → g.from ≡ h.from → i ≡ j) where
  before : (i j : ℕ) (g h : Given) → slice_get gs i ≡ Some g → slice_get gs j ≡ Some h → g.from < h.from
      → g.from + cost_of g.shape ≤ h.from
  before i j g h first second lower =
      let one = each i g first in
      let cost = ap cost_of one.1.is in
      let apart = whole.apart g.from h.from one.1.header one.0 (each j h second).0 one.1.starts lower in
      omega (arith, cost, apart)

  are_apart : AreApart (map as_move gs)
  are_apart i j a b first second earlier =
      let g = move_at gs i a first in
      let h = move_at gs j b second in
      let from = ap (λ (m : Relocation). m.from) g.2 in
      let other = ap (λ (m : Relocation). m.from) h.2 in
      let cost = ap (λ (m : Relocation). cost_of m.shape) g.2 in
      let costs = ap (λ (m : Relocation). cost_of m.shape) h.2 in
      elim (cases_order g.0.from h.0.from) [
        | inl same ↦ absurd (let one = once i j g.0 h.0 g.1 h.1 same in omega (arith, one, earlier))
        | inr differ ↦ elim differ [
          | inl lower ↦ inl (let apart = before i j g.0 h.0 g.1 h.1 lower in omega (arith, apart, from, other, cost))
          | inr upper ↦ inr (let apart = before j i h.0 g.0 h.1 g.1 upper in omega (arith, apart, from, other, costs))
        ]
      ]

  -- homes of objects that can be reached take no more words than these objects
  pub needs_fit : need_for gs ≤ s.free - 1
  needs_fit = let fits = packed (s.free - 1) (map as_move gs) are_apart
      (λ k m at.
      let g = move_at gs k m at in
      let from = ap (λ (x : Relocation). x.from) g.2 in
      let one = each k g.0 g.1 in
      let first = (shaped_placed s g.0.from g.0.shape whole one.0 one.1).first in
      omega (arith, from, first))
      (λ k m at.
      let g = move_at gs k m at in
      let from = ap (λ (x : Relocation). x.from) g.2 in
      let cost = ap (λ (x : Relocation). cost_of x.shape) g.2 in
      let one = each k g.0 g.1 in
      let below = (shaped_placed s g.0.from g.0.shape whole one.0 one.1).below in
      omega (arith, from, cost, below)) in
      omega (arith, fits, move_words gs)

  pub needs_small : need_for gs < 2 ^ 30
  needs_small = let small = whole.small in let inside = whole.inside in
      omega (arith, needs_fit, small, inside)
