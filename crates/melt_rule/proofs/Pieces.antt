-- Places in lists, and in two of which one is after the other.
use Rattle.std.proofs.Common.{◌≡◌, ◌⊎◌, ℕ, zero, suc, ◌+◌, List, [], ◌∷◌, ◌++◌, length, get_or, take, drop}
use Rattle.std.proofs.Common.{◌<◌, ◌≤◌, refl, sym, ◌∙◌, ap, arith, inl, inr}
use Rattle.std.proofs.lemmas.List.{ext_get_or, get_or-take, get_or-drop, length-take, length-drop}
use lib.ListN.{get_elem?}
use mathlib.Core.Option.{some, some-injective, some-ne-none}

module _ {A : Type 0} where
  -- what stands at a place of both stands in the first, or so far into the second
  pub at_append : (l m : List A) (p : ℕ) (t : A) → get_elem? (l ++ m) p ≡ some t
      → (get_elem? l p ≡ some t) ⊎ ((q : ℕ) × (p ≡ length l + q) × (get_elem? m q ≡ some t))
  at_append [] m p t e = inr (p, omega arith, e)
  at_append (x ∷ l) m zero t e = inl e
  at_append (x ∷ l) m (suc p) t e = elim (at_append l m p t e) [
    | inl h ↦ inl h
    | inr h ↦ inr (h.0, (let is = h.1 in omega arith), h.2)
  ]

  pub at_after : (l m : List A) (q : ℕ) (t : A) → get_elem? m q ≡ some t → get_elem? (l ++ m) (length l + q) ≡ some t
  at_after [] m q t e = let same : 0 + q ≡ q = omega arith in ap (λ (z : ℕ). get_elem? m z) same ∙ e
  at_after (x ∷ l) m q t e =
      let same : length (x ∷ l) + q ≡ suc (length l + q) = omega arith in
      ap (λ (z : ℕ). get_elem? (x ∷ l ++ m) z) same ∙ at_after l m q t e

  -- the same where the second has one element
  pub at_end : (l : List A) (a b : A) (p : ℕ) → get_elem? (l ++ a ∷ []) p ≡ some b
      → (get_elem? l p ≡ some b) ⊎ ((p ≡ length l) × (a ≡ b))
  at_end [] a b zero e = inr (refl, some-injective a b e)
  at_end [] a b (suc p) e = absurd (some-ne-none b (sym e))
  at_end (x ∷ l) a b zero e = inl e
  at_end (x ∷ l) a b (suc p) e = elim (at_end l a b p e) [
    | inl h ↦ inl h
    | inr h ↦ inr ((let is = h.0 in omega arith), h.1)
  ]

-- the number that stands at a place is the one that is read there
pub read_at : (l : List ℕ) (i n : ℕ) → get_elem? l i ≡ some n → get_or l i 0 ≡ n
read_at [] i n e = absurd (some-ne-none n (sym e))
read_at (x ∷ l) zero n e = some-injective x n e
read_at (x ∷ l) (suc i) n e = read_at l i n e

-- a list whose numbers are those of another from a place on is a stretch of it
pub stretch_is : (l m : List ℕ) (from : ℕ) → from + length l ≤ length m
    → ((k : ℕ) → k < length l → get_elem? m (from + k) ≡ some (get_or l k 0)) → l ≡ take (length l) (drop from m)
stretch_is l m from fits same =
    let dropped = length-drop from m in
    let taken = length-take (length l) (drop from m) in
    ext_get_or 0 l (take (length l) (drop from m)) (grind (arith, dropped, taken))
    (λ i below.
    let there = get_or-take (length l) (drop from m) i 0 below ∙ get_or-drop from m i 0 in
    sym (there ∙ read_at m (from + i) _ (same i below)))
