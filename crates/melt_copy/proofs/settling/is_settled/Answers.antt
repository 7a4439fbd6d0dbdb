use Rattle.std.proofs.Common.{◌≡◌, inl, inr, ℕ, List, [], ◌∷◌, ◌++◌, length, length-append, refl, ◌∙◌, sym, subst, ap, arith, rules}
use Rattle.std.proofs.lemmas.Bool.{cases_lt, cases_eq}
use Rattle.std.proofs.lemmas.Fn.{fold_over, slice_gives, fronts}
use Rattle.std.proofs.lemmas.List.{get_or_append_left, get_or_past, get_or_push}
use Rattle.std.proofs.lemmas.Nat.{le_or_l, le_or_r}
use Rattle.std.specs.Int.Bits.{bit_or, or_zero_l}
use Rattle.std.specs.Prelude.{◌↔◌, slice_index}
use Rattle.melt_copy.proofs.settling.is_settled.Goals as goal

-- each of the words is 0
abbrev AllEmpty : List ℕ → Type 0
AllEmpty words = (p : ℕ) → slice_index words p ≡ 0

-- The words up to a further one are 0 where those before it are and it is.
empty_more : (words : List ℕ) (x : ℕ) → AllEmpty words → x ≡ 0 → AllEmpty (words ++ x ∷ [])
empty_more words x empty none p = elim (cases_lt p (length words)) [
  | inl below ↦ get_or_append_left words (x ∷ []) 0 p below ∙ empty p
  | inr past ↦ elim (cases_eq p (length words)) [
    | inl same ↦ get_or_push words x 0 p (sym same) ∙ none
    | inr other ↦ get_or_past (words ++ x ∷ []) p 0
        (let size = length-append words (x ∷ []) in omega (arith, size, past, other))
  ]
]

empty_before : (words : List ℕ) (x : ℕ) → AllEmpty (words ++ x ∷ []) → AllEmpty words
empty_before words x empty p = elim (cases_lt p (length words)) [
  | inl below ↦ sym (get_or_append_left words (x ∷ []) 0 p below) ∙ empty p
  | inr past ↦ get_or_past words p 0 past
]

empty_last : (words : List ℕ) (x : ℕ) → AllEmpty (words ++ x ∷ []) → x ≡ 0
empty_last words x empty = sym (get_or_push words x 0 (length words) refl) ∙ empty (length words)

-- Of some words all are 0 just where what they come to bit by bit is.
or_more : (words : List ℕ) (x all : ℕ) → (all ≡ 0) ↔ AllEmpty words
    → (bit_or all x ≡ 0) ↔ AllEmpty (words ++ x ∷ [])
or_more words x all is = (
  λ none.
      let left = le_or_l all x in
      let right = le_or_r all x in
      empty_more words x (is.0 (omega (arith, left, none))) (omega (arith, right, none)),
  λ empty. ap (λ (n : ℕ). bit_or n x) (is.1 (empty_before words x empty)) ∙ (or_zero_l x ∙ empty_last words x empty),
)

pub returns : goal.returns
returns c =
    let is : (c.fold.result ≡ 0) ↔ AllEmpty c.args.heap.now.forward =
    subst (λ l. (c.fold.result ≡ 0) ↔ AllEmpty l) (search rules)
    (fold_over fronts (λ y. y.now) _ (λ ys all. (all ≡ 0) ↔ AllEmpty ys) _
    (λ ys a x b f' j k. let more = or_more ys x.now a j in search rules)
    _ _ _ _ (slice_gives c.iter.result) (λ none p. refl, λ empty. refl) c.fold.ensures.ran) in
    (λ yes. is.0 (search rules), λ empty. let none : c.fold.result ≡ 0 = is.1 empty in search rules)
