-- A disk's words, with zeros past their end, and items written over others.
use Rattle.std.proofs.Common.{◌≡◌, ℕ, ◌+◌, ◌-◌, ◌<◌, ◌≤◌, List, ◌++◌, length, min, take, drop, replicate, get_or, arith}
use Rattle.std.proofs.Common.{inl, inr, sym, ◌∙◌, ap, length-drop, length-append}
use Rattle.std.proofs.lemmas.List.{drop_all, take_all, take-append-le, take-replicate, drop-replicate, length-replicate}
use Rattle.std.proofs.lemmas.List.{length-take, append-nil, get_or-append_right, get_or-append-add, get_or-drop}
use Rattle.std.proofs.lemmas.List.{get_or-take, get_or_append_left}
use Rattle.std.proofs.lemmas.Bool.{cases_lt}
use Rattle.std.proofs.Math.Seq.{take-append-add, take-append_seam}
use Rattle.melt_io.proofs.Fronts.{drop-min, take-rest}
use Rattle.melt_io.proofs.WordBytes.{get_or-padded}
use Rattle.melt_io.specs.Outside.{SameOutside, overlaid, words_at, with_words}

-- the first items, where blank ones enough stand after
take-padded : {A : Type 0} (blank : A) (at k : ℕ) (xs : List A) → at ≤ length xs + k
    → take at (xs ++ replicate k blank) ≡ take at xs ++ replicate (at - length xs) blank
take-padded {A} blank at k xs h = elim (cases_lt (length xs) at) [
  | inl past ↦
      let at_is : at ≡ length xs + (at - length xs) = omega arith in
      let short : at - length xs ≤ k = omega arith in
      let whole : take at xs ≡ xs = take_all at xs (omega arith) in
      let blanks : take (at - length xs) (replicate k blank) ≡ replicate (at - length xs) blank =
      take-replicate (at - length xs) k blank short in
      ap (λ (n : ℕ). take n (xs ++ replicate k blank)) at_is ∙ take-append-add xs (replicate k blank) (at - length xs)
      ∙ ap (λ (ys : List A). xs ++ ys) blanks ∙ ap (λ (ys : List A). ys ++ replicate (at - length xs) blank) (sym whole)
  | inr within ↦
      let none : at - length xs ≡ 0 = omega arith in
      take-append-le at xs (replicate k blank) within ∙ sym (append-nil (take at xs))
      ∙ ap (λ (n : ℕ). take at xs ++ replicate n blank) (sym none)
]

-- as many of the first words as there are
take-min : (n k : ℕ) (xs : List ℕ) → k ≡ min n (length xs) → take k xs ≡ take n xs
take-min n k xs e = elim (cases_lt (length xs) n) [
  | inl past ↦ let all : k ≡ length xs = omega arith in take_all k xs (omega arith) ∙ sym (take_all n xs (omega arith))
  | inr within ↦ let same : k ≡ n = omega arith in ap (λ m. take m xs) same
]

-- what lies past the blank items
drop-padded : {A : Type 0} (blank : A) (end : ℕ) (xs : List A)
    → drop end (xs ++ replicate (end - length xs) blank) ≡ drop end xs
drop-padded {A} blank end xs = elim (cases_lt end (length xs)) [
  | inl within ↦
      let none : end - length xs ≡ 0 = omega arith in
      ap (λ (n : ℕ). drop end (xs ++ replicate n blank)) none ∙ ap (λ (ys : List A). drop end ys) (append-nil xs)
  | inr past ↦
      let padded : length (xs ++ replicate (end - length xs) blank) ≤ end =
      simp (length-append, length-replicate) (omega arith) in
      drop_all end (xs ++ replicate (end - length xs) blank) padded ∙ sym (drop_all end xs past)
]

-- a copy of the first words, and zeros after it
front_padded : (left : List ℕ) (n k : ℕ) (front : List ℕ) → k ≡ min n (length left) → front ≡ take k left
    → front ++ drop k (replicate n 0) ≡ take n (left ++ replicate n 0)
front_padded left n k front count e =
    let zeros : n - k ≡ n - length left = omega arith in
    let fits : n ≤ length left + n = omega arith in
    ap (λ words. front ++ words) (drop-replicate k n 0)
    ∙ ap (λ m. front ++ replicate m 0) zeros
    ∙ ap (λ words. words ++ replicate (n - length left) 0) (e ∙ take-min n k left count)
    ∙ sym (take-padded 0 n n left fits)

-- a copy of what is left, and zeros after it, in a buffer of n words
pub copied_words : (image : List ℕ) (at start n k : ℕ) (front : List ℕ) → start ≡ min (length image) at
    → k ≡ min n (length image - start) → front ≡ take k (take (length image - start) (drop start image))
    → front ++ drop k (replicate n 0) ≡ words_at image at n
copied_words image at start n k front begins count e =
    let left : drop start image ≡ drop at image = ap (λ m. drop m image) begins ∙ drop-min at image in
    let len : length (drop at image) ≡ length image - start = sym (ap length left) ∙ length-drop start image in
    let copied : front ≡ take k (drop at image) = e ∙ ap (λ words. take k words) (take-rest image start ∙ left) in
    let count_left : k ≡ min n (length (drop at image)) = omega arith in
    front_padded (drop at image) n k front count_left copied

-- items put over those of a list that reaches far enough
pub overwritten : {A : Type 0} (blank : A) (items long new : List A) (at : ℕ) (piece : List A)
    → long ≡ items ++ replicate (at + length piece - length items) blank
    → new ≡ take at long ++ piece ++ drop (at + length piece) long → new ≡ overlaid blank items at piece
overwritten {A} blank items long new at piece reached e =
    let end : ℕ = at + length piece in
    let near : at ≤ length items + (end - length items) = omega arith in
    let far : at ≤ length items + at = omega arith in
    let front : take at long ≡ take at (items ++ replicate at blank)
    = ap (λ (ys : List A). take at ys) reached ∙ take-padded blank at (end - length items) items near
    ∙ sym (take-padded blank at at items far) in
    let after : drop end long ≡ drop end items = ap (λ (ys : List A). drop end ys) reached
    ∙ drop-padded blank end items in
    e ∙ ap (λ (ys : List A). ys ++ piece ++ drop end long) front
    ∙ ap (λ (ys : List A). take at (items ++ replicate at blank) ++ piece ++ ys) after

-- What is written back over all of a vector is all of it.
pub written_back : {A : Type 0} (n : ℕ) (new old : List A) → length new ≡ n
    → take n (new ++ drop (length new) old) ≡ new
written_back {A} n new old e =
    ap (λ (m : ℕ). take m (new ++ drop (length new) old)) (sym e) ∙ take-append_seam new (drop (length new) old)

pub length-front : (image : List ℕ) (at : ℕ) → length (take at (image ++ replicate at 0)) ≡ at
length-front image at = length-take at (image ++ replicate at 0)
    ∙ omega (arith, length-append image (replicate at 0), length-replicate {A = ℕ} at 0)

-- what is written changes nothing before it and after it
pub with_words-outside : (image : List ℕ) (at : ℕ) (words : List ℕ)
    → SameOutside image at (length words) (with_words image at words)
with_words-outside image at words =
    let front : List ℕ = take at (image ++ replicate at 0) in
    let rest : List ℕ = drop (at + length words) image in
    let len : length (front ++ words) ≡ at + length words =
    length-append front words ∙ ap (λ n. n + length words) (length-front image at) in
    record {
      before = λ k h.
          let in_front : k < length front = omega (arith, length-front image at) in
          let in_both : k < length (front ++ words) = omega (arith, len) in
          get_or_append_left (front ++ words) rest 0 k in_both ∙ get_or_append_left front words 0 k in_front
          ∙ get_or-take at (image ++ replicate at 0) k 0 h ∙ get_or-padded image at k;
      after = λ k h.
          let place : at + length words + (k - (at + length words)) ≡ k = omega arith in
          get_or-append_right (front ++ words) rest (at + length words) k 0 len h
          ∙ get_or-drop (at + length words) image (k - (at + length words)) 0
          ∙ ap (λ n. get_or image n 0) place;
    }

-- and what was written stands there
pub with_words-inside : (image : List ℕ) (at : ℕ) (words : List ℕ) (i : ℕ) → i < length words
    → get_or (with_words image at words) (at + i) 0 ≡ get_or words i 0
with_words-inside image at words i within =
    let front : List ℕ = take at (image ++ replicate at 0) in
    let rest : List ℕ = drop (at + length words) image in
    let len : length (front ++ words) ≡ at + length words =
    length-append front words ∙ ap (λ n. n + length words) (length-front image at) in
    let in_both : at + i < length (front ++ words) = omega (arith, len) in
    let place : at + i ≡ length front + i = ap (λ n. n + i) (sym (length-front image at)) in
    get_or_append_left (front ++ words) rest 0 (at + i) in_both
    ∙ ap (λ n. get_or (front ++ words) n 0) place ∙ get_or-append-add front words i 0
