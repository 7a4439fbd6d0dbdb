-- Numbers that digits spell.
use Rattle.std.proofs.Common.{◌≡◌, ℕ, suc, inl, inr, length, get_or, drop, add-one, ◌+◌, ◌-◌, ◌*◌, ◌^◌, ◌<◌, ◌≤◌, Bool}
use Rattle.std.proofs.Common.{true, false, cond, ltb, List, [], ◌∷◌, Some, None, refl, sym, ap, ◌∙◌, arith}
use Rattle.std.specs.Prelude.{option_and_then}
use Rattle.std.specs.Char.{is_ascii_digit}
use Rattle.std.proofs.lemmas.Bool.{cases_lt, lt-ltb, le-ltb}
use Rattle.std.proofs.lemmas.Option.{cond_some, none-some}
use Rattle.std.proofs.lemmas.List.{drop_all}
use Rattle.std.proofs.Math.Seq.{drop-cons}
use Rattle.melt_text.specs.Numbers.{spelled_from, if_word}

-- no digits make a number smaller
pub too_large : (n : ℕ) (bytes : List ℕ) → 2 ^ 64 ≤ n → option_and_then if_word (spelled_from n bytes) ≡ None
too_large n [] le = rw (le-ltb n (2 ^ 64) le) refl
too_large n (b ∷ bytes) le =
    elim (is_ascii_digit b) as (λ t. option_and_then if_word (cond t (spelled_from (10 * n + (b - 48)) bytes) None)
    ≡ None) [
      | true ↦ too_large (10 * n + (b - 48)) bytes (omega arith)
      | false ↦ refl
    ]

word_stops : (n : ℕ) (bytes : List ℕ) → if_word n ≡ None → option_and_then if_word (spelled_from n bytes) ≡ None
word_stops n bytes e =
    elim (cases_lt n (2 ^ 64)) [
      | inl lt ↦ absurd (none-some n (sym e ∙ ap (λ (t : Bool). cond t (Some n) None) (lt-ltb n (2 ^ 64) lt)))
      | inr le ↦ too_large n bytes le
    ]

-- one digit more
pub digit_stops : (n b : ℕ) (bytes : List ℕ) → cond (is_ascii_digit b) (if_word (10 * n + (b - 48))) None ≡ None
    → option_and_then if_word (spelled_from n (b ∷ bytes)) ≡ None
digit_stops n b bytes e =
    elim (is_ascii_digit b) as (λ t. cond t (if_word (10 * n + (b - 48))) None ≡ None
    → option_and_then if_word (cond t (spelled_from (10 * n + (b - 48)) bytes) None) ≡ None) [
      | true ↦ λ e. word_stops (10 * n + (b - 48)) bytes e
      | false ↦ λ e. refl
    ] e

pub digit_goes_on : (n b m : ℕ) (bytes : List ℕ) → cond (is_ascii_digit b) (if_word (10 * n + (b - 48))) None ≡ Some m
    → spelled_from n (b ∷ bytes) ≡ spelled_from m bytes
digit_goes_on n b m bytes e =
    elim (is_ascii_digit b) as (λ t. cond t (if_word (10 * n + (b - 48))) None ≡ Some m
    → cond t (spelled_from (10 * n + (b - 48)) bytes) None ≡ spelled_from m bytes) [
      | true ↦ λ e. ap (λ (k : ℕ). spelled_from k bytes) (cond_some (ltb (10 * n + (b - 48)) (2 ^ 64))
          (10 * n + (b - 48)) m e).1
      | false ↦ λ e. absurd (none-some m e)
    ] e

-- the same of a place in a list
pub stops_at : (n i : ℕ) (bytes : List ℕ) → i < length bytes
    → cond (is_ascii_digit (get_or bytes i 0)) (if_word (10 * n + (get_or bytes i 0 - 48))) None ≡ None
    → option_and_then if_word (spelled_from n (drop i bytes)) ≡ None
stops_at n i bytes lt e =
    ap (λ (rest : List ℕ). option_and_then if_word (spelled_from n rest)) (drop-cons bytes i 0 lt)
    ∙ digit_stops n (get_or bytes i 0) (drop (suc i) bytes) e

pub goes_on_at : (n i m : ℕ) (bytes : List ℕ) → i < length bytes
    → cond (is_ascii_digit (get_or bytes i 0)) (if_word (10 * n + (get_or bytes i 0 - 48))) None ≡ Some m
    → spelled_from m (drop (i + 1) bytes) ≡ spelled_from n (drop i bytes)
goes_on_at n i m bytes lt e =
    sym (ap (spelled_from n) (drop-cons bytes i 0 lt) ∙ digit_goes_on n (get_or bytes i 0) m (drop (suc i) bytes) e
    ∙ ap (λ (j : ℕ). spelled_from m (drop j bytes)) (sym (add-one i)))

-- no byte is left
pub spelled_all : (n i : ℕ) (bytes : List ℕ) → length bytes ≤ i → n < 2 ^ 64
    → option_and_then if_word (spelled_from n (drop i bytes)) ≡ Some n
spelled_all n i bytes le lt =
    ap (λ (rest : List ℕ). option_and_then if_word (spelled_from n rest)) (drop_all i bytes le)
    ∙ ap (λ (t : Bool). cond t (Some n) None) (lt-ltb n (2 ^ 64) lt)
