-- Parts of a list that are read one after another.
use Rattle.std.proofs.Common.{◌≡◌, ℕ, ◌+◌, ◌-◌, ◌≤◌, List, ◌++◌, length, min, take, drop, length-drop, arith, inl, inr}
use Rattle.std.proofs.Common.{sym, ◌∙◌, ap}
use Rattle.std.proofs.lemmas.List.{take-append-drop, drop_all, length-take}
use Rattle.std.proofs.lemmas.Bool.{cases_lt}
use Rattle.std.proofs.Math.Seq.{drop-append-add, take-append_seam, take-length}

-- Past the end a list has nothing, wherever one begins.
pub drop-min : (pos : ℕ) (xs : List ℕ) → drop (min (length xs) pos) xs ≡ drop pos xs
drop-min pos xs = elim (cases_lt pos (length xs)) [
  | inl h ↦ let e : min (length xs) pos ≡ pos = omega arith in ap (λ n. drop n xs) e
  | inr h ↦ drop_all (min (length xs) pos) xs (omega arith) ∙ sym (drop_all pos xs h)
]

pub drop-add : (m n : ℕ) (xs : List ℕ) → m ≤ length xs → drop (m + n) xs ≡ drop n (drop m xs)
drop-add m n xs h =
    let len : length (take m xs) ≡ m = length-take m xs ∙ omega arith in
    let e = drop-append-add (take m xs) (drop m xs) n in
    rw (len, take-append-drop m xs) at e

-- what a read gives, and what it leaves
pub drop-front : (xs : List ℕ) (start n : ℕ) → start ≤ length xs
    → take n (drop start xs) ++ drop (start + n) xs ≡ drop start xs
drop-front xs start n h = rw (drop-add start n xs h) (take-append-drop n (drop start xs))

-- the rest of the bytes, as a slice gives it
pub take-rest : (bytes : List ℕ) (at : ℕ) → take (length bytes - at) (drop at bytes) ≡ drop at bytes
take-rest bytes at =
    ap (λ n. take n (drop at bytes)) (sym (length-drop at bytes)) ∙ take-length (drop at bytes)

-- A piece of n bytes, in front of what a buffer had after it, is what was left but for what is left then.
pub front_taken : (xs : List ℕ) (pos start n : ℕ) (piece after : List ℕ) → start ≡ min (length xs) pos
    → n ≤ length xs - start → piece ≡ take n (take (length xs - start) (drop start xs))
    → drop pos xs ≡ take n (piece ++ after) ++ drop (start + n) xs
front_taken xs pos start n piece after begins fits e =
    let flat : piece ≡ take n (drop start xs) = rw (take-rest xs start) at e in
    let len : length piece ≡ n = ap length flat ∙ length-take n (drop start xs)
    ∙ (omega (arith, length-drop start xs)) in
    let front : take n (piece ++ after) ≡ piece = ap (λ m. take m (piece ++ after)) (sym len)
    ∙ take-append_seam piece after in
    let whole : drop start xs ≡ drop pos xs = ap (λ m. drop m xs) begins ∙ drop-min pos xs in
    let within : start ≤ length xs = omega arith in
    sym (ap (λ bytes. bytes ++ drop (start + n) xs) (front ∙ flat) ∙ drop-front xs start n within ∙ whole)
