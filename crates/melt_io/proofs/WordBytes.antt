-- Words and their bytes, there and back.
use Rattle.std.proofs.Common.{◌≡◌, ℕ, zero, suc, ◌+◌, ◌-◌, ◌*◌, ◌^◌, ◌<◌, List, [], ◌∷◌, ◌++◌, All, length, drop}
use Rattle.std.proofs.Common.{replicate, get_or, zero-add, arith, inl, inr, refl, sym, ◌∙◌, ap}
use Rattle.std.proofs.lemmas.Bool.{cases_lt}
use Rattle.std.proofs.lemmas.List.{drop-drop, drop_at, same_lists, get_or_default, get_or-drop, get_or-replicate}
use Rattle.std.proofs.lemmas.List.{get_or_past, get_or_append_left, get_or-append_right, length-replicate}
use Rattle.byteorder.specs.Endian.{little_bytes, little_from, little_number}
use Rattle.byteorder.specs.Numbers.{length-bytes_low_first, little_number-reads_back}
use Rattle.melt_io.specs.Words.{word_bytes, words_in_bytes}

pub length-words_in_bytes : (n : ℕ) (bytes : List ℕ) → length (words_in_bytes n bytes) ≡ n
length-words_in_bytes zero bytes = refl
length-words_in_bytes (suc n) bytes = ap (λ m. suc m) (length-words_in_bytes n (drop 8 bytes))

-- a word of those that are read
words_in_bytes-at : (n : ℕ) (bytes : List ℕ) (k d : ℕ) → k < n
    → get_or (words_in_bytes n bytes) k d ≡ little_number 8 (drop (8 * k) bytes)
words_in_bytes-at zero bytes k d h = absurd (omega arith)
words_in_bytes-at (suc n) bytes zero d h = refl
words_in_bytes-at (suc n) bytes (suc k) d h =
    let on : 8 + 8 * k ≡ 8 * suc k = omega arith in
    words_in_bytes-at n (drop 8 bytes) k d (omega arith)
    ∙ ap (λ left. little_number 8 left) (drop-drop (8 * k) 8 bytes ∙ ap (λ m. drop m bytes) on)

-- Each word is the number of its 8 bytes, so all of them are the words that are read.
pub words_in_bytes-each : (bytes words : List ℕ) (n : ℕ) → length words ≡ n
    → ((k : ℕ) → k < length words → get_or words k 0 ≡ little_number 8 (drop (8 * k) bytes))
    → words ≡ words_in_bytes n bytes
words_in_bytes-each bytes words n len each =
    same_lists words (words_in_bytes n bytes) (len ∙ sym (length-words_in_bytes n bytes))
    (λ k d h. get_or_default words k d 0 h ∙ each k h ∙ sym (words_in_bytes-at n bytes k d (omega arith)))

pub words_in_bytes-bytes : (words : List ℕ) → All (λ word. word < 2 ^ 64) words
    → words_in_bytes (length words) (word_bytes words) ≡ words
words_in_bytes-bytes [] fits = refl
words_in_bytes-bytes (word ∷ words) fits =
    let here : little_number 8 (little_bytes 8 word ++ word_bytes words) ≡ word =
    little_number-reads_back 8 word (word_bytes words) (fits 0 0 (omega arith)) in
    let left : drop 8 (little_bytes 8 word ++ word_bytes words) ≡ word_bytes words =
    drop_at (little_bytes 8 word) (word_bytes words) 8 (length-bytes_low_first 0 8 word) in
    let after : words_in_bytes (length words) (word_bytes words) ≡ words =
    words_in_bytes-bytes words (λ k d h. fits (suc k) d (omega arith)) in
    ap (λ first. first ∷ words_in_bytes (length words) (drop 8 (little_bytes 8 word ++ word_bytes words))) here
    ∙ ap (λ bytes. word ∷ words_in_bytes (length words) bytes) left
    ∙ ap (λ rest. word ∷ rest) after

-- A number has no more of the bytes than its own.
little_from-same : (i n : ℕ) (xs ys : List ℕ) → ((j : ℕ) → j < i + n → get_or xs j 0 ≡ get_or ys j 0)
    → little_from i n xs ≡ little_from i n ys
little_from-same i zero xs ys same = refl
little_from-same i (suc n) xs ys same =
    let here : get_or xs i 0 ≡ get_or ys i 0 = same i (omega arith) in
    let after : little_from (suc i) n xs ≡ little_from (suc i) n ys =
    little_from-same (suc i) n xs ys (λ j h. same j (omega arith)) in
    ap (λ byte. byte + 256 * little_from (suc i) n xs) here ∙ ap (λ rest. get_or ys i 0 + 256 * rest) after

words_in_bytes-same : (n : ℕ) (xs ys : List ℕ) → ((i : ℕ) → i < 8 * n → get_or xs i 0 ≡ get_or ys i 0)
    → words_in_bytes n xs ≡ words_in_bytes n ys
words_in_bytes-same zero xs ys same = refl
words_in_bytes-same (suc n) xs ys same =
    let here : little_number 8 xs ≡ little_number 8 ys = little_from-same 0 8 xs ys (λ j h. same j (omega arith)) in
    let after : words_in_bytes n (drop 8 xs) ≡ words_in_bytes n (drop 8 ys)
    = words_in_bytes-same n (drop 8 xs) (drop 8 ys) (λ i h. get_or-drop 8 xs i 0 ∙ same (8 + i) (omega arith)
    ∙ sym (get_or-drop 8 ys i 0)) in
    ap (λ word. word ∷ words_in_bytes n (drop 8 xs)) here ∙ ap (λ words. little_number 8 ys ∷ words) after

get_or-zeros : (z i : ℕ) → get_or {A = ℕ} (replicate z 0) i 0 ≡ 0
get_or-zeros z i = elim (cases_lt i z) [
  | inl within ↦ get_or-replicate z i 0 0 within
  | inr past ↦ get_or_past (replicate z 0) i 0 (simp length-replicate past)
]

-- Zeros past the end are as good as nothing.
pub get_or-padded : (xs : List ℕ) (z i : ℕ) → get_or (xs ++ replicate z 0) i 0 ≡ get_or xs i 0
get_or-padded xs z i = elim (cases_lt i (length xs)) [
  | inl within ↦ get_or_append_left xs (replicate z 0) 0 i within
  | inr past ↦
      get_or-append_right xs (replicate z 0) (length xs) i 0 refl past
      ∙ get_or-zeros z (i - length xs) ∙ sym (get_or_past xs i 0 past)
]

pub words_in_bytes-padded : (n z : ℕ) (xs : List ℕ) → words_in_bytes n (xs ++ replicate z 0) ≡ words_in_bytes n xs
words_in_bytes-padded n z xs = words_in_bytes-same n (xs ++ replicate z 0) xs (λ i h. get_or-padded xs z i)

pub words_in_bytes-front : (n : ℕ) (front after : List ℕ) → length front ≡ 8 * n
    → words_in_bytes n (front ++ after) ≡ words_in_bytes n front
words_in_bytes-front n front after len =
    words_in_bytes-same n (front ++ after) front (λ i h. get_or_append_left front after 0 i (omega arith))

pub words_in_bytes-append : (m n : ℕ) (bytes : List ℕ) → words_in_bytes (m + n) bytes
    ≡ words_in_bytes m bytes ++ words_in_bytes n (drop (8 * m) bytes)
words_in_bytes-append zero n bytes = ap (λ k. words_in_bytes k bytes) (zero-add n)
words_in_bytes-append (suc m) n bytes =
    let more : suc m + n ≡ suc (m + n) = omega arith in
    let on : 8 + 8 * m ≡ 8 * suc m = omega arith in
    ap (λ k. words_in_bytes k bytes) more
    ∙ ap (λ words. little_number 8 bytes ∷ words) (words_in_bytes-append m n (drop 8 bytes))
    ∙ ap (λ left. (little_number 8 bytes ∷ words_in_bytes m (drop 8 bytes)) ++ words_in_bytes n left)
    (drop-drop (8 * m) 8 bytes
    ∙ ap (λ k. drop k bytes) on)
