-- The canonical text of a script is read as that script.
use Rattle.std.proofs.Common.{◌≡◌, ℕ, ◌+◌, ◌-◌, ◌*◌, ◌/◌, ◌%◌, ◌^◌, ◌<◌, ◌≤◌, Bool, true, false, cond, not, eqb, leb}
use Rattle.std.proofs.Common.{◌&&◌, List, [], ◌∷◌, ◌++◌, length, map, filter, Some, None, Result, Ok, Err, refl, sym}
use Rattle.std.proofs.Common.{ap, ◌∙◌, append_assoc, eq-eqb, arith}
use Rattle.std.specs.Prelude.{option_and_then}
use Rattle.std.specs.List.{AllByRecursion, list_all, slice_split, onto_first, flat_map}
use Rattle.std.specs.Char.{is_ascii_digit}
use Rattle.std.specs.Fmt.{decimal}
use Rattle.std.proofs.lemmas.Bool.{lt-ltb, le-leb, leb-true, ne_eqb}
use Rattle.std.proofs.lemmas.List.{append-nil, length_push, length-map}
use Rattle.std.proofs.lemmas.List.Folds.{list_all-append}
use Rattle.std.proofs.lemmas.Fmt.{decimal_by_steps}
use Rattle.melt_text.specs.Numbers.{number_of, spelled_from}
use Rattle.melt_trace.specs.Language.{Range, Place, checked, numbers_with, numbers_in, numbers}
use Rattle.melt_text.specs.Lines.{is_empty, fields_of, is_printable}
use Rattle.melt_text.specs.Numbers.{if_word}
use Rattle.melt_trace.specs.Language.{is_skipped, after_fields, after}
use Rattle.melt_text.proofs.Cuts.{filled}
use Rattle.melt_trace.proofs.Kept.{AreWithin}

-- ---- digits

record IsSpelling (n : ℕ) (ds : List ℕ) : Type 0 where
  spelled : (rest : List ℕ) → spelled_from 0 (ds ++ rest) ≡ spelled_from n rest
  digits : list_all is_ascii_digit ds ≡ true
  first : (b : ℕ) (bs : List ℕ) → ds ≡ b ∷ bs → 0 < n → eqb b 48 ≡ false
  some : 0 < length ds
  more : 1 < length ds → 0 < n

is_digit : (d : ℕ) → d < 10 → is_ascii_digit (48 + d) ≡ true
is_digit d lt =
    let low : leb 48 (48 + d) ≡ true = le-leb _ _ (omega arith) in
    let high : leb (48 + d) 57 ≡ true = le-leb _ _ (omega arith) in
    rw (low, high) refl

one_digit : (m d : ℕ) (rest : List ℕ) → d < 10 → spelled_from m ((48 + d) ∷ rest) ≡ spelled_from (10 * m + d) rest
one_digit m d rest lt =
    let back : (48 + d) - 48 ≡ d = omega arith in
    ap (λ (t : Bool). cond t (spelled_from (10 * m + ((48 + d) - 48)) rest) None) (is_digit d lt)
    ∙ ap (λ (k : ℕ). spelled_from (10 * m + k) rest) back

spelling_one : (n : ℕ) → n < 10 → IsSpelling n ((48 + n) ∷ [])
spelling_one n lt = record {
  spelled = λ rest. one_digit 0 n rest lt ∙ ap (λ (k : ℕ). spelled_from k rest) (omega arith);
  digits = ap (λ (t : Bool). t && true) (is_digit n lt);
  first = λ b bs is some. let head : 48 + n ≡ b = cc in ne_eqb b 48 (λ e. omega arith);
  some = omega arith;
  more = λ long. absurd (omega arith);
}

head_of : (ds : List ℕ) (d b : ℕ) (bs : List ℕ) → 0 < length ds → ds ++ d ∷ [] ≡ b ∷ bs → (cs : List ℕ) × (ds ≡ b ∷ cs)
head_of [] d b bs some e = absurd (omega arith)
head_of (c ∷ cs) d b bs some e =
    let head : c ≡ b = cc in
    (cs, ap (λ (k : ℕ). k ∷ cs) head)

spelling_more : (n : ℕ) (ds : List ℕ) → 10 ≤ n → IsSpelling (n / 10) ds → IsSpelling n (ds ++ (48 + n % 10) ∷ [])
spelling_more n ds le h =
    let small : n % 10 < 10 = omega arith in
    let tens : 0 < n / 10 = omega arith in
    let whole : 10 * (n / 10) + n % 10 ≡ n = omega arith in
    record {
      spelled = λ rest. ap (spelled_from 0) (append_assoc ds ((48 + n % 10) ∷ []) rest)
          ∙ h.spelled ((48 + n % 10) ∷ rest) ∙ one_digit (n / 10) (n % 10) rest small
          ∙ ap (λ (k : ℕ). spelled_from k rest) whole;
      digits = list_all-append is_ascii_digit ds ((48 + n % 10) ∷ [])
          ∙ ap (λ (t : Bool). t && (is_ascii_digit (48 + n % 10) && true)) h.digits
          ∙ ap (λ (t : Bool). t && true) (is_digit (n % 10) small);
      first = λ b bs is some. let front = head_of ds (48 + n % 10) b bs h.some is in h.first b front.0 front.1 tens;
      some = omega (arith, length_push ds (48 + n % 10));
      more = λ long. omega arith;
    }

decimal_spelling : (n : ℕ) → n < 2 ^ 64 → IsSpelling n (decimal n)
decimal_spelling n lt = decimal_by_steps IsSpelling spelling_one spelling_more n lt

number_spelled : (n : ℕ) (ds : List ℕ) → n < 2 ^ 64 → IsSpelling n ds → number_of ds ≡ Some n
number_spelled n [] lt h = let none : 0 < length {A = ℕ} [] = h.some in absurd (omega arith)
number_spelled n (b ∷ []) lt h =
    ap (option_and_then if_word) (h.spelled []) ∙ ap (λ (t : Bool). cond t (Some n) None) (lt-ltb n (2 ^ 64) lt)
number_spelled n (b ∷ c ∷ bs) lt h =
    let some : 0 < n = h.more (omega arith) in
    ap (λ (t : Bool). cond t None (option_and_then if_word (spelled_from 0 (b ∷ c ∷ bs))))
    (h.first b (c ∷ bs) refl some)
    ∙ ap (option_and_then if_word) (ap (spelled_from 0) (sym (append-nil (b ∷ c ∷ bs))) ∙ h.spelled [])
    ∙ ap (λ (t : Bool). cond t (Some n) None) (lt-ltb n (2 ^ 64) lt)

pub number_again : (n : ℕ) → n < 2 ^ 64 → number_of (decimal n) ≡ Some n
number_again n lt = number_spelled n (decimal n) lt (decimal_spelling n lt)

-- ---- the fields of a line

-- no space and no end of a line
abbrev pub is_plain : ℕ → Bool
is_plain b = not (eqb b 10) && not (eqb b 32) && is_printable b

record IsPlain (b : ℕ) : Type 0 where
  inside : eqb b 10 ≡ false
  filled : eqb b 32 ≡ false
  printable : is_printable b ≡ true

three : (a b : Bool) (c : Bool) → (not a && not b && c) ≡ true → (a ≡ false) × (b ≡ false) × (c ≡ true)
three true b c e = absurd cc
three false true c e = absurd cc
three false false c e = (refl, refl, e)

head_and : (a b : Bool) → (a && b) ≡ true → (a ≡ true) × (b ≡ true)
head_and true b e = (refl, e)
head_and false b e = absurd cc

plain_byte : (b : ℕ) → is_plain b ≡ true → IsPlain b
plain_byte b e = let parts = three (eqb b 10) (eqb b 32) (is_printable b) e in
    record { inside = parts.0; filled = parts.1; printable = parts.2 }

digit_plain : (b : ℕ) → is_ascii_digit b ≡ true → is_plain b ≡ true
digit_plain b e =
    let parts = head_and (leb 48 b) (leb b 57) e in
    let low : 48 ≤ b = leb-true _ _ parts.0 in
    let high : b ≤ 57 = leb-true _ _ parts.1 in
    let ten : eqb b 10 ≡ false = ne_eqb b 10 (λ is. omega arith) in
    let space : eqb b 32 ≡ false = ne_eqb b 32 (λ is. omega arith) in
    let above : leb 32 b ≡ true = le-leb _ _ (omega arith) in
    let below : leb b 126 ≡ true = le-leb _ _ (omega arith) in
    rw (ten, space, above, below) refl

digits_plain : (ds : List ℕ) → list_all is_ascii_digit ds ≡ true → list_all is_plain ds ≡ true
digits_plain [] e = refl
digits_plain (d ∷ ds) e =
    let parts = head_and (is_ascii_digit d) (list_all is_ascii_digit ds) e in
    ap (λ (t : Bool). t && list_all is_plain ds) (digit_plain d parts.0) ∙ digits_plain ds parts.1

decimal_plain : (n : ℕ) → n < 2 ^ 64 → list_all is_plain (decimal n) ≡ true
decimal_plain n lt = digits_plain (decimal n) (decimal_spelling n lt).digits

-- a part of plain bytes, and what ends it
split_plain : (c : ℕ) (field rest : List ℕ) → ((b : ℕ) → IsPlain b → eqb b c ≡ false) → list_all is_plain field ≡ true
    → slice_split (λ b. eqb b c) (field ++ c ∷ rest) ≡ field ∷ slice_split (λ b. eqb b c) rest
split_plain c [] rest apart e =
    ap (λ (t : Bool). cond t ([] ∷ slice_split (λ b. eqb b c) rest) (onto_first c (slice_split (λ b. eqb b c) rest)))
    (eq-eqb c c refl)
split_plain c (b ∷ field) rest apart e =
    let parts = head_and (is_plain b) (list_all is_plain field) e in
    ap (λ (t : Bool). cond t ([] ∷ slice_split (λ b. eqb b c) (field ++ c ∷ rest))
    (onto_first b (slice_split (λ b. eqb b c) (field ++ c ∷ rest)))) (apart b (plain_byte b parts.0))
    ∙ ap (onto_first b) (split_plain c field rest apart parts.1)

split_last : (c : ℕ) (field : List ℕ) → ((b : ℕ) → IsPlain b → eqb b c ≡ false) → list_all is_plain field ≡ true
    → slice_split (λ b. eqb b c) field ≡ field ∷ []
split_last c [] apart e = refl
split_last c (b ∷ field) apart e =
    let parts = head_and (is_plain b) (list_all is_plain field) e in
    ap (λ (t : Bool). cond t ([] ∷ slice_split (λ b. eqb b c) field) (onto_first b (slice_split (λ b. eqb b c) field)))
    (apart b (plain_byte b parts.0))
    ∙ ap (onto_first b) (split_last c field apart parts.1)

-- the numbers after a word, one space before each
abbrev pub spaced : List ℕ → List ℕ
spaced ns = flat_map (λ n. 32 ∷ decimal n) ns

abbrev pub AreWords : List ℕ → Type 0
AreWords ns = AllByRecursion (λ n. n < 2 ^ 64) ns

split_spaced : (field ns : List ℕ) → list_all is_plain field ≡ true → AreWords ns
    → slice_split (λ b. eqb b 32) (field ++ spaced ns) ≡ field ∷ map decimal ns
split_spaced field [] plain h = ap (slice_split (λ b. eqb b 32)) (append-nil field)
    ∙ split_last 32 field (λ b p. p.filled) plain
split_spaced field (n ∷ ns) plain h =
    split_plain 32 field (decimal n ++ spaced ns) (λ b p. p.filled) plain
    ∙ ap (λ (fs : List (List ℕ)). field ∷ fs) (split_spaced (decimal n) ns (decimal_plain n h.0) h.1)

some_filled : (ds : List ℕ) → 0 < length ds → is_empty ds ≡ false
some_filled [] some = absurd (omega arith)
some_filled (d ∷ ds) some = refl

all_filled : (ns : List ℕ) → AreWords ns → filter (λ f. not (is_empty f)) (map decimal ns) ≡ map decimal ns
all_filled [] h = refl
all_filled (n ∷ ns) h =
    filled (decimal n) (map decimal ns) (some_filled (decimal n) (decimal_spelling n h.0).some)
    ∙ ap (λ (fs : List (List ℕ)). decimal n ∷ fs) (all_filled ns h.1)

fields_again : (w ns : List ℕ) → 0 < length w → list_all is_plain w ≡ true → AreWords ns
    → fields_of (w ++ spaced ns) ≡ w ∷ map decimal ns
fields_again w ns some plain h =
    ap (filter (λ f. not (is_empty f))) (split_spaced w ns plain h) ∙ filled w (map decimal ns) (some_filled w some)
    ∙ ap (λ (fs : List (List ℕ)). w ∷ fs) (all_filled ns h)

plain_printable : (ds : List ℕ) → list_all is_plain ds ≡ true → list_all is_printable ds ≡ true
plain_printable [] e = refl
plain_printable (d ∷ ds) e =
    let parts = head_and (is_plain d) (list_all is_plain ds) e in
    ap (λ (t : Bool). t && list_all is_printable ds) (plain_byte d parts.0).printable ∙ plain_printable ds parts.1

spaced_printable : (w ns : List ℕ) → list_all is_plain w ≡ true → AreWords ns
    → list_all is_printable (w ++ spaced ns) ≡ true
spaced_printable w [] plain h = ap (list_all is_printable) (append-nil w) ∙ plain_printable w plain
spaced_printable w (n ∷ ns) plain h =
    list_all-append is_printable w (32 ∷ (decimal n ++ spaced ns))
    ∙ ap (λ (t : Bool). t && list_all is_printable (decimal n ++ spaced ns)) (plain_printable w plain)
    ∙ spaced_printable (decimal n) ns (decimal_plain n h.0) h.1

-- plain bytes before a part are of that part
onto_plain : (w bytes part : List ℕ) (parts : List (List ℕ)) → list_all is_plain w ≡ true
    → slice_split (λ b. eqb b 10) bytes ≡ part ∷ parts → slice_split (λ b. eqb b 10) (w ++ bytes) ≡ (w ++ part) ∷ parts
onto_plain [] bytes part parts plain e = e
onto_plain (b ∷ w) bytes part parts plain e =
    let front = head_and (is_plain b) (list_all is_plain w) plain in
    ap (λ (t : Bool). cond t ([] ∷ slice_split (λ b. eqb b 10) (w ++ bytes))
    (onto_first b (slice_split (λ b. eqb b 10) (w ++ bytes)))) (plain_byte b front.0).inside
    ∙ ap (onto_first b) (onto_plain w bytes part parts front.1 e)

spaced_plain : (w ns rest : List ℕ) → list_all is_plain w ≡ true → AreWords ns
    → slice_split (λ b. eqb b 10) ((w ++ spaced ns) ++ 10 ∷ rest) ≡ (w ++ spaced ns) ∷ slice_split (λ b. eqb b 10) rest
spaced_plain w [] rest plain h =
    ap (λ (bytes : List ℕ). slice_split (λ b. eqb b 10) (bytes ++ 10 ∷ rest)) (append-nil w)
    ∙ split_plain 10 w rest (λ b p. p.inside) plain
    ∙ ap (λ (bytes : List ℕ). bytes ∷ slice_split (λ b. eqb b 10) rest) (sym (append-nil w))
spaced_plain w (n ∷ ns) rest plain h =
    ap (slice_split (λ b. eqb b 10)) (append_assoc w (32 ∷ (decimal n ++ spaced ns)) (10 ∷ rest))
    ∙ onto_plain w (32 ∷ ((decimal n ++ spaced ns) ++ 10 ∷ rest)) (32 ∷ (decimal n ++ spaced ns))
    (slice_split (λ b. eqb b 10) rest) plain
    (ap (onto_first 32) (spaced_plain (decimal n) ns rest (decimal_plain n h.0) h.1))

-- the bytes of a line up to its end
pub split_line : (w ns rest : List ℕ) → list_all is_plain w ≡ true → AreWords ns
    → slice_split (λ b. eqb b 10) ((w ++ spaced ns) ++ 10 ∷ rest) ≡ (w ++ spaced ns) ∷ slice_split (λ b. eqb b 10) rest
split_line w ns rest plain h = spaced_plain w ns rest plain h

-- a line is read by its word and its numbers
pub line_taken : (place : Place) (w ns : List ℕ) → 0 < length w → list_all is_plain w ≡ true
    → is_skipped (w ∷ map decimal ns) ≡ false → AreWords ns
    → after place (w ++ spaced ns) ≡ after_fields place place.stage (w ∷ map decimal ns)
line_taken place w ns some plain shown h =
    let fields = fields_of (w ++ spaced ns) in
    ap (λ (t : Bool). cond t (cond (is_skipped fields) (Ok place) (after_fields place place.stage fields)) (Err 2))
    (spaced_printable w ns plain h)
    ∙ ap (λ (fs : List (List ℕ)). cond (is_skipped fs) (Ok place) (after_fields place place.stage fs))
    (fields_again w ns some plain h)
    ∙ ap (λ (t : Bool). cond t (Ok place) (after_fields place place.stage (w ∷ map decimal ns))) shown

-- ---- numbers in range

checked_again : (range : Range) (n : ℕ) → range.low ≤ n → n ≤ range.high → n < 2 ^ 64
    → checked range (number_of (decimal n)) ≡ Ok n
checked_again range n low high lt =
    ap (checked range) (number_again n lt) ∙ rw (le-leb _ _ low, le-leb _ _ high) refl

numbers_in_again : (ranges : List Range) (ns : List ℕ) → AreWithin ranges ns → AreWords ns
    → numbers_in ranges (map decimal ns) ≡ Ok ns
numbers_in_again [] [] h words = refl
numbers_in_again [] (n ∷ ns) h words = absurd h
numbers_in_again (range ∷ ranges) [] h words = absurd h
numbers_in_again (range ∷ ranges) (n ∷ ns) h words =
    ap (λ (r : Result ℕ ℕ). numbers_with r (numbers_in ranges (map decimal ns))) (checked_again range n h.0 h.1 words.0)
    ∙ ap (λ (r : Result (List ℕ) ℕ). numbers_with (Ok n) r) (numbers_in_again ranges ns h.2 words.1)

within_length : (ranges : List Range) (ns : List ℕ) → AreWithin ranges ns → length ns ≡ length ranges
within_length [] [] h = refl
within_length [] (n ∷ ns) h = absurd h
within_length (range ∷ ranges) [] h = absurd h
within_length (range ∷ ranges) (n ∷ ns) h = omega (arith, within_length ranges ns h.2)

pub numbers_again : (ranges : List Range) (ns : List ℕ) → AreWithin ranges ns → AreWords ns
    → numbers ranges (map decimal ns) ≡ Ok ns
numbers_again ranges ns h words =
    ap (λ (t : Bool). cond t (numbers_in ranges (map decimal ns)) (Err 7))
    (eq-eqb _ _ (length-map ns decimal ∙ within_length ranges ns h)) ∙ numbers_in_again ranges ns h words
