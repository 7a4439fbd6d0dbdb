-- Where the lines and the fields of the bytes end.
use Rattle.std.proofs.Common.{◌≡◌, ℕ, zero, suc, ◌+◌, ◌-◌, ◌<◌, ◌≤◌, Bool, true, false, cond, not, eqb, ltb, List, []}
use Rattle.std.proofs.Common.{◌∷◌, filter, length, take, drop, get_or, Some, None, refl, sym, ap, subst, ◌∙◌, arith}
use Rattle.std.specs.Prelude.{◌≢◌, ◌==◌, Option, slice_index}
use Rattle.memchr.specs.Find.{IsFirstByte}
use Rattle.std.specs.List.{slice_split, onto_first, position, position_or_len}
use Rattle.std.proofs.lemmas.Bool.{ltb-true, ltb-false, not-true, lt-ltb, le-ltb, cond-true, cond-false, eq-eqb, ne_eqb}
use Rattle.std.proofs.lemmas.Bool.{false_from_ne_true, false≢true}
use Rattle.std.proofs.lemmas.List.{take_rest, drop_all}
use Rattle.std.proofs.lemmas.Option.{cond_some, none-some}
use Rattle.std.proofs.lemmas.List.Sums.{fails_before_first, position_or_len_is}
use Rattle.std.proofs.lemmas.List.Splits.{slice_split_first, slice_split_none}
use Rattle.std.proofs.lemmas.List.Quantifiers.{position-Some}
use Rattle.melt_text.specs.Lines.{without_empty_rest, lines_of, is_empty, fields_of}

cond_none : {A : Type 0} (b : Bool) (x : A) → cond b (Some x) None ≡ None → b ≡ false
cond_none true x e = absurd (none-some x (sym e))
cond_none false x e = refl

split_at_position : (p : ℕ → Bool) (xs : List ℕ) (i : ℕ) → position p xs ≡ Some i
    → slice_split p xs ≡ take i xs ∷ slice_split p (drop (i + 1) xs)
split_at_position p xs i e =
    let found = cond_some (ltb (position_or_len p xs) (length xs)) (position_or_len p xs) i e in
    subst (λ (j : ℕ). slice_split p xs ≡ take j xs ∷ slice_split p (drop (j + 1) xs)) found.1
    (slice_split_first p xs 0 (ltb-true _ _ found.0))

split_without_position : (p : ℕ → Bool) (xs : List ℕ) → position p xs ≡ None → slice_split p xs ≡ xs ∷ []
split_without_position p xs e =
    let past : length xs ≤ position_or_len p xs =
    ltb-false _ _ (cond_none (ltb (position_or_len p xs) (length xs)) (position_or_len p xs) e) in
    slice_split_none p xs (λ k d high. let lt : k < position_or_len p xs = omega arith in
    fails_before_first p xs k d lt)

nothing_left : (xs : List ℕ) → take (length xs - length xs) (drop (length xs) xs) ≡ []
nothing_left xs = take_rest xs (length xs) ∙ drop_all (length xs) xs (omega arith)

-- ---- lines

pub split_parts : (p : ℕ → Bool) (xs : List ℕ) → (first : List ℕ) × (others : List (List ℕ))
    × (slice_split p xs ≡ first ∷ others)
split_parts p [] = ([], [], refl)
split_parts p (x ∷ xs) =
    let rest = split_parts p xs in
    elim (p x) as (λ t. (first : List ℕ) × (others : List (List ℕ))
    × (cond t ([] ∷ slice_split p xs) (onto_first x (slice_split p xs)) ≡ first ∷ others)) [
      | true ↦ ([], slice_split p xs, refl)
      | false ↦ (x ∷ rest.0, rest.1, ap (onto_first x) rest.2)
    ]

pub line_before : (line next : List ℕ) (others : List (List ℕ))
    → without_empty_rest (line ∷ next ∷ others) ≡ line ∷ without_empty_rest (next ∷ others)
line_before [] next others = refl
line_before (b ∷ line) next others = refl

-- a line ends with byte 10
pub line_at : (bytes : List ℕ) (i : ℕ) → position (λ b. eqb b 10) bytes ≡ Some i
    → lines_of bytes ≡ take i bytes ∷ lines_of (take (length bytes - (i + 1)) (drop (i + 1) bytes))
line_at bytes i e =
    let p : ℕ → Bool = λ b. eqb b 10 in
    let rest = split_parts p (drop (i + 1) bytes) in
    ap without_empty_rest (split_at_position p bytes i e)
    ∙ ap (λ (parts : List (List ℕ)). without_empty_rest (take i bytes ∷ parts)) rest.2
    ∙ line_before (take i bytes) rest.0 rest.1
    ∙ ap (λ (parts : List (List ℕ)). take i bytes ∷ without_empty_rest parts) (sym rest.2)
    ∙ ap (λ (rest : List ℕ). take i bytes ∷ lines_of rest) (sym (take_rest bytes (i + 1)))

-- the last line, which no byte 10 ends
pub last_line : (bytes : List ℕ) → 0 < length bytes → position (λ b. eqb b 10) bytes ≡ None
    → lines_of bytes ≡ bytes ∷ lines_of (take (length bytes - length bytes) (drop (length bytes) bytes))
last_line [] some e = absurd (omega arith)
last_line (b ∷ bytes) some e =
    ap without_empty_rest (split_without_position (λ b. eqb b 10) (b ∷ bytes) e)
    ∙ ap (λ (rest : List ℕ). (b ∷ bytes) ∷ lines_of rest) (sym (nothing_left (b ∷ bytes)))

-- ---- fields

twice : (t : Bool) → not t ≡ false → t ≡ true
twice true e = refl
twice false e = absurd cc

pub filled : (field : List ℕ) (others : List (List ℕ)) → is_empty field ≡ false
    → filter (λ f. not (is_empty f)) (field ∷ others) ≡ field ∷ filter (λ f. not (is_empty f)) others
filled field others e = ap (λ (t : Bool). cond (not t) (field ∷ filter (λ f. not (is_empty f)) others)
    (filter (λ f. not (is_empty f)) others)) e

-- a byte other than the space stands at the front
abbrev pub Begins : List ℕ → Type 0
Begins [] = ⊥
Begins (b ∷ bytes) = eqb b 32 ≡ false

front_filled : (bytes : List ℕ) (i : ℕ) → Begins bytes → position (λ b. eqb b 32) bytes ≡ Some i
    → is_empty (take i bytes) ≡ false
front_filled [] i begins e = absurd begins
front_filled (b ∷ bytes) zero begins e =
    let found = position-Some (λ b. eqb b 32) (b ∷ bytes) 0 0 e in
    let wrong : true ≡ false = sym found.1 ∙ begins in absurd cc
front_filled (b ∷ bytes) (suc i) begins e = refl

-- a field ends with a space
field_at : (bytes : List ℕ) (i : ℕ) → Begins bytes → position (λ b. eqb b 32) bytes ≡ Some i
    → fields_of bytes ≡ take i bytes ∷ fields_of (take (length bytes - (i + 1)) (drop (i + 1) bytes))
field_at bytes i begins e =
    ap (filter (λ field. not (is_empty field))) (split_at_position (λ b. eqb b 32) bytes i e)
    ∙ filled (take i bytes) (slice_split (λ b. eqb b 32) (drop (i + 1) bytes)) (front_filled bytes i begins e)
    ∙ ap (λ (rest : List ℕ). take i bytes ∷ fields_of rest) (sym (take_rest bytes (i + 1)))

-- the last field, which no space ends
last_field : (bytes : List ℕ) → Begins bytes → position (λ b. eqb b 32) bytes ≡ None
    → fields_of bytes ≡ bytes ∷ fields_of (take (length bytes - length bytes) (drop (length bytes) bytes))
last_field [] begins e = absurd begins
last_field (b ∷ bytes) begins e =
    ap (filter (λ field. not (is_empty field))) (split_without_position (λ b. eqb b 32) (b ∷ bytes) e)
    ∙ ap (λ (rest : List ℕ). (b ∷ bytes) ∷ fields_of rest) (sym (nothing_left (b ∷ bytes)))

-- spaces at the front
spaces : (n : ℕ) (bytes : List ℕ) → ((k : ℕ) → k < n → not (eqb (get_or bytes k 0) 32) ≡ false)
    → fields_of (drop n bytes) ≡ fields_of bytes
spaces zero bytes h = refl
spaces (suc n) [] h = refl
spaces (suc n) (b ∷ bytes) h =
    spaces n bytes (λ k lt. h (suc k) (omega arith))
    ∙ ap (λ (t : Bool). filter (λ f. not (is_empty f)) (cond t ([] ∷ slice_split (λ b. eqb b 32) bytes)
    (onto_first b (slice_split (λ b. eqb b 32) bytes)))) (sym (twice (eqb b 32) (h 0 (omega arith))))

begins_there : (n : ℕ) (bytes : List ℕ) → n < length bytes → not (eqb (get_or bytes n 0) 32) ≡ true
    → Begins (drop n bytes)
begins_there n [] lt e = absurd (omega arith)
begins_there zero (b ∷ bytes) lt e = not-true (eqb b 32) e
begins_there (suc n) (b ∷ bytes) lt e = begins_there n bytes (omega arith) e

-- what the search for the first byte of a field found
record IsStart (bytes : List ℕ) (n : ℕ) : Type 0 where
  begins : Begins (take (length bytes - n) (drop n bytes))
  fields : fields_of bytes ≡ fields_of (take (length bytes - n) (drop n bytes))

is_start : (bytes : List ℕ) (n : ℕ) → position (λ b. not (eqb b 32)) bytes ≡ Some n → IsStart bytes n
is_start bytes n e =
    let found = position-Some (λ b. not (eqb b 32)) bytes n 0 e in
    record {
      begins = subst Begins (sym (take_rest bytes n)) (begins_there n bytes found.0 found.1);
      fields = sym (ap fields_of (take_rest bytes n) ∙ spaces n bytes found.2);
    }

pub first_field_at : (bytes : List ℕ) (n i : ℕ) → position (λ b. not (eqb b 32)) bytes ≡ Some n → (rest : List ℕ)
    → rest ≡ take (length bytes - n) (drop n bytes) → position (λ b. eqb b 32) rest ≡ Some i
    → fields_of bytes ≡ take i rest ∷ fields_of (take (length rest - (i + 1)) (drop (i + 1) rest))
first_field_at bytes n i e rest is f =
    let start = is_start bytes n e in
    start.fields ∙ ap fields_of (sym is) ∙ field_at rest i (subst Begins (sym is) start.begins) f

pub only_field : (bytes : List ℕ) (n : ℕ) → position (λ b. not (eqb b 32)) bytes ≡ Some n → (rest : List ℕ)
    → rest ≡ take (length bytes - n) (drop n bytes) → position (λ b. eqb b 32) rest ≡ None
    → fields_of bytes ≡ rest ∷ fields_of (take (length rest - length rest) (drop (length rest) rest))
only_field bytes n e rest is f =
    let start = is_start bytes n e in
    start.fields ∙ ap fields_of (sym is) ∙ last_field rest (subst Begins (sym is) start.begins) f

-- nothing but spaces
pub no_field : (bytes : List ℕ) → position (λ b. not (eqb b 32)) bytes ≡ None → fields_of bytes ≡ []
no_field bytes e =
    let p : ℕ → Bool = λ b. not (eqb b 32) in
    let past : length bytes ≤ position_or_len p bytes =
    ltb-false _ _ (cond_none (ltb (position_or_len p bytes) (length bytes)) (position_or_len p bytes) e) in
    sym (spaces (length bytes) bytes (λ k high. let lt : k < position_or_len p bytes = omega arith in
    fails_before_first p bytes k 0 lt))
    ∙ ap fields_of (drop_all (length bytes) bytes (omega arith))

-- where the first byte that passes a test stands
pub first_byte : (test : ℕ → Bool) (bytes : List ℕ) (r : Option ℕ) → IsFirstByte test bytes r → r ≡ position test bytes
first_byte test bytes None is =
    let at : position_or_len test bytes ≡ length bytes =
    position_or_len_is test bytes (length bytes) 0 (omega arith)
    (λ k below. false_from_ne_true (test (slice_index bytes k)) (is k (omega arith) below))
    (λ below. absurd (omega (arith, below))) in
    sym (ap (λ (n : ℕ). cond (ltb n (length bytes)) (Some n) None) at
    ∙ cond-false (ltb (length bytes) (length bytes)) (Some (length bytes)) None
    (le-ltb (length bytes) (length bytes) (omega arith)))
first_byte test bytes (Some k) is =
    let within : k < length bytes = is.0.high in
    let at : position_or_len test bytes ≡ k =
    position_or_len_is test bytes k 0 (omega (arith, within))
    (λ j below. false_from_ne_true (test (slice_index bytes j)) (is.0.before j (omega arith) below)) (λ _. is.1) in
    sym (ap (λ (n : ℕ). cond (ltb n (length bytes)) (Some n) None) at
    ∙ cond-true (ltb k (length bytes)) (Some k) None (lt-ltb k (length bytes) within))

module _ (bytes : List ℕ) (byte k : ℕ) (within : k < length bytes) where
  -- the first byte that is another one
  pub first_other : ((j : ℕ) → j < k → slice_index bytes j ≡ byte) → slice_index bytes k ≢ byte
      → Some k ≡ position (λ b. not (b == byte)) bytes
  first_other before here =
      first_byte (λ b. not (b == byte)) bytes (Some k) (
        record {
          low = omega arith;
          high = within;
          before = λ j _ below passes.
              false≢true (sym (ap not (eq-eqb (slice_index bytes j) byte (before j below))) ∙ passes);
        },
        ap not (ne_eqb (slice_index bytes k) byte here),
      )

  -- and the first that is this one
  pub first_same : ((j : ℕ) → j < k → slice_index bytes j ≢ byte) → slice_index bytes k ≡ byte
      → Some k ≡ position (λ b. b == byte) bytes
  first_same before here =
      first_byte (λ b. b == byte) bytes (Some k) (
        record {
          low = omega arith;
          high = within;
          before = λ j _ below passes.
              false≢true (sym (ne_eqb (slice_index bytes j) byte (before j below)) ∙ passes);
        },
        eq-eqb (slice_index bytes k) byte here,
      )

-- there may be no other one
pub no_other : (bytes : List ℕ) (byte : ℕ) → ((j : ℕ) → j < length bytes → slice_index bytes j ≡ byte)
    → None ≡ position (λ b. not (b == byte)) bytes
no_other bytes byte all =
    first_byte (λ b. not (b == byte)) bytes None
    (λ j _ below passes. false≢true (sym (ap not (eq-eqb (slice_index bytes j) byte (all j below))) ∙ passes))

-- nor this one
pub none_same : (bytes : List ℕ) (byte : ℕ) → ((j : ℕ) → j < length bytes → slice_index bytes j ≢ byte)
    → None ≡ position (λ b. b == byte) bytes
none_same bytes byte none =
    first_byte (λ b. b == byte) bytes None
    (λ j _ below passes. false≢true (sym (ne_eqb (slice_index bytes j) byte (none j below)) ∙ passes))
