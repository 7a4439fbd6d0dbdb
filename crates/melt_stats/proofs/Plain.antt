-- Fields of digits and letters call for no quotes, so csv writes them as they are.
use Rattle.std.proofs.Common.{◌≡◌, ◌==◌, ℕ, ◌+◌, ◌%◌, ◌^◌, ◌<◌, List, [], ◌∷◌, false, refl, append_assoc, arith}
use Rattle.std.proofs.lemmas.List.{append-nil}
use Rattle.std.proofs.lemmas.Bool.{ne_eqb}
use Rattle.std.proofs.lemmas.Fmt.{decimal_by_steps}
use Rattle.std.proofs.lemmas.List.Folds.{list_any-append}
use Rattle.std.specs.Fmt.{decimal}
use Rattle.std.specs.List.{list_any}
use Rattle.std.specs.Prelude.{codes}
use Rattle.csv.specs.Writing.{default_writer, field_text, needs_byte, needs_quotes, row_text, fields_text, is_blank}
use Rattle.melt_model.specs.declared.reports.Journal.{Journal}
use Rattle.melt_model.specs.declared.reports.Phase.{Phase}
use Rattle.melt_model.specs.declared.reports.Phase.TheVariants.{Inactive, Mark, Move}
use Rattle.melt_stats.specs.Table.{header, journal_line, phase_name}

digit_is_plain : (d : ℕ) → d < 10 → needs_byte default_writer (48 + d) ≡ false
digit_is_plain d small =
    let comma : (48 + d == 44) ≡ false = ne_eqb (48 + d) 44 (λ e. omega arith) in
    let quote : (48 + d == 34) ≡ false = ne_eqb (48 + d) 34 (λ e. omega arith) in
    let line_end : (48 + d == 13) ≡ false = ne_eqb (48 + d) 13 (λ e. omega arith) in
    let feed : (48 + d == 10) ≡ false = ne_eqb (48 + d) 10 (λ e. omega arith) in
    rw (comma, quote, line_end, feed) refl

digits_are_plain : (n : ℕ) → n < 2 ^ 64 → needs_quotes default_writer (decimal n) ≡ false
digits_are_plain n fits =
    let plain = needs_byte default_writer in
    decimal_by_steps (λ m digits. list_any plain digits ≡ false)
    (λ m small. rw (digit_is_plain m small) refl)
    (λ m digits large before.
    let last = digit_is_plain (m % 10) (omega arith) in
    rw (list_any-append plain digits ((48 + m % 10) ∷ []), before, last) refl)
    n fits

number_is_plain : (n : ℕ) → n < 2 ^ 64 → field_text default_writer (decimal n) ≡ decimal n
number_is_plain n fits = rw (digits_are_plain n fits) refl

name_is_plain : (phase : Phase) → field_text default_writer (phase_name phase) ≡ phase_name phase
name_is_plain Inactive = refl
name_is_plain Mark = refl
name_is_plain Move = refl

pub header_row : row_text default_writer (codes "number" ∷ codes "phase" ∷ codes "held" ∷ codes "live" ∷ codes "bodies"
    ∷ codes "stubs" ∷ codes "end" ∷ []) ≡ header
unfolding fields_text is_blank
header_row = refl

row_of : (number : ℕ) (of : Journal)
    → number < 2 ^ 64 → of.held < 2 ^ 64 → of.live < 2 ^ 64 → of.bodies < 2 ^ 64 → of.stubs < 2 ^ 64 → of.end < 2 ^ 64
    → row_text default_writer (decimal number ∷ phase_name of.phase ∷ decimal of.held ∷ decimal of.live
    ∷ decimal of.bodies ∷ decimal of.stubs ∷ decimal of.end ∷ []) ≡ journal_line number of
unfolding fields_text is_blank
row_of number of a b c d e f =
    rw (
      number_is_plain number a,
      name_is_plain of.phase,
      number_is_plain of.held b,
      number_is_plain of.live c,
      number_is_plain of.bodies d,
      number_is_plain of.stubs e,
      number_is_plain of.end f,
    )
    (simp (append_assoc, append-nil) refl)

-- the line of a collection, from its seven fields
pub collection_row : (number : ℕ) (of : Journal) → {first second third fourth fifth sixth seventh : List ℕ}
    → first ≡ decimal number → second ≡ phase_name of.phase → third ≡ decimal of.held → fourth ≡ decimal of.live
    → fifth ≡ decimal of.bodies → sixth ≡ decimal of.stubs → seventh ≡ decimal of.end → number < 2 ^ 64
    → of.held < 2 ^ 64 → of.live < 2 ^ 64 → of.bodies < 2 ^ 64 → of.stubs < 2 ^ 64 → of.end < 2 ^ 64
    → row_text default_writer (first ∷ second ∷ third ∷ fourth ∷ fifth ∷ sixth ∷ seventh ∷ []) ≡ journal_line number of
collection_row number of one two three four five six seven a b c d e f =
    rw (one, two, three, four, five, six, seven) (row_of number of a b c d e f)
