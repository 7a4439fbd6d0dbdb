-- The lines of a text, and the fields of a line.
use Rattle.std.specs.Prelude.{ℕ, Bool, true, false, not, ◌&&◌, ◌==◌, nat_le, List, [], ◌∷◌, filter}
use Rattle.std.specs.List.{slice_split}

-- A line ends with byte 10. A rest after the last one is a line too, unless it is empty.
abbrev pub without_empty_rest : List (List ℕ) → List (List ℕ)
without_empty_rest [] = []
without_empty_rest ([] ∷ []) = []
without_empty_rest ((b ∷ bytes) ∷ []) = (b ∷ bytes) ∷ []
without_empty_rest (l ∷ next ∷ ls) = l ∷ without_empty_rest (next ∷ ls)

abbrev pub lines_of : List ℕ → List (List ℕ)
lines_of bytes = without_empty_rest (slice_split (λ b. b == 10) bytes)

abbrev pub is_empty : List ℕ → Bool
is_empty [] = true
is_empty (b ∷ bytes) = false

-- the longest runs of bytes other than the space
abbrev pub fields_of : List ℕ → List (List ℕ)
fields_of bytes = filter (λ field. not (is_empty field)) (slice_split (λ b. b == 32) bytes)

abbrev pub is_printable : ℕ → Bool
is_printable b = nat_le 32 b && nat_le b 126
