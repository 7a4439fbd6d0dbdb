-- What reading all and writing all say of the bytes.
use Rattle.std.specs.Prelude.{◌≡◌, ℕ, ◌≤◌, List, length, drop, Option, None, Some, codes}
use Rattle.melt_io.specs.declared.whole.ReadRefusal.{ReadRefusal}
use Rattle.melt_io.specs.declared.whole.ReadRefusal.TheVariants as refusal

-- Exactly n bytes were taken from the front, where they are told.
abbrev pub TakesCount : Option (List ℕ) → ℕ → Option (List ℕ) → Type 0
TakesCount None n None = Unit {0}
TakesCount (Some old) n (Some new) = (n ≤ length old) × (new ≡ drop n old)
TakesCount None n (Some new) = ⊥
TakesCount (Some old) n None = ⊥

-- what is printed of a refusal
abbrev pub refusal_text : ReadRefusal → List ℕ
refusal_text refusal.Fault = codes "the source failed"
refusal_text refusal.TooLong = codes "the source has more bytes than the limit"
refusal_text refusal.NoMemory = codes "no memory for the source's bytes"
