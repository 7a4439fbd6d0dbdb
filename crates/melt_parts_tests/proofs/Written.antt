-- Words that are known one by one: whether they are forwarding words is a test on them.
use Rattle.std.proofs.Common.{◌≡◌, ◌⊎◌, inl, inr, ℕ, zero, suc, ◌/◌, ◌%◌, ◌<◌, List, [], ◌∷◌, Bool, true, false, arith}
use Rattle.std.specs.Prelude.{nat_eq, nat_lt, if◌then◌else◌}
use Rattle.std.proofs.lemmas.Bool.Decides.{nat_tests}
use Rattle.melt_forward.specs.Forwarding.{IsForwarding, AreForwarding}

-- a home in the upper half, and an address above two clear bits in the lower
record HasParts (word : ℕ) : Type 0 where
  pub clear : word % 4 ≡ 0
  pub home : 0 < word / 4294967296
  pub small : word / 4294967296 < 4294967296
  pub address : 0 < word % 4294967296

abbrev has_parts : ℕ → Bool
has_parts word =
    if nat_eq (word % 4) 0 then
    if nat_lt 0 (word / 4294967296) then
    if nat_lt (word / 4294967296) 4294967296 then nat_lt 0 (word % 4294967296) else false
    else false
    else false

tells_parts : (word : ℕ) → has_parts word ≡ true → HasParts word
tells_parts word test = record {
  clear = grind (arith, nat_tests);
  home = grind (arith, nat_tests);
  small = grind (arith, nat_tests);
  address = grind (arith, nat_tests);
}

from_parts : (word : ℕ) → HasParts word → IsForwarding word
from_parts word parts =
    inr (
      word / 4294967296,
      word % 4294967296 / 4,
      record {
        home_in_range = record { not_null = parts.home; small = parts.small };
        address_in_range = record { not_null = grind arith; small = grind arith };
        is = grind arith;
      },
    )

abbrev pub are_forwarding : List ℕ → Bool
are_forwarding [] = true
are_forwarding (word ∷ words) =
    if nat_eq word 0 then are_forwarding words else
    if has_parts word then are_forwarding words else false

first_is : (word : ℕ) (words : List ℕ) → are_forwarding (word ∷ words) ≡ true → (word ≡ 0) ⊎ (has_parts word ≡ true)
first_is word words test = grind (arith, nat_tests)

rest_are : (word : ℕ) (words : List ℕ) → are_forwarding (word ∷ words) ≡ true → are_forwarding words ≡ true
rest_are word words test = grind (arith, nat_tests)

pub told_by_test : (words : List ℕ) → are_forwarding words ≡ true → AreForwarding words
told_by_test [] test k below = absurd (omega arith)
told_by_test (word ∷ words) test zero below =
    elim (first_is word words test) [
      | inl empty ↦ inl empty
      | inr parts ↦ from_parts word (tells_parts word parts)
    ]
told_by_test (word ∷ words) test (suc k) below = told_by_test words (rest_are word words test) k (omega arith)
