-- The numbers that fields spell.
use Rattle.std.specs.Prelude.{ℕ, ◌+◌, ◌^◌, ◌*◌, ◌-◌, ◌==◌, nat_lt, if◌then◌else◌, List, [], ◌∷◌, Option, None, Some}
use Rattle.std.specs.Prelude.{option_and_then}
use Rattle.std.specs.Char.{is_ascii_digit}

-- the number that digits spell after those that spell n
abbrev pub spelled_from : ℕ → List ℕ → Option ℕ
spelled_from n [] = Some n
spelled_from n (b ∷ bytes) = if is_ascii_digit b then spelled_from (10 * n + (b - 48)) bytes else None

abbrev pub if_word : ℕ → Option ℕ
if_word n = if nat_lt n (2 ^ 64) then Some n else None

-- A number of at most 64 bits: `0`, or digits of which the first is not 0.
abbrev pub number_of : List ℕ → Option ℕ
number_of [] = None
number_of (b ∷ []) = option_and_then if_word (spelled_from 0 (b ∷ []))
number_of (b ∷ c ∷ bytes) = if b == 48 then None else option_and_then if_word (spelled_from 0 (b ∷ c ∷ bytes))
