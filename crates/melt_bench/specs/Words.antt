-- The numbers that words of the program stand for.
use Rattle.std.specs.Prelude.{ℕ, ◌^◌, nat_lt, if◌then◌else◌, Option, None, Some}

-- a number below 2^32
abbrev pub within_word : Option ℕ → Option ℕ
within_word None = None
within_word (Some n) = if nat_lt n (2 ^ 32) then Some n else None
