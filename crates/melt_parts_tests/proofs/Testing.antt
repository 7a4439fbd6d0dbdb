-- The homes that tests reserve: one or two, each of three words.
use Rattle.std.proofs.Common.{◌≡◌, ℕ, arith}
use Rattle.melt_word.specs.Words.{IsShape}
use Rattle.melt_word.specs.declared.header.Shape.{Shape}
use Rattle.melt_disk.specs.Homes.{Home, LiesIn}

-- an object of one number word
abbrev pub small : Shape
small = record { refs = 0; nums = 1 }

abbrev pub home_at : ℕ → Home
home_at at = record { at = at; shape = small }

is_small : IsShape small
is_small = record { refs = omega arith; nums = omega arith }

-- the one home
pub one_lies : (end : ℕ) → end ≡ 4 → LiesIn 1 end (home_at 1)
one_lies end is = record { begins = omega arith; shape = is_small; ends = omega (arith, is) }

-- the first of two, and the second
pub first_lies : (end : ℕ) → end ≡ 7 → LiesIn 1 end (home_at 1)
first_lies end is = record { begins = omega arith; shape = is_small; ends = omega (arith, is) }

pub second_lies : (end : ℕ) → end ≡ 7 → LiesIn 1 end (home_at 4)
second_lies end is = record { begins = omega arith; shape = is_small; ends = omega (arith, is) }
