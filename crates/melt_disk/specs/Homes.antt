-- Homes on a disk of words, the space that gives them, the stretches of words that writes leave as they are, and the
-- words that homes need.
use Rattle.std.specs.Prelude.{◌≡◌, ℕ, ◌+◌, ◌*◌, ◌≤◌, ◌⊎◌, List, [], ◌∷◌, Option, None, Some, sum_by, Contains}
use Rattle.std.specs.List.{enumerate_from}
use Rattle.std.specs.Borrow.{MutBor}
use Rattle.melt_io.specs.Outside.{words_at}
use Rattle.melt_word.specs.Words.{IsShape, cost_of}
use Rattle.melt_word.specs.declared.header.Shape.{Shape}

-- What a stale space is: the disk that it writes to, with its image; the first word past all homes; and the first word
-- that no home may reach.
pub record Stale (Disk : Type 0) : Type 0 where
  pub disk : MutBor Disk
  pub end : ℕ
  pub limit : ℕ

-- the home of an object of a shape: its first word
pub record Home : Type 0 where
  pub at : ℕ
  pub shape : Shape

-- where a home lies between two words
pub record LiesIn (from end : ℕ) (home : Home) : Type 0 where
  pub begins : from ≤ home.at
  pub shape : IsShape home.shape
  pub ends : home.at + cost_of home.shape ≤ end

-- These homes follow one another from a word on, up to the end.
abbrev pub AreAdjacent : ℕ → List Home → ℕ → Type 0
AreAdjacent from [] end = from ≡ end
AreAdjacent from (home ∷ homes) end = (home.at ≡ from) × IsShape home.shape
    × AreAdjacent (from + cost_of home.shape) homes end

-- These are all homes of a space, in ascending order.
abbrev pub AreHomes : {Disk : Type 0} → Stale Disk → List Home → Type 0
AreHomes space homes = AreAdjacent 1 homes space.end

-- the home was reserved for an object of this shape
pub record IsReserved {Disk : Type 0} (space : Stale Disk) (home : Home) : Type 0 where
  pub homes : List Home
  pub all : AreHomes space homes
  pub one : Contains homes home

-- n words from word `at` on and m words from word `home` on have none in common
abbrev pub IsApart : ℕ → ℕ → ℕ → ℕ → Type 0
IsApart at n home m = (at + n ≤ home) ⊎ (home + m ≤ at)

-- Each stretch of words apart from the m words of this home is as before, where words are told.
abbrev pub KeepsApart : Option (List ℕ) → ℕ → ℕ → Option (List ℕ) → Type 0
KeepsApart None home m None = Unit {0}
KeepsApart (Some old) home m (Some new) = (at n : ℕ) → IsApart at n home m → words_at new at n ≡ words_at old at n
KeepsApart None home m (Some new) = ⊥
KeepsApart (Some old) home m None = ⊥

-- the words of so many homes of each cost, where the place of a count is the cost
abbrev pub need_of : List ℕ → ℕ
need_of counts = sum_by (λ entry. entry.0 * entry.1) (enumerate_from 0 counts)
