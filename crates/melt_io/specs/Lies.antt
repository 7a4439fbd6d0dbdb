-- What a disk says that gives other words than it holds.
use Rattle.std.specs.Prelude.{ℕ, ◌-◌, cond, ◌&&◌, ◌==◌, nat_le, List, [], ◌∷◌, fold, slice_set, Option, None, Some}

-- The words are told where no lie stands among those of the disk.
abbrev pub told : List (ℕ × ℕ × ℕ) → List ℕ → Option (List ℕ)
told [] image = Some image
told (lie ∷ lies) image = None

-- The words from word `at` on as the reader of a lend gives them, where this is the only lie. A lie
-- has the number of its lend, the place of a word, and the word that is given for it.
abbrev pub with_lie : ℕ → ℕ → List ℕ → ℕ × ℕ × ℕ → List ℕ
with_lie lend at words lie = cond ((lie.0 == lend) && nat_le at lie.1) (slice_set words (lie.1 - at) lie.2) words

-- the same for all the lies of a list: of two about one word the later one holds
abbrev pub with_lies : ℕ → ℕ → List ℕ → List (ℕ × ℕ × ℕ) → List ℕ
with_lies lend at words lies = fold (with_lie lend at) words lies
