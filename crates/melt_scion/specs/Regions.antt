-- Stretches of words, and those of them that belong to one thread alone.
use Rattle.std.specs.Prelude.{◌≡◌, ◌≢◌, ℕ, ◌+◌, ◌<◌, ◌≤◌, Some}
use Rattle.melt_word.specs.Words.{cost_of}
use Rattle.melt_word.specs.declared.header.Header.{Header}
use Rattle.melt_scion.specs.State.{State, HeaderAt}
use Rattle.melt_scion.specs.Placed.{Maps}

pub record Region : Type 0 where
  pub at : ℕ
  pub words : ℕ

-- that of no words
abbrev pub no_region : Region
no_region = record { at = 0; words = 0 }

-- one ends before the other begins
pub record Apart (a b : Region) : Type 0 where
  pub before : a.at < b.at → a.at + a.words ≤ b.at
  pub after : b.at < a.at → b.at + b.words ≤ a.at
  pub differ : 0 < a.words → 0 < b.words → a.at ≢ b.at

-- The words of the region belong to one thread alone: they lie in no object, and below the first free place.
pub record Owns (maps : Maps) (s : State) (r : Region) : Type 0 where
  pub first : 1 ≤ r.at
  pub below : r.at + r.words ≤ s.free
  pub within : r.at + r.words ≤ s.base.size + 1
  pub outside : (b n : ℕ) (header : Header) → maps.address b ≡ Some n → HeaderAt s b header
      → Apart (record { at = b; words = cost_of header.shape }) r

-- The words after its first, so many of them, are those that are to stand there.
pub record HasStored (maps : Maps) (s : State) (r : Region) (holds : ℕ → ℕ) (stored : ℕ) : Type 0 where
  pub owns : Owns maps s r
  pub few : stored < r.words
  pub are : (k : ℕ) → 1 ≤ k → k ≤ stored → s.word (r.at + k) ≡ holds k
