-- The words of all objects that were made, beside those of the objects in use.
use Rattle.std.specs.Prelude.{ℕ, ◌+◌, ◌≤◌, List, map, sum}
use Rattle.melt_model.specs.Alive.{words_of, CostsSum}
use Rattle.melt_model.specs.History.{Shape, shapes}
use Rattle.melt_model.specs.declared.history.Entry.{Entry}
use Rattle.melt_core.specs.Views.{View, InUse, maps}

-- how many words all objects take together that were made
abbrev pub made_words : List Entry → ℕ
made_words h = sum (map (λ (z : Shape). 2 + z.refs + z.nums) (shapes h))

-- All words that were made, but so many at most, are those of objects in use.
pub record HasMade (past : ℕ) (v : View) : Type 0 where
  pub in_use : ℕ
  pub adds_up : CostsSum (words_of v.log) (InUse (maps v)) in_use
  pub within : made_words v.log ≤ past + in_use

-- whatever words were made in between came into use, and none went out of use
abbrev pub KeepsMade : View → View → Type 0
KeepsMade v w = (past : ℕ) → HasMade past v → HasMade past w
