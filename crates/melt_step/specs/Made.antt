-- Which of the words that a run makes are in use.
use Rattle.std.specs.Prelude.{ℕ, true, List, Option}
use Rattle.melt_scion.specs.Heaps.{OnDisk}
use Rattle.melt_core.specs.Made.{KeepsMade}
use Rattle.melt_core.specs.Views.{View, Standing}
use Rattle.melt_safepoint.specs.Shown.{Underlies}

-- over each disk that is seen so, and tells its words, whatever was made in between came into use
abbrev pub MakesInUse : ℕ → Option (List ℕ) → View → View → Type 0
MakesInUse finish image v w = (disk : OnDisk) → Underlies true finish image disk → Standing true disk v → KeepsMade v w
