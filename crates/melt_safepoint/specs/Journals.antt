-- Of which phases the collections of a run are.
use Rattle.std.specs.Prelude.{◌≡◌, ℕ, zero, suc, ◌+◌, ◌<◌, ◌≤◌, ◌⊎◌, List, [], ◌∷◌, ◌++◌, length, Option, None, Some}
use Rattle.std.specs.Prelude.{All, slice_get}
use Rattle.melt_model.specs.declared.config.Config.{Config}
use Rattle.melt_model.specs.declared.reports.Journal.{Journal}
use Rattle.melt_model.specs.declared.reports.Phase.{Phase}
use Rattle.melt_model.specs.declared.reports.Phase.TheVariants.{Inactive, Move}
use Rattle.melt_policy.specs.Policy.{planned}

-- the phase that is planned after a collection, and at the start of a run
abbrev pub next_of : Config → Option Journal → Phase
next_of config None = Inactive
next_of config (Some j) = planned j.live config.heap j.phase config.mark config.move_

-- after a collection an object of the largest size may have no room
abbrev pub IsTight : Config → Option Journal → Type 0
IsTight config None = ⊥
IsTight config (Some j) = config.heap < j.live + 126

-- the collection before the one with this number, if there is one
abbrev pub before : List Journal → ℕ → Option Journal
before journal zero = None
before journal (suc k) = slice_get journal k

-- the first word on disk past all homes after a collection, and at the start of a run
abbrev pub end_of : Option Journal → ℕ
end_of None = 1
end_of (Some j) = j.end

-- A Move may be made after a collection: it is the one that is planned, or it is forced, as there may be no room.
abbrev pub MayMove : Config → Option Journal → Type 0
MayMove config last = (next_of config last ≡ Move) ⊎ IsTight config last

-- Each collection is of the phase that was planned after the one before it, or is a Move that was forced, as it can be
-- only where an object might have no room after the one before. What registers hold is a part of what is in use, which
-- the heap has. The homes on disk grow in number alone, up to the limit.
pub record IsJournalOf (config : Config) (journal : List Journal) : Type 0 where
  pub phases : (k : ℕ) (j : Journal) → slice_get journal k ≡ Some j → (j.phase ≡ next_of config (before journal k))
      ⊎ ((j.phase ≡ Move) × IsTight config (before journal k))
  pub words : All (λ j. (j.held ≤ j.live) × (j.live ≤ config.heap)) journal
  pub ends : (k : ℕ) (j : Journal) → slice_get journal k ≡ Some j → end_of (before journal k) ≤ j.end
  pub limit : All (λ j. j.end ≤ config.disk) journal

-- One collection more was written down, of this phase.
pub record OneMore (phase : Phase) (js later : List Journal) : Type 0 where
  pub entry : Journal
  pub journal : later ≡ js ++ entry ∷ []
  pub of_phase : entry.phase ≡ phase

-- so many more were, each of the phase that was planned after the one before
abbrev pub Planned : Config → ℕ → List Journal → List Journal → Type 0
Planned config zero js later = later ≡ js
Planned config (suc n) js later = (between : List Journal) × Planned config n js between
    × OneMore (next_of config (before between (length between))) between later
