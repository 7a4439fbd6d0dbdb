-- How many visits the collections of each phase make at most.
use Rattle.std.specs.Prelude.{ℕ, ◌+◌, ◌≤◌, ◌⊎◌, List, length, map, sum}
use Rattle.melt_model.specs.declared.reports.Phase.{Phase}
use Rattle.melt_model.specs.declared.reports.Phase.TheVariants.{Inactive, Mark, Move}
use Rattle.melt_word.specs.Words.{cost_of}
use Rattle.melt_scion.specs.Heaps.{IsSettled}
use Rattle.melt_scion.specs.declared.registers.Registers.{Registers}
use Rattle.melt_scion.specs.declared.heap.Heap.{Heap}
use Rattle.melt_copy.specs.Settling.{SettlesBelow}
use Rattle.melt_copy.specs.Visits.{VisitsAtMost}
use Rattle.melt_move.specs.declared.choice.Departure.{Departure}

-- how many words these objects take
abbrev pub leaving_words : List Departure → ℕ
leaving_words leaving = sum (map (λ (d : Departure). cost_of d.shape) leaving)

-- how often a collection of the phase visits each word at most
abbrev pub visits_in : Phase → ℕ
visits_in Inactive = 4
visits_in Mark = 4
visits_in Move = 8

-- The heap was settled, and the words that count are those of the settled one.
pub record VisitsSettled (phase : Phase) (old : Heap) (held : List Registers) (before after : ℕ) : Type 0 where
  pub mid : Heap
  pub settled : IsSettled mid
  pub all : SettlesBelow old mid (length old.forward)
  pub visits : VisitsAtMost (visits_in phase) mid held before after

-- Where settling failed, nothing but the threads was visited.
abbrev pub VisitsPlanned : Phase → Heap → List Registers → ℕ → ℕ → Type 0
VisitsPlanned phase old held before after = (after ≤ before + length held) ⊎ VisitsSettled phase old held before after
