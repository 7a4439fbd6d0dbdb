-- The rule for the next phase: how full the heap is, and which phase was done.
use Rattle.std.specs.Prelude.{ℕ, ◌*◌, Bool, true, false, nat_le}
use Rattle.melt_model.specs.declared.reports.Phase.{Phase}
use Rattle.melt_model.specs.declared.reports.Phase.TheVariants.{Inactive, Mark, Move}

-- the words in use are at least so many parts of a hundred of the heap
abbrev pub is_filled : (live heap parts : ℕ) → Bool
is_filled live heap parts = nat_le (parts * heap) (100 * live)

-- by whether the heap is filled to the part for Mark and to the part for Move, and by the last phase
abbrev pub phase_by : (to_mark to_move : Bool) → (last : Phase) → Phase
phase_by false _ _ = Inactive
phase_by true false _ = Mark
phase_by true true Inactive = Mark
phase_by true true Mark = Move
phase_by true true Move = Move

-- the phase that the next collection is planned to have
abbrev pub planned : (live heap : ℕ) → (last : Phase) → (mark move_ : ℕ) → Phase
planned live heap last mark move_ =
    phase_by (is_filled live heap mark) (is_filled live heap move_) last
