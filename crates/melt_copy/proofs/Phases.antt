-- In a phase that keeps all objects in the space none leaves.
use Rattle.std.proofs.Common.{ℕ}
use Rattle.melt_model.specs.declared.reports.Phase.{Phase}
use Rattle.melt_model.specs.declared.reports.Phase.TheVariants.{Inactive, Mark, Move}
use Rattle.melt_scion.specs.State.{State}
use Rattle.melt_scion.specs.Moves.{Leaves}
use Rattle.melt_copy.specs.Copying.{IsCopying}

pub none_leaves : (phase : Phase) (s : State) (a : ℕ) → IsCopying phase → Leaves phase s a → ⊥
none_leaves Inactive s a copying leaves = leaves
none_leaves Mark s a copying leaves = leaves
none_leaves Move s a copying leaves = copying
