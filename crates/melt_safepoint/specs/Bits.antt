-- What a collection leaves of the stale bits of objects, and which objects it takes away.
use Rattle.std.specs.Prelude.{◌≡◌, ◌≢◌, ◌⊎◌, ◌==◌, ℕ, List, [], length, Contains, Some}
use Rattle.std.specs.List.{IsDistinct}
use Rattle.melt_model.specs.Alive.{Alive, Held}
use Rattle.melt_model.specs.declared.reports.Journal.{Journal}
use Rattle.melt_model.specs.declared.reports.Phase.{Phase}
use Rattle.melt_model.specs.declared.reports.Phase.TheVariants.{Inactive, Mark, Move}
use Rattle.melt_scion.specs.Placed.{Maps}
use Rattle.melt_core.specs.StaleBits.{HasBit, HasNoBit, sight}
use Rattle.melt_core.specs.Views.{View, InUse, maps, value}

-- the object has a home, and no address
pub record IsOnDisk (m : Maps) (n : ℕ) : Type 0 where
  pub home : ℕ
  pub named : m.home home ≡ Some n
  pub nowhere : InUse m n → ⊥

-- each object in use then had its bit before, or lacked it, as it does then
pub record BitsStay (v w : View) : Type 0 where
  pub stale : (n : ℕ) → HasBit (sight w) n → HasBit (sight v) n
  pub fresh : (n : ℕ) → HasNoBit (sight w) n → HasNoBit (sight v) n

-- of the objects in use then exactly those lack the bit that a register holds
pub record BitsAreSet (v w : View) : Type 0 where
  pub stale : (n : ℕ) → HasBit (sight w) n → Held (value v) n → ⊥
  pub fresh : (n : ℕ) → HasNoBit (sight w) n → Held (value v) n

-- The stale bits after a collection of the phase: as before, or set by what registers hold.
abbrev pub BitsAfter : Phase → View → View → Type 0
BitsAfter Inactive = BitsStay
BitsAfter Mark = BitsAreSet
BitsAfter Move = BitsAreSet

-- The object was in use with the stale bit, no register holds it, and it is in use no more.
pub record IsTakenAway (v w : View) (n : ℕ) : Type 0 where
  pub stale : HasBit (sight v) n
  pub unheld : Held (value v) n → ⊥
  pub gone : InUse (maps w) n → ⊥

-- The objects that a collection of the phase takes away, as many as the journal has Bodies: none, but in a Move. What
-- a Move leaves of the objects that had the stale bit is held by registers. What was in use and is alive is in use still
-- or was taken away, and nothing comes into use. What lies on the disk then did so before, or was taken away.
pub record TakesAway (phase : Phase) (v w : View) (entry : Journal) : Type 0 where
  pub taken : List ℕ
  pub once : IsDistinct (λ a b. a == b) taken
  pub counts : length taken ≡ entry.bodies
  pub only_move : phase ≢ Move → taken ≡ []
  pub each : (n : ℕ) → Contains taken n → IsTakenAway v w n
  pub leaves : (n : ℕ) → phase ≡ Move → InUse (maps w) n → HasBit (sight v) n → Held (value v) n
  pub others : (n : ℕ) → InUse (maps v) n → Alive v.log (value v) n → InUse (maps w) n ⊎ Contains taken n
  pub none_new : (n : ℕ) → InUse (maps w) n → InUse (maps v) n
  pub away : (n : ℕ) → IsOnDisk (maps w) n → IsOnDisk (maps v) n ⊎ Contains taken n
