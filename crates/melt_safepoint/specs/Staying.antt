-- How the stale bits of a heap, and what lies on its disk, are tied to the moments of a run.
use Rattle.std.specs.Prelude.{ℕ, List}
use Rattle.melt_trace.specs.Script.{Script}
use Rattle.melt_core.specs.StaleBits.{HasBit, HasNoBit, Sight}
use Rattle.melt_safepoint.specs.Bits.{IsOnDisk}
use Rattle.melt_safepoint.specs.Cuts.{IsAwayBy, IsFreshBy, IsStaleBy, Moment}

-- An object in use with the stale bit is stale since the last of these moments at which a collection marked, and one
-- without it is fresh. One on the disk was taken away at one of them, and was not used since.
pub record KeepsBits (script : Script) (moments : List Moment) (s : Sight) : Type 0 where
  pub stale : (n : ℕ) → HasBit s n → IsStaleBy script s.log moments n
  pub fresh : (n : ℕ) → HasNoBit s n → IsFreshBy script s.log moments n
  pub away : (n : ℕ) → IsOnDisk s.maps n → IsAwayBy s.log moments n
