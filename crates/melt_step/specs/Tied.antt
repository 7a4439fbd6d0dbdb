-- That the stale bit stays tied to the history in an epoch of a run.
use Rattle.std.specs.Prelude.{ℕ, true, List, Option}
use Rattle.melt_scion.specs.Heaps.{OnDisk}
use Rattle.melt_core.specs.StaleBits.{HasRegisters, TiedTo}
use Rattle.melt_core.specs.Views.{Standing, View}
use Rattle.melt_safepoint.specs.Shown.{Underlies}

-- Over each disk that is seen so, and tells its words: from whatever view on the bit was tied to the history before
-- events of a thread that has all its registers, it is tied to it after them.
abbrev pub KeepsTied : ℕ → Option (List ℕ) → View → View → ℕ → Type 0
KeepsTied finish image v w t = (begun : View) (disk : OnDisk) → Underlies true finish image disk → Standing true disk v
    → HasRegisters v t → TiedTo begun v → TiedTo begun w
