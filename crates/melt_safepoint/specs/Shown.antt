-- What a run sees of the disk under it, and over which disks it stands.
use Rattle.std.specs.Prelude.{◌≡◌, ℕ, Bool, true, List, Option}
use Rattle.melt_disk.specs.Homes.{Stale}
use Rattle.melt_scion.specs.Heaps.{OnDisk}
use Rattle.melt_core.specs.Advances.{TellsDisk}

-- The first word past all homes, the first word that no home may reach, and the words of the disk where it tells them.
pub record Shown : Type 0 where
  pub end : ℕ
  pub limit : ℕ
  pub image : Option (List ℕ)

-- what a stale space shows
abbrev pub shown_by : {Disk : Type 0} → (Disk → Option (List ℕ)) → Stale Disk → Shown
shown_by image space = record { end = space.end; limit = space.limit; image = image space.disk.now }

-- The disk is one that is seen so: it ends there, and where a run is told, the words that are told are its words.
pub record Underlies (told : Bool) (end : ℕ) (image : Option (List ℕ)) (disk : OnDisk) : Type 0 where
  pub ends : disk.end ≡ end
  pub tells : told ≡ true → TellsDisk image disk
