-- What a call of a collection leaves of the disk, beside its words, its writes and its end.
use Rattle.std.specs.Prelude.{◌≡◌, ℕ, ◌≤◌, List, Option}
use Rattle.melt_disk.specs.Homes.{Stale}
use Rattle.melt_copy.specs.Settling.{StillTold}

-- The same disk is lent and read as before, with the same limit. It has no fewer faults, and tells its words if it did.
pub record KeepsDisk {Disk : Type 0} (image : Disk → Option (List ℕ)) (faults reads_failed lent : Disk → ℕ)
    (old new : Stale Disk) : Type 0 where
  pub tells : StillTold (image old.disk.now) (image new.disk.now)
  pub count : faults old.disk.now ≤ faults new.disk.now
  pub read_faults : reads_failed new.disk.now ≡ reads_failed old.disk.now
  pub lends : lent new.disk.now ≡ lent old.disk.now
  pub limit : new.limit ≡ old.limit
  pub same_disk : new.disk.ghost_name ≡ old.disk.ghost_name
