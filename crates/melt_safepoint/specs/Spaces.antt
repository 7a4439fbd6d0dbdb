-- What a row of epochs sees of the disk under it.
use Rattle.std.specs.Prelude.{ℕ, List, Option}
use Rattle.melt_disk.specs.Homes.{Stale}
use Rattle.melt_safepoint.specs.Shown.{Shown, shown_by}

-- Where homes end and which words the disk tells; which disk it is; how many writes and lends have failed, and how many
-- reads on readers that were given back; how many readers were lent, and how many records were written.
pub record Sees (S : Type 0) : Type 0 where
  pub shown : S → Shown
  pub name : S → ℕ
  pub faults : S → ℕ
  pub read_faults : S → ℕ
  pub lends : S → ℕ
  pub writes : S → ℕ

-- so of a stale space
abbrev pub sees_stale : {Disk : Type 0} → (Disk → Option (List ℕ)) → (faults read_faults lends writes : Disk → ℕ)
    → Sees (Stale Disk)
sees_stale {Disk} image faults read_faults lends writes = record {
  shown = shown_by image;
  name = λ (space : Stale Disk). space.disk.ghost_name;
  faults = λ (space : Stale Disk). faults space.disk.now;
  read_faults = λ (space : Stale Disk). read_faults space.disk.now;
  lends = λ (space : Stale Disk). lends space.disk.now;
  writes = λ (space : Stale Disk). writes space.disk.now;
}
