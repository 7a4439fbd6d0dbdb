-- What is counted of several disks together, and which of them is named.
use Rattle.std.specs.Prelude.{◌≡◌, ℕ, ◌-◌, ◌^◌, ◌<◌, ◌≤◌, List, length, min, sum, slice_index, Option, None, Some}
use Rattle.std.specs.Option.{ForSome}
use Rattle.std.specs.Borrow.{MutBor}
use Rattle.melt_io.specs.Outside.{Rose}

-- What striped disks are: the disks themselves, and what is kept of all of them together.
pub record Stripes (Disk : Type 0) : Type 0 where
  pub disks : MutBor (List Disk)
  pub writes : ℕ
  pub lends : ℕ
  pub failed : Option ℕ

-- What their reader is: the readers of all disks, and what is kept of all of them together.
pub record StripeReaders (Reader : Type 0) : Type 0 where
  pub readers : List Reader
  pub reads : ℕ
  pub failed : Option ℕ

-- the lesser of the greatest word and the sum
abbrev pub count_of : List ℕ → ℕ
count_of counts = min (sum counts) (2 ^ 64 - 1)

-- the lower of two, where there are two
abbrev pub lower_of : Option ℕ → Option ℕ → Option ℕ
lower_of None second = second
lower_of (Some first) None = Some first
lower_of (Some first) (Some second) = Some (min first second)

-- one that is named has counted something
abbrev pub IsAtFault : Option ℕ → List ℕ → Type 0
IsAtFault named counts = ForSome named (λ disk. (disk < length counts) × (0 < slice_index counts disk))

-- No count fell.
pub record NoneFell (old new : List ℕ) : Type 0 where
  pub size : length new ≡ length old
  pub each : (disk : ℕ) → slice_index old disk ≤ slice_index new disk

-- Nothing that was counted is lost, up to the greatest word.
abbrev pub NoneLost : List ℕ → List ℕ → Type 0
NoneLost old new = (disk : ℕ) → min (slice_index old disk) (2 ^ 64 - 1) ≤ slice_index new disk

-- That of one disk rose, or stands at its end.
abbrev pub RoseOf : List ℕ → List ℕ → ℕ → Type 0
RoseOf old new disk = (disk < length old) × Rose (slice_index old disk) (slice_index new disk)

-- One disk of which the count rose is named now, if no lower one was before.
pub record Names (before : Option ℕ) (old : List ℕ) (after : Option ℕ) (new : List ℕ) : Type 0 where
  pub disk : ℕ
  pub rose : RoseOf old new disk
  pub lower : after ≡ lower_of before (Some disk)
