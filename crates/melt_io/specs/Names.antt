-- The names of the files of disks.
use Rattle.std.specs.Prelude.{ℕ, zero, suc, ◌+◌, List, ◌++◌, codes}
use Rattle.std.specs.Fmt.{decimal}

-- the name of the file of this number: that of the first has no number in it
abbrev pub name_of : ℕ → List ℕ
name_of zero = codes "melt.stale"
name_of (suc before) = codes "melt.stale." ++ decimal (before + 1)
