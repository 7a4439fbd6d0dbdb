-- The value is whether there are words that the disk tells.
use Rattle.std.specs.Prelude.{is_some}
use Rattle.melt_safepoint.proofs.space.tells.Given as goal

abbrev pub ghost-pick : goal.ghost-pick
ghost-pick g a = is_some (g.D.StaleDisk.image a.from.now.disk.now)
