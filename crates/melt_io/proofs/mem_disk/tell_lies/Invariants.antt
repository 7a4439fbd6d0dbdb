use Rattle.std.proofs.Common.{◌≡◌, take}
use Rattle.melt_io.specs.Lies.{with_lies}
use Rattle.melt_io.proofs.mem_disk.tell_lies.Given as goal

abbrev pub invariant-loop-lie : goal.invariant-loop-lie
invariant-loop-lie l = l.words ≡ with_lies l.lend l.at l.initial.words (take l.lie-index l.lies)
