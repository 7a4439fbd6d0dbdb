use Rattle.std.proofs.Common.{◌≡◌, length, take, drop, ◌-◌, ◌≤◌, IfSome}
use Rattle.melt_io.proofs.file_disk.read_front.Given as goal

abbrev pub invariant-loop-filled : goal.invariant-loop-filled
invariant-loop-filled g l = record {
  within : l.filled ≤ length l.bytes;
  read : IfSome (g.F.PositionedReader.bytes l.initial.file) (λ all. take l.filled l.bytes
      ≡ take l.filled (drop l.at all));
  kept : g.F.PositionedReader.bytes l.file ≡ g.F.PositionedReader.bytes l.initial.file;
  no_fault : g.F.PositionedReader.faults l.file ≡ g.F.PositionedReader.faults l.initial.file;
}

abbrev pub decreases-loop-filled : goal.decreases-loop-filled
decreases-loop-filled g l = length l.initial.bytes - l.filled
