use Rattle.std.proofs.Common.{◌≡◌, length, take, drop, ◌-◌, ◌*◌, ◌≤◌, IfSome}
use Rattle.melt_io.specs.Words.{words_in_bytes}
use Rattle.melt_io.proofs.file_disk.read_words.Given as goal

abbrev pub invariant-loop-done : goal.invariant-loop-done
invariant-loop-done g l = record {
  room : 8 ≤ length l.piece;
  within : l.done ≤ length l.words;
  read : IfSome (g.F.PositionedReader.bytes l.initial.file) (λ bytes. take l.done l.words
      ≡ words_in_bytes l.done (drop (8 * l.at) bytes));
  kept : g.F.PositionedReader.bytes l.file ≡ g.F.PositionedReader.bytes l.initial.file;
  no_fault : g.F.PositionedReader.faults l.file ≡ g.F.PositionedReader.faults l.initial.file;
}

abbrev pub decreases-loop-done : goal.decreases-loop-done
decreases-loop-done g l = length l.initial.words - l.done
