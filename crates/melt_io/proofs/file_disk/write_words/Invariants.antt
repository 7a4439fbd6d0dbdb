use Rattle.std.proofs.Common.{◌≡◌, length, take, ◌-◌, ◌*◌, ◌≤◌, true}
use Rattle.melt_io.specs.Words.{word_bytes}
use Rattle.melt_io.proofs.Runs.{WritesSoFar}
use Rattle.melt_io.proofs.file_disk.write_words.Given as goal

abbrev pub invariant-loop-done : goal.invariant-loop-done
invariant-loop-done g l = record {
  made : g.F.PositionedFile.made l.file ≡ true;
  room : 8 ≤ length l.piece;
  within : l.done ≤ length l.words;
  written : WritesSoFar (g.F.PositionedFile.bytes l.initial.file) (8 * l.at) (word_bytes (take l.done l.words))
      (g.F.PositionedFile.bytes l.file);
  no_fault : g.F.PositionedFile.faults l.file ≡ g.F.PositionedFile.faults l.initial.file;
}

abbrev pub decreases-loop-done : goal.decreases-loop-done
decreases-loop-done g l = length l.initial.words - l.done
