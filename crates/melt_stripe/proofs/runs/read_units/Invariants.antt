use Rattle.std.proofs.Common.{◌≡◌, length, map, take, ◌-◌, ◌≤◌, IfSome}
use Rattle.melt_io.specs.Outside.{words_at}
use Rattle.melt_stripe.specs.Counts.{NoneFell}
use Rattle.melt_stripe.specs.Images.{image_of}
use Rattle.melt_stripe.proofs.runs.read_units.Given as goal

abbrev pub invariant-loop-done : goal.invariant-loop-done
invariant-loop-done g l = record {
  size : length l.readers ≡ length l.initial.readers;
  within : l.done ≤ length l.words;
  read : IfSome (image_of (map g.R.RecordReader.image l.initial.readers)) (λ image. take l.done l.words
      ≡ words_at image l.at l.done);
  image : map g.R.RecordReader.image l.readers ≡ map g.R.RecordReader.image l.initial.readers;
  faults : NoneFell (map g.R.RecordReader.faults l.initial.readers) (map g.R.RecordReader.faults l.readers);
}

abbrev pub decreases-loop-done : goal.decreases-loop-done
decreases-loop-done g l = length l.initial.words - l.done
