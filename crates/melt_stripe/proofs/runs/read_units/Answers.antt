use Rattle.std.proofs.Common.{◌≡◌, ◌-◌, ◌∙◌, length, arith, length-drop, length-take}
use Rattle.melt_io.proofs.Runs.{length-overwritten}
use Rattle.melt_stripe.proofs.Counting.{fell_on}
use Rattle.melt_stripe.proofs.Pieces.{reads_on}
use Rattle.melt_stripe.proofs.runs.read_units.Goals as goal

pub loop-done-preserved : goal.loop-done-preserved
loop-done-preserved g c =
    let words = c.loop-done.words in
    let done = c.loop-done.done in
    let end = c.min-end.result in
    let run : length c.read_run.new.run ≡ end - done =
    simp (length-take, length-drop) at c.read_run.auto.run ∙ omega arith in
    record {
      size = c.read_run.auto.readers ∙ c.loop-done.invariant.size;
      within = omega (arith, length-overwritten words c.read_run.new.run done (end - done) (omega arith) run);
      read = reads_on _ c.args.at words c.read_run.new.run _ end (omega arith) c.loop-done.invariant.within run
          c.loop-done.invariant.read
          (rw (c.loop-done.invariant.image, ← c.read_run.auto.run, run) at c.in_ok-read_run.ensures.words);
      image = c.in_ok-read_run.ensures.image ∙ c.loop-done.invariant.image;
      faults = fell_on c.loop-done.invariant.faults c.in_ok-read_run.ensures.faults;
    }
