use Rattle.std.proofs.Common.{◌≡◌, ◌-◌, length, arith, rules, length-drop, length-take, ◌∙◌}
use Rattle.melt_io.proofs.Runs.{length-overwritten, reads-more}
use Rattle.melt_io.proofs.file_disk.read_words.Goals as goal

pub loop-done-preserved : goal.loop-done-preserved
loop-done-preserved g c =
    let words = c.loop-done.words in
    let done = c.loop-done.done in
    let end = c.min-end.result in
    let run : length c.read_run.new.words ≡ end - done =
    simp (length-take, length-drop) at c.read_run.auto.words ∙ omega arith in
    let place : c.from.result ≡ c.args.at = search rules in
    record {
      room = omega arith;
      within = omega (arith, length-overwritten words c.read_run.new.words done (end - done) (omega arith) run);
      read = reads-more _ c.args.at words c.read_run.new.words _ end (omega arith) c.loop-done.invariant.within run
          c.loop-done.invariant.read (rw (c.loop-done.invariant.kept, place, ← c.read_run.auto.words) at
          c.in_ok-read_run.ensures.words);
      kept = c.in_ok-read_run.ensures.kept ∙ c.loop-done.invariant.kept;
      no_fault = c.in_ok-read_run.ensures.no_fault ∙ c.loop-done.invariant.no_fault;
    }
