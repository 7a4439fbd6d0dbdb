use Rattle.std.proofs.Common.{arith, rules, ◌≡◌, ◌<◌, ◌-◌, ◌*◌, ◌∙◌, length, take, drop, length-take, length-drop}
use Rattle.std.proofs.lemmas.List.{length-take-le, take_all}
use Rattle.melt_io.specs.Outside.{KeepsOthers}
use Rattle.melt_io.specs.Words.{word_bytes}
use Rattle.melt_io.proofs.Runs.{keeps-run, length-word_bytes, so_far-writes, writes-run}
use Rattle.melt_io.proofs.file_disk.write_words.Goals as goal

pub loop-done-preserved : goal.loop-done-preserved
loop-done-preserved g c =
    let place : c.from.result ≡ c.args.at = search rules in
    record {
      made = c.in_ok-write_run.ensures.made;
      room = omega arith;
      within = omega arith;
      written = writes-run _ _ _ c.args.at c.args.words.now c.min-end.result (omega arith) (omega arith)
          c.loop-done.invariant.written (rw place at c.in_ok-write_run.ensures.written);
      no_fault = c.in_ok-write_run.ensures.no_fault ∙ c.loop-done.invariant.no_fault;
    }

pub returns-in_err-write_run-clause-others : goal.returns-in_err-write_run-clause-others
returns-in_err-write_run-clause-others g c =
    let words = c.args.words.now in
    let done = c.loop-done.done in
    let end = c.min-end.result in
    let place : c.from.result ≡ c.args.at = search rules in
    let run : length (take (end - done) (drop done words)) ≡ end - done =
    simp (length-take, length-drop) (omega arith) in
    let kept : KeepsOthers (g.F.PositionedFile.bytes c.args.file.now) (8 * c.args.at) (8 * length words)
    (g.F.PositionedFile.bytes c.write_run.new.file)
    = keeps-run _ _ _ c.args.at (take done words) (length (take (end - done) (drop done words)))
    (length-take-le done words (omega arith)) (omega (arith, run))
    c.loop-done.invariant.written (rw place at c.in_err-write_run.ensures.others) in
    search rules

pub returns-clause-written : goal.returns-clause-written
returns-clause-written g c =
    let words = c.args.words.now in
    let all : take c.loop-done.done words ≡ words = take_all c.loop-done.done words c.loop-done-test.false in
    let some : 0 < length (word_bytes words) = omega (arith, length-word_bytes words) in
    so_far-writes _ _ _ (word_bytes words) some (rw all at c.loop-done.invariant.written)
