use Rattle.std.proofs.Common.{arith, rules}
use Rattle.melt_io.proofs.Runs.{reads-filled}
use Rattle.melt_io.proofs.file_disk.read_run.Goals as goal

pub returns-clause-words : goal.returns-clause-words
returns-clause-words g c =
    reads-filled _ _ c.read_front.new.bytes c.in_ok-filled.filled _ _ (search rules) (search rules)
    c.in_ok-filled.ensures.front (λ h. c.in_ok-filled.ensures.end (omega (arith, c.read_front.auto.bytes)))
    (c.fill.ensures.after (λ y e. e)) c.get_words.ensures
