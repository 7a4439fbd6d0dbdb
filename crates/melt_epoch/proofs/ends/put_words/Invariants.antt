use Rattle.melt_epoch.specs.Gathering.{PutsFirst}
use Rattle.melt_epoch.proofs.ends.put_words.Given as goal

abbrev pub invariant-loop-k : goal.invariant-loop-k
invariant-loop-k l = PutsFirst l.fn.space l.space l.ended l.from l.k
