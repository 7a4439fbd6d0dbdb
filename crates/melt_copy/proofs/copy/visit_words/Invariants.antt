use Rattle.std.proofs.Common.{◌≡◌, ◌+◌}
use Rattle.melt_copy.proofs.copy.visit_words.Given as goal

abbrev pub invariant-loop-word : goal.invariant-loop-word
invariant-loop-word g l = l.steps ≡ l.fn.steps + l._word-index
