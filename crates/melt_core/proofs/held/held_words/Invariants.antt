use Rattle.std.proofs.Common.{◌≡◌}
use Rattle.melt_core.specs.Views.{View}
use Rattle.melt_core.proofs.Holdings.{Counted}
use Rattle.melt_core.proofs.held.held_words.Given as goal

-- in each view of these words and registers
abbrev pub invariant-loop-k : goal.invariant-loop-k
invariant-loop-k l = (v : View) → v.space ≡ l.space → v.held ≡ l.held → Counted v l.k l.words
