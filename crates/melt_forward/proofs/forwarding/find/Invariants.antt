use Rattle.melt_forward.proofs.Searching.{Searched}
use Rattle.melt_forward.proofs.forwarding.find.Given as goal

abbrev pub invariant-loop-tried : goal.invariant-loop-tried
invariant-loop-tried l = Searched l.words l.home l.tried
