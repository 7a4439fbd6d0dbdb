use Rattle.std.proofs.Common.{length}
use Rattle.melt_trace.specs.Drafts.{IsReadTo}
use Rattle.melt_trace.proofs.parser.read_lines.Given as goal

abbrev pub invariant-loop-rest : goal.invariant-loop-rest
invariant-loop-rest l = IsReadTo l.bytes l.draft l.rest l.line

abbrev pub decreases-loop-rest : goal.decreases-loop-rest
decreases-loop-rest l = length l.rest
