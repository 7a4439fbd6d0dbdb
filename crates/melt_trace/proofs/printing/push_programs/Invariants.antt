use Rattle.std.proofs.Common.{◌≡◌, ◌++◌, drop}
use Rattle.melt_trace.specs.Grammar.{program_lines}
use Rattle.melt_trace.proofs.printing.push_programs.Given as goal

-- the text so far and that of the programs left are the text of all
abbrev pub invariant-loop-thread : goal.invariant-loop-thread
invariant-loop-thread l =
    l.out.items ++ program_lines l.thread (drop l.thread l.programs) ≡ l.fn.out.items ++ program_lines 0 l.programs
