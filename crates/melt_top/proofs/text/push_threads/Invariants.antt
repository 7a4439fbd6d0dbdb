use Rattle.std.proofs.Common.{◌≡◌, ◌++◌, drop}
use Rattle.melt_top.specs.Text.{thread_lines}
use Rattle.melt_top.proofs.text.push_threads.Given as goal

-- the text so far and that of the threads left are the text of all
abbrev pub invariant-loop-number : goal.invariant-loop-number
invariant-loop-number l = l.out.items ++ thread_lines l.texts l.number (drop l.number l.threads)
    ≡ l.fn.out.items ++ thread_lines l.texts 0 l.threads
