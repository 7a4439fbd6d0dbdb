use Rattle.std.proofs.Common.{◌≡◌, ◌≤◌, ◌++◌, drop}
use Rattle.melt_top.specs.Text.{entry_lines, log_text}
use Rattle.melt_top.proofs.text.push_log.Given as goal

-- the text so far and that of the entries left are the text of all
abbrev pub invariant-loop-entry : goal.invariant-loop-entry
invariant-loop-entry l = record {
  text : l.out.items ++ entry_lines l.count (drop l.entry-index l.log) ≡ l.fn.out.items ++ log_text l.log;
  few : l.count ≤ l.entry-index;
}
