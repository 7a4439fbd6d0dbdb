use Rattle.std.proofs.Common.{◌≡◌, ◌++◌, ◌+◌, drop}
use Rattle.melt_stats.specs.Rows.{IsAtLine, written}
use Rattle.melt_stats.specs.Table.{lines_from, table_text}
use Rattle.melt_stats.proofs.text.table.Given as goal

-- the text so far and the lines of the collections left are the whole table
abbrev pub invariant-loop-index : goal.invariant-loop-index
invariant-loop-index l = IsAtLine l.writer
    × (written l.writer ++ lines_from (l.index + 1) (drop l.index l.collection-items) ≡ table_text l.fn.journal)
