use Rattle.melt_trace.proofs.Unrolling.{lines_to_operation, IsAsBefore}
use Rattle.melt_trace.proofs.cursor.Cursor.next.Given as goal

abbrev pub invariant-loop-op : goal.invariant-loop-op
invariant-loop-op l = IsAsBefore l.fn.self l.self-inside.globals l.self-inside.items.now l.self-inside.open_blocks
    l.self-inside.place

abbrev pub decreases-loop-op : goal.decreases-loop-op
decreases-loop-op l = lines_to_operation l.self-inside.items.now l.self-inside.place
