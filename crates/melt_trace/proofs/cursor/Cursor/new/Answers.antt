use Rattle.std.proofs.Common.{List, sym, subst}
use Rattle.melt_trace.specs.declared.blocks.Block.{Block}
use Rattle.melt_trace.specs.Cursor.{IsUnderway}
use Rattle.melt_trace.proofs.Unrolling.{at_first}
use Rattle.melt_trace.proofs.cursor.Cursor.new.Goals as goal

pub invariant_of-result : goal.invariant_of-result
invariant_of-result c =
    subst (λ (bs : List Block). IsUnderway c.args.globals c.args.items.now bs 0) (sym c.new.ensures)
    (at_first c.args.globals c.args.items.now c.requires)
