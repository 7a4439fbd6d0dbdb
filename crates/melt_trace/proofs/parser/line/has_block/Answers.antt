use Rattle.std.proofs.Common.{not, eqb, ap, ◌∙◌}
use Rattle.melt_trace.proofs.Steps.{some_open}
use Rattle.melt_trace.proofs.parser.line.has_block.Goals as goal

pub returns : goal.returns
returns c =
    let draft = c.args.draft.now in
    ap not (c.is_empty.ensures ∙ ap (λ n. eqb n 0) draft.blocks.ok.0) ∙ some_open draft.count draft.blocks.items
