use Rattle.std.proofs.Common.{arith, sym}
use Rattle.melt_trace.specs.Drafts.{place_of}
use Rattle.melt_trace.proofs.Tally.{tallied_operation, blocks_with_operation}
use Rattle.melt_trace.proofs.Steps.{same_place}
use Rattle.melt_trace.proofs.parser.draft.Draft.operation.Goals as goal

pub returns : goal.returns
returns c =
    let draft = c.args.self.now in (
      same_place draft.stage draft.threads (place_of draft).script (sym c.in_ok-push.ensures.items)
          (blocks_with_operation draft.count c.saturating_add-self.result draft.blocks.items
          (omega (arith, c.saturating_add-self.ensures))),
      record {
        globals = c.requires.globals;
        tallied = rw (c.in_ok-push.ensures.items, c.saturating_add-self.ensures)
            (tallied_operation draft.items.items c.args.op draft.count draft.blocks.items c.requires.tallied);
        total = c.requires.total;
        few = c.requires.few;
      },
    )
