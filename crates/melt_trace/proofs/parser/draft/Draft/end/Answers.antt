use Rattle.std.proofs.Common.{◌≡◌, ◌<◌, ◌∷◌, arith, sym, subst, ◌∙◌}
use Rattle.melt_trace.specs.Drafts.{place_of, IsTallied}
use Rattle.melt_trace.proofs.Tally.{tallied_end, some_times, some_more, blocks_with_operation}
use Rattle.melt_trace.proofs.Steps.{same_place, ends}
use Rattle.melt_trace.proofs.parser.draft.Draft.end.Goals as goal

pub returns : goal.returns
returns c =
    let draft = c.args.self.now in
    let block = c.in-Some.block in
    let around = c.pop_front.new.self.items in
    let is : draft.blocks.items ≡ block ∷ around = c.in-Some.ensures.items in
    let tallied = subst (IsTallied draft.items.items draft.count) is c.requires.tallied in
    let filled : 0 < draft.count = omega arith in
    let some : 0 < c.saturating_add-self.result =
    rw (c.saturating_add-self.ensures, c.saturating_mul-unrolled.ensures)
    (some_more block.before block.times draft.count (some_times draft.items.items draft.count block around tallied)
    filled)
    in (
      ends (place_of draft) draft.count block draft.blocks.items around is filled
          ∙ same_place draft.stage draft.threads (place_of draft).script (sym c.in_ok-push.ensures.items)
          (blocks_with_operation block.before c.saturating_add-self.result around some),
      record {
        globals = c.requires.globals;
        tallied = rw (c.in_ok-push.ensures.items, c.saturating_add-self.ensures, c.saturating_mul-unrolled.ensures)
            (tallied_end draft.items.items draft.count block around tallied);
        total = c.requires.total;
        few = c.requires.few;
      },
    )
