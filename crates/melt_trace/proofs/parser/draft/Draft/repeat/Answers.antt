use Rattle.std.proofs.Common.{◌<◌, ◌≤◌, length, arith, sym, ap, ◌∙◌}
use Rattle.melt_trace.specs.Drafts.{place_of, blocks_of}
use Rattle.melt_trace.proofs.Tally.{tallied_repeat}
use Rattle.melt_trace.proofs.Steps.{same_place, length-blocks, too_deep, opens}
use Rattle.melt_trace.proofs.parser.draft.Draft.repeat.Goals as goal

pub returns-then-len-ge-MAX_DEPTH : goal.returns-then-len-ge-MAX_DEPTH
returns-then-len-ge-MAX_DEPTH c =
    let draft = c.args.self.now in
    let deep : 4 ≤ length (blocks_of draft.count draft.blocks.items) =
    omega (arith, length-blocks draft.count draft.blocks.items, draft.blocks.ok.0, c.len.ensures) in
    too_deep (place_of draft) c.args.times deep

pub returns : goal.returns
returns c =
    let draft = c.args.self.now in
    let shallow : length (blocks_of draft.count draft.blocks.items) < 4 =
    omega (arith, length-blocks draft.count draft.blocks.items, draft.blocks.ok.0, c.len.ensures) in (
      opens (place_of draft) c.args.times shallow
          ∙ same_place draft.stage draft.threads (place_of draft).script (sym c.in_ok-push.ensures.items)
          (sym (ap (blocks_of 0) c.in_ok-push_front.ensures.items)),
      record {
        globals = c.requires.sound.globals;
        tallied = rw (c.in_ok-push.ensures.items, c.in_ok-push_front.ensures.items)
            (tallied_repeat draft.items.items c.args.times draft.count draft.blocks.items c.requires.some
            c.requires.sound.tallied);
        total = c.requires.sound.total;
        few = c.requires.sound.few;
      },
    )
