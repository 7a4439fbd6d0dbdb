use Rattle.std.proofs.Common.{◌∙◌}
use Rattle.melt_move.proofs.Freeing.{home_word_is}
use Rattle.melt_space.specs.Space.{word_at}
use Rattle.melt_move.proofs.scions.scion_of.Goals as goal

pub unreachable-requires : goal.unreachable-requires
unreachable-requires c =
    let h = home_word_is (word_at c.args.space.now) c.args.address c.requires.names in
    c.in-Err.ensures.err h.0 h.1 (c.word.ensures ∙ h.2)
