use Rattle.std.proofs.Common.{◌∙◌}
use Rattle.melt_move.proofs.HomeBy.{home_decodes, new_home_small}
use Rattle.melt_move.proofs.decision.Decision.home_of.Goals as goal

pub new_home-requires : goal.new_home-requires
new_home-requires c =
    let reached = c.requires.reached in
    new_home_small c.args.space.now reached.0 c.args.self.now c.args.address reached.1 c.requires.room

pub unreachable-requires : goal.unreachable-requires
unreachable-requires c =
    let reached = c.requires.reached in
    let home = home_decodes c.args.space.now reached.0 c.args.self.now c.args.address reached.1 reached.2 in
    c.in-Err.ensures.err home.0 home.1 (c.word.ensures ∙ home.2)
