use Rattle.std.proofs.Common.{sym, subst}
use Rattle.melt_word.specs.Words.{IsDiskHome}
use Rattle.melt_move.proofs.Encoding.{named_reached, named_home}
use Rattle.melt_move.proofs.bodies.refer_home.Goals as goal

pub home_of-requires-clause-reached : goal.home_of-requires-clause-reached
home_of-requires-clause-reached c =
    let named = c.requires.1 in
    (c.requires.0, named.decided, named_reached c.requires.0 c.args.address named.named)

pub returns-clause-in_range : goal.returns-clause-in_range
returns-clause-in_range c =
    subst IsDiskHome (sym c.home_of.ensures)
    (named_home c.args.space.now c.requires.0 c.args.decision.now c.args.address c.requires.1)
