use Rattle.melt_core.proofs.Holdings.{header_held, takes_shape}
use Rattle.melt_core.proofs.held.words_at.Goals as goal

pub shape-requires-clause-word : goal.shape-requires-clause-word
shape-requires-clause-word c =
    (header_held c.args.space.now c.requires.0 c.args.address c.requires.1 c.requires.2).0

pub shape-requires-clause-header : goal.shape-requires-clause-header
shape-requires-clause-header c =
    (header_held c.args.space.now c.requires.0 c.args.address c.requires.1 c.requires.2).1

pub returns : goal.returns
returns c =
    takes_shape c.args.space.now c.requires.0 c.args.address c.cost.result c.shape.result c.requires.1 c.requires.2
    c.shape.ensures c.cost.ensures
