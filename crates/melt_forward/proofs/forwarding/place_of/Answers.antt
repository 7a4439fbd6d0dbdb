use Rattle.melt_forward.proofs.Probing.{probe_by_test}
use Rattle.melt_forward.proofs.forwarding.place_of.Goals as goal

pub returns-then-tried-before_the_end-clause-place : goal.returns-then-tried-before_the_end-clause-place
returns-then-tried-before_the_end-clause-place c =
    (probe_by_test c.args.home c.args.count c.args.tried c.requires).0 c.if-tried-before_the_end.true

pub returns-else-tried-before_the_end-clause-place : goal.returns-else-tried-before_the_end-clause-place
returns-else-tried-before_the_end-clause-place c =
    (probe_by_test c.args.home c.args.count c.args.tried c.requires).1 c.if-tried-before_the_end.false
