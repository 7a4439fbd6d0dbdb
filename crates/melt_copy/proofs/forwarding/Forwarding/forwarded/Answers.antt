use Rattle.std.proofs.Common.{rules}
use Rattle.melt_copy.specs.Tracking.{looked_up}
use Rattle.melt_copy.proofs.forwarding.Forwarding.forwarded.Goals as goal

pub returns : goal.returns
unfolding looked_up
returns c = search rules
