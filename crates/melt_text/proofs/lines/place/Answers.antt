use Rattle.std.proofs.Common.{arith}
use Rattle.melt_text.proofs.Cuts.{first_same, none_same}
use Rattle.melt_text.proofs.lines.place.Goals as goal

pub returns-then-other-byte : goal.returns-then-other-byte
returns-then-other-byte c =
    first_same c.args.bytes.now c.args.byte c.loop-place.place (omega arith) c.loop-place.invariant c.if-other-byte.true

pub returns : goal.returns
returns c = none_same c.args.bytes.now c.args.byte (λ j below. c.loop-place.invariant j (omega (arith, below)))
