use Rattle.std.proofs.Common.{arith}
use Rattle.melt_text.proofs.Cuts.{first_other, no_other}
use Rattle.melt_text.proofs.fields.start.Goals as goal

pub returns-then-byte-ne32 : goal.returns-then-byte-ne32
returns-then-byte-ne32 c =
    first_other c.args.bytes.now 32 c.loop-place.place (omega arith) c.loop-place.invariant c.if-byte-ne32.true

pub returns : goal.returns
returns c = no_other c.args.bytes.now 32 (λ j below. c.loop-place.invariant j (omega (arith, below)))
