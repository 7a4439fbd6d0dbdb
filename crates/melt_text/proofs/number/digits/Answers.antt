use Rattle.std.proofs.Common.{sym, ◌∙◌}
use Rattle.melt_text.proofs.Digits.{stops_at, spelled_all}
use Rattle.melt_text.proofs.number.digits.Goals as goal

pub returns-in_default : goal.returns-in_default
returns-in_default c =
    sym (stops_at c.loop-b.n c.loop-b.b-index c.args.bytes.now c.loop-b-test.true (sym c.in_default.ensures.value))
    ∙ c.loop-b.invariant.0

pub returns : goal.returns
returns c = sym (spelled_all c.loop-b.n c.loop-b.b-index c.args.bytes.now c.loop-b-test.false c.loop-b.invariant.1)
    ∙ c.loop-b.invariant.0
