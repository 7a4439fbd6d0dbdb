use Rattle.std.proofs.Common.{◌≡◌, ◌<◌, ◌^◌, option_and_then, drop}
use Rattle.melt_text.specs.Numbers.{spelled_from, if_word}
use Rattle.melt_text.proofs.number.digits.Given as goal

abbrev pub invariant-loop-b : goal.invariant-loop-b
invariant-loop-b l =
    (option_and_then if_word (spelled_from l.n (drop l.b-index l.bytes))
    ≡ option_and_then if_word (spelled_from 0 l.bytes)) × (l.n < 2 ^ 64)
