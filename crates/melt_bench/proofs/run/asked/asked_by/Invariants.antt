use Rattle.std.proofs.Common.{◌≡◌, drop, map, string_bytes}
use Rattle.melt_bench.specs.Asked.{with_settings}
use Rattle.melt_bench.proofs.run.asked.asked_by.Given as goal

-- what is left asks for the rest of what all words ask for
abbrev pub invariant-loop-word : goal.invariant-loop-word
invariant-loop-word l = with_settings l.initial.asked (map string_bytes l.words)
    ≡ with_settings l.asked (map string_bytes (drop l.word-index l.words))
