use Rattle.std.proofs.Common.{ℕ, List, ◌∷◌, ap, ◌∙◌, arith}
use Rattle.melt_trace.proofs.Spelled.{spelled_one, spelled_more}
use Rattle.melt_trace.proofs.parser.canonical.small.Goals as goal

pub returns-in-None-clause-text : goal.returns-in-None-clause-text
returns-in-None-clause-text c =
    let first = c.in_ok-first in
    c.in_ok-after_byte.ensures ∙ ap (λ (ds : List ℕ). 32 ∷ ds)
    (spelled_one first.first c.in_ok-after_byte.field-0.now first.rest.now first.ensures.low first.ensures.text)

pub returns-in-Some-clause-text : goal.returns-in-Some-clause-text
returns-in-Some-clause-text c =
    let first = c.in_ok-first in
    let second = c.in-Some in
    c.in_ok-after_byte.ensures ∙ ap (λ (ds : List ℕ). 32 ∷ ds)
    (spelled_one first.first c.in_ok-after_byte.field-0.now first.rest.now first.ensures.low first.ensures.text
    ∙ spelled_more first.first second.second first.rest.now second.rest.now
    (record {
      some = omega arith;
      low = second.ensures.low;
      fits = omega (arith, first.ensures.low, second.ensures.low);
    })
    second.ensures.text)
