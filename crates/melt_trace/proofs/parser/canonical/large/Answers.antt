use Rattle.std.proofs.Common.{ℕ, List, ◌+◌, ◌*◌, ◌∷◌, ◌++◌, sym, ap, ◌∙◌, arith}
use Rattle.std.specs.Fmt.{decimal}
use Rattle.melt_trace.proofs.Spelled.{spelled_one, spelled_more}
use Rattle.melt_trace.proofs.parser.canonical.large.Goals as goal

pub loop-next-init : goal.loop-next-init
loop-next-init c =
    let first = c.in_ok-first in
    c.in_ok-after_byte.ensures ∙ ap (λ (ds : List ℕ). 32 ∷ ds)
    (spelled_one first.first c.in_ok-after_byte.field-0.now first.rest.now first.ensures.low first.ensures.text)
    ∙ ap (λ (n : ℕ). 32 ∷ (decimal n ++ first.rest.now)) (sym c.from-n.ensures)

pub loop-next-preserved : goal.loop-next-preserved
loop-next-preserved c =
    let n = c.loop-next.n in
    let next = c.in-Some in
    c.loop-next.invariant ∙ ap (λ (ds : List ℕ). 32 ∷ ds)
    (spelled_more n next.next c.loop-next.rest.now next.others.now
    (record { some = omega arith; low = next.ensures.low; fits = omega (arith, next.ensures.low) }) next.ensures.text)
    ∙ ap (λ (k : ℕ). 32 ∷ (decimal (10 * n + k) ++ next.others.now)) (sym c.from.ensures)
