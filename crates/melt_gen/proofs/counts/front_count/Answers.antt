use Rattle.std.proofs.Common.{◌≡◌, ◌<◌, ◌+◌, ◌-◌, ◌%◌, length, ◌∙◌, ap, sym, arith}
use Rattle.melt_gen.specs.Workloads.{drawn, state_after}
use Rattle.melt_gen.proofs.Branches.{front_odd, front_even}
use Rattle.melt_gen.proofs.Writing.{draw_is, next_state_is}
use Rattle.melt_gen.proofs.counts.front_count.Goals as goal

pub returns-then-next_word-eq0-clause-value : goal.returns-then-next_word-eq0-clause-value
returns-then-next_word-eq0-clause-value c = λ seed state.
    let k = c.args.k in
    let some : 0 < k = omega arith in
    let back : k - 1 + 1 ≡ k = omega arith in
    let word = draw_is seed (k - 1) _ _ _ c.next_word.ensures state in
    let even : drawn seed (k - 1) % 2 ≡ 0 = omega (arith, ap (λ n. n % 2) word) in (
      next_state_is seed (k - 1) _ _ _ c.next_word.ensures state ∙ ap (state_after seed) back,
      λ first. sym (ap length (front_even first _ k some even)),
    )

pub returns-clause-value : goal.returns-clause-value
returns-clause-value c = λ seed state.
    let k = c.args.k in
    let some : 0 < k = omega arith in
    let back : k - 1 + 1 ≡ k = omega arith in
    let word = draw_is seed (k - 1) _ _ _ c.next_word.ensures state in
    let odd : drawn seed (k - 1) % 2 ≡ 1 = omega (arith, ap (λ n. n % 2) word) in (
      next_state_is seed (k - 1) _ _ _ c.next_word.ensures state ∙ ap (state_after seed) back,
      λ first. sym (ap length (front_odd first _ k some odd)),
    )
