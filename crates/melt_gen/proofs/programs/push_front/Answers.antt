use Rattle.std.proofs.Common.{◌≡◌, ◌<◌, ◌+◌, ◌-◌, ◌%◌, [], ◌∷◌, ◌∙◌, ap, arith, rules}
use Rattle.std.proofs.lemmas.Result.{on_ok_weaker}
use Rattle.melt_gen.specs.Workloads.{drawn, front_round, state_after}
use Rattle.melt_gen.proofs.Branches.{front_odd, front_even}
use Rattle.melt_gen.proofs.Writing.{draw_is, next_state_is, nothing_written, same_lines}
use Rattle.melt_gen.proofs.programs.push_front.Goals as goal

pub returns-then-next_word-eq0 : goal.returns-then-next_word-eq0
returns-then-next_word-eq0 c = λ seed state.
    let k = c.args.k in
    let some : 0 < k = omega arith in
    let back : k - 1 + 1 ≡ k = omega arith in
    let word = draw_is seed (k - 1) _ _ _ c.next_word.ensures state in
    let even : drawn seed (k - 1) % 2 ≡ 0 = omega (arith, ap (λ n. n % 2) word) in (
      next_state_is seed (k - 1) _ _ _ c.next_word.ensures state ∙ ap (state_after seed) back,
      nothing_written _ _ (front_even c.args.first _ k some even),
    )

pub returns : goal.returns
returns c = λ seed state.
    let k = c.args.k in
    let some : 0 < k = omega arith in
    let back : k - 1 + 1 ≡ k = omega arith in
    let word = draw_is seed (k - 1) _ _ _ c.next_word.ensures state in
    let odd : drawn seed (k - 1) % 2 ≡ 1 = omega (arith, ap (λ n. n % 2) word) in
    let ops = c.gload.result ∷ c.load.result ∷ c.gstore-2.result ∷ [] in
    let after = next_state_is seed (k - 1) _ _ _ c.next_word.ensures state ∙ ap (state_after seed) back in
    let same : ops ≡ front_round c.args.first (drawn seed (k - 1)) k =
    rw (front_odd c.args.first _ k some odd) (search rules) in
    on_ok_weaker c.push_all-2.result (λ e. (after, same_lines _ _ ops _ same e)) c.push_all-2.ensures
