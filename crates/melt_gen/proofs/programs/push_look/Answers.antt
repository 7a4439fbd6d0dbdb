use Rattle.std.proofs.Common.{◌≡◌, ◌+◌, ◌/◌, ◌%◌, [], ◌∷◌, ◌∙◌, ap, arith, rules}
use Rattle.std.proofs.lemmas.Result.{on_ok_weaker}
use Rattle.melt_gen.specs.Workloads.{drawn, look_round, state_after}
use Rattle.melt_gen.proofs.Branches.{look_sixteenth}
use Rattle.melt_gen.proofs.Writing.{draw_is, next_state_is, same_lines}
use Rattle.melt_gen.proofs.programs.push_look.Goals as goal

pub returns : goal.returns
returns c = λ seed state.
    let k = c.args.k in
    let n = k + k / 16 + 1 in
    let more : n + 1 ≡ k + 1 + (k + 1) / 16 = omega arith in
    let after = next_state_is seed n _ _ _ c.next_word.ensures state ∙ ap (state_after seed) more in
    let word = draw_is seed n _ _ _ c.next_word.ensures state in
    let ops = c.load.result ∷ c.get.result ∷ [] in
    let sixteenth : k % 16 ≡ 15 = search rules in
    let same : ops ≡ look_round (drawn seed n) k =
    rw (look_sixteenth (drawn seed n) k sixteenth, ← word) (search rules) in
    on_ok_weaker c.push_all.result (λ e. (after, same_lines _ _ ops _ same e)) c.push_all.ensures
