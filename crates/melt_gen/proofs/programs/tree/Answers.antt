use Rattle.std.proofs.Common.{◌≡◌, ℕ, [], ◌∷◌, ◌++◌, map, refl, ap, ◌∙◌, arith}
use Rattle.melt_trace.specs.declared.script.Item.TheVariants as item
use Rattle.melt_gen.specs.declared.workload.Workload.TheVariants as workload
use Rattle.melt_gen.specs.Workloads.{drawn, operations_of, round_of, rounds, tree_round}
use Rattle.melt_gen.proofs.Writing.{round_written, written_after, draw_is, next_state_is}
use Rattle.melt_gen.proofs.programs.tree.Goals as goal

pub loop-k-preserved : goal.loop-k-preserved
loop-k-preserved c =
    let k = c.loop-k.k in
    let state = c.loop-k.invariant.draws in
    let word = draw_is c.args.draws k _ _ _ c.next_word-word.ensures state in
    let round = round_of workload.Tree c.args.thread (drawn c.args.draws) in
    let same = ap (λ (w : ℕ). tree_round c.args.thread w k) word in
    record {
      draws = next_state_is c.args.draws k _ _ _ c.next_word-word.ensures state;
      items = round_written [] [] round k c.in_ok-push_object.ensures same c.loop-k.invariant.items;
    }

pub returns : goal.returns
unfolding operations_of
returns c =
    let round = round_of workload.Tree c.args.thread (drawn c.args.draws) in
    let all : c.loop-k.k ≡ c.args.size = omega arith in
    let ops = c.drop.result ∷ c.drop-2.result ∷ [] in
    written_after [] _ _ (rounds round c.loop-k.k) ops c.in_ok-push_all.ensures c.loop-k.invariant.items
    ∙ ap (λ (n : ℕ). map item.Op (rounds round n ++ ops)) all ∙ rw (c.drop.ensures, c.drop-2.ensures) refl
