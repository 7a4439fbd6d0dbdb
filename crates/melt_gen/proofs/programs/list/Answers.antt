use Rattle.std.proofs.Common.{◌≡◌, ℕ, [], ◌∷◌, ◌++◌, map, rules, ap, ◌∙◌, arith}
use Rattle.melt_trace.specs.declared.script.Item.TheVariants as item
use Rattle.melt_gen.specs.declared.workload.Workload.TheVariants as workload
use Rattle.melt_gen.specs.Workloads.{drawn, list_end, round_of, operations_of, rounds}
use Rattle.melt_gen.proofs.Writing.{round_written, written_after, draw_is, next_state_is}
use Rattle.melt_gen.proofs.programs.list.Goals as goal

pub loop-k-preserved : goal.loop-k-preserved
loop-k-preserved c =
    let state = c.loop-k.invariant.draws in
    let word = draw_is c.args.draws c.loop-k.k _ _ _ c.next_word-word.ensures state in
    let round = round_of workload.List c.args.thread (drawn c.args.draws) in
    let ops = c.new.result ∷ c.put.result ∷ c.put-in-loop-k.result ∷ c.gload.result ∷ c.store.result ∷
    c.gstore.result ∷ c.get.result ∷ [] in
    record {
      draws = next_state_is c.args.draws c.loop-k.k _ _ _ c.next_word-word.ensures state;
      items = round_written [] [] round c.loop-k.k {ops = ops} c.in_ok-push_all.ensures (search (rules, word))
          c.loop-k.invariant.items;
    }

pub returns : goal.returns
unfolding operations_of
returns c =
    let round = round_of workload.List c.args.thread (drawn c.args.draws) in
    let all : c.loop-k.k ≡ c.args.size = omega arith in
    written_after [] _ _ (rounds round c.loop-k.k) (list_end c.args.thread) c.in_ok-push_list_end.ensures
    c.loop-k.invariant.items
    ∙ ap (λ (n : ℕ). map item.Op (rounds round n ++ list_end c.args.thread)) all
