use Rattle.std.proofs.Common.{◌≡◌, ℕ, ◌+◌, ◌/◌, [], ◌∷◌, ◌++◌, map, refl, ap, ◌∙◌, arith}
use Rattle.melt_trace.specs.declared.script.Item.TheVariants as item
use Rattle.melt_gen.specs.declared.workload.Workload.TheVariants as workload
use Rattle.melt_gen.specs.Workloads.{drawn, look_round, operations_of, round_of, rounds, table_start}
use Rattle.melt_gen.proofs.Writing.{round_written, written_after, draw_is, next_state_is}
use Rattle.melt_gen.proofs.programs.table.Goals as goal

pub loop-k-preserved : goal.loop-k-preserved
loop-k-preserved c =
    let k = c.loop-k.k in
    let n = k + k / 16 in
    let state = c.loop-k.invariant.draws in
    let word = draw_is c.args.draws n _ _ _ c.next_word.ensures state in
    let look = c.in_ok-push_look.ensures c.args.draws (next_state_is c.args.draws n _ _ _ c.next_word.ensures state) in
    let round = round_of workload.Table c.args.thread (drawn c.args.draws) in
    let object = c.gload.result ∷ c.new-in-loop-k.result ∷ c.put.result ∷ c.load.result ∷ c.store.result ∷
    c.store-in-loop-k.result ∷ [] in
    let more = look_round (drawn c.args.draws (n + 1)) k in
    let same : object ++ more ≡ round k =
    rw (
      c.gload.ensures,
      c.new-in-loop-k.ensures,
      c.put.ensures,
      c.from.ensures,
      c.load.ensures,
      c.store.ensures,
      c.store-in-loop-k.ensures,
      ← word,
    ) refl in
    let both = written_after c.loop-k.items.items _ _ object more look.1 c.in_ok-push_all-2.ensures in
    record {
      draws = look.0;
      items = round_written [] (table_start c.args.thread) round k both same c.loop-k.invariant.items;
    }

pub returns : goal.returns
unfolding operations_of
returns c =
    let round = round_of workload.Table c.args.thread (drawn c.args.draws) in
    let all : c.loop-k.k ≡ c.args.size = omega arith in
    let ops = c.drop.result ∷ c.drop-2.result ∷ c.drop-3.result ∷ [] in
    written_after [] _ _ (table_start c.args.thread ++ rounds round c.loop-k.k) ops c.in_ok-push_all-3.ensures
    c.loop-k.invariant.items
    ∙ ap (λ (n : ℕ). map item.Op ((table_start c.args.thread ++ rounds round n) ++ ops)) all
    ∙ rw (c.drop.ensures, c.drop-2.ensures, c.drop-3.ensures) refl
