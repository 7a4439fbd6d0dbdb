use Rattle.std.proofs.Common.{◌≡◌, ℕ, ◌+◌, ◌-◌, ◌*◌, [], ◌∷◌, ◌++◌, map, refl, ap, ◌∙◌, arith}
use Rattle.melt_trace.specs.declared.script.Item.TheVariants as item
use Rattle.melt_gen.specs.declared.workload.Workload.TheVariants as workload
use Rattle.melt_gen.specs.Workloads.{drawn, front_round, operations_of, round_of, rounds, state_after}
use Rattle.melt_gen.proofs.Writing.{round_written, written_after}
use Rattle.melt_gen.proofs.programs.queue.Goals as goal

pub loop-k-preserved : goal.loop-k-preserved
loop-k-preserved c =
    let k = c.loop-k.k in
    let front = c.in_ok-push_front.ensures c.args.draws c.loop-k.invariant.draws in
    let round = round_of workload.Queue c.args.thread (drawn c.args.draws) in
    let object = c.new.result ∷ c.put.result ∷ c.gload.result ∷ c.store.result ∷ c.store-in-loop-k.result ∷
    c.gstore.result ∷ [] in
    let more = front_round (2 * c.args.thread) (drawn c.args.draws (k - 1)) k in
    let same : object ++ more ≡ round k =
    rw (
      c.new.ensures,
      c.put.ensures,
      c.from.ensures,
      c.gload.ensures,
      c.store.ensures,
      c.store-in-loop-k.ensures,
      c.gstore.ensures,
    ) refl in
    let both = written_after c.loop-k.items.items _ _ object more front.1 c.in_ok-push_all.ensures in
    let back : k ≡ k + 1 - 1 = omega arith in
    record {
      draws = front.0 ∙ ap (state_after c.args.draws) back;
      items = round_written [] [] round k both same c.loop-k.invariant.items;
    }

pub returns : goal.returns
unfolding operations_of
returns c =
    let round = round_of workload.Queue c.args.thread (drawn c.args.draws) in
    let all : c.loop-k.k ≡ c.args.size = omega arith in
    let ops = c.drop.result ∷ c.drop-2.result ∷ c.drop-3.result ∷ [] in
    written_after [] _ _ (rounds round c.loop-k.k) ops c.in_ok-push_all-2.ensures c.loop-k.invariant.items
    ∙ ap (λ (n : ℕ). map item.Op (rounds round n ++ ops)) all
    ∙ rw (c.drop.ensures, c.drop-2.ensures, c.drop-3.ensures) refl
