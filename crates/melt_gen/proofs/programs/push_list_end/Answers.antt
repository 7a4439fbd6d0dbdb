use Rattle.std.proofs.Common.{[], ◌∷◌, rules}
use Rattle.melt_model.specs.declared.operations.Op.TheVariants as op
use Rattle.melt_gen.proofs.Writing.{round_written}
use Rattle.melt_gen.proofs.programs.push_list_end.Goals as goal

pub loop-turn-preserved : goal.loop-turn-preserved
loop-turn-preserved c =
    round_written c.args.items.now.items (op.GLoad 1 c.args.thread ∷ op.Get 1 0 ∷ [])
    (λ i. op.Load 1 1 0 ∷ op.Get 1 0 ∷ []) c.loop-turn._turn {ops = c.load.result ∷ c.get-in-loop-turn.result ∷ []}
    c.in_ok-push_all-2.ensures (search rules) c.loop-turn.invariant
