use Rattle.std.proofs.Common.{◌≡◌, ◌++◌, ◌∷◌, [], map}
use Rattle.melt_model.specs.declared.operations.Op.TheVariants as op
use Rattle.melt_trace.specs.declared.script.Item.TheVariants as item
use Rattle.melt_gen.specs.Workloads.{rounds}
use Rattle.melt_gen.proofs.programs.push_list_end.Given as goal

abbrev pub invariant-loop-turn : goal.invariant-loop-turn
invariant-loop-turn l = l.items.items ≡ l.fn.items.items
    ++ map item.Op (op.GLoad 1 l.thread ∷ op.Get 1 0 ∷ [] ++ rounds (λ i. op.Load 1 1 0 ∷ op.Get 1 0 ∷ []) l._turn)
