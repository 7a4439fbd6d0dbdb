use Rattle.std.proofs.Common.{◌≡◌, ℕ, [], ◌∷◌, ◌++◌, take}
use Rattle.std.specs.Prelude.{codes}
use Rattle.std.specs.List.{flat_map}
use Rattle.melt_text.specs.Printed.{line}
use Rattle.melt_trace.proofs.printing.push_orders.Given as goal

abbrev pub invariant-loop-thread : goal.invariant-loop-thread
invariant-loop-thread l =
    l.out.items ≡ l.fn.out.items ++ flat_map (λ (order : ℕ × ℕ). line (codes "order") (order.0 ∷ order.1 ∷ []))
    (take l.thread-index l.orders)
