use Rattle.std.proofs.Common.{ℕ, [], sym, subst}
use Rattle.melt_move.specs.Collecting.{IsFormedOn}
use Rattle.melt_epoch_tests.proofs.Untold.{new_formed}
use Rattle.melt_epoch_tests.proofs.world.World.new.Goals as goal

pub returns : goal.returns
returns g c =
    let heap = c.in_ok-heap.heap in
    subst (λ (end : ℕ). IsFormedOn heap [] end) (sym c.new-disk.ensures.end)
    (new_formed heap c.args.words c.into.result c.into-2.result c.requires c.in_ok-heap.ensures)
