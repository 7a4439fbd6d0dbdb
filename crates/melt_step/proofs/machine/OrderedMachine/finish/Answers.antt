-- The heap is left, in which all stands as before.
use Rattle.melt_core.specs.Views.{view}
use Rattle.melt_step.proofs.Stored.{leaves_stored}
use Rattle.melt_step.proofs.machine.OrderedMachine.finish.Goals as goal

pub returns : goal.returns
returns g c = record {
  left = leaves_stored _ (view c.args.self.core) _ _ c.left_of.result c.left_of.ensures.heap c.left_of.ensures.history
      c.finish-heap.ensures.finished c.finish-heap.ensures.within c.finish-heap.ensures.rests;
  stores = c.left_of.ensures.log;
}
