use Rattle.std.proofs.Common.{◌+◌, ◌-◌, ◌≤◌, length}
use Rattle.melt_scion.specs.Scions.{IsTable}
use Rattle.melt_copy.proofs.Walking.{IsWalked}
use Rattle.melt_copy.proofs.scions.live_scions.Given as goal

abbrev pub invariant-loop-next : goal.invariant-loop-next
invariant-loop-next g l = record {
  table : IsTable l.scions;
  walked : IsWalked l.scions.live l.live.items l.next;
  visits : l.steps ≤ l.fn.steps + length l.live.items;
}

abbrev pub decreases-loop-next : goal.decreases-loop-next
decreases-loop-next g l = length l.scions.live - length l.live.items
