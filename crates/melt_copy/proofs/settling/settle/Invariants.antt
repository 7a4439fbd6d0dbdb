use Rattle.std.proofs.Common.{◌≡◌, ◌≤◌}
use Rattle.melt_copy.specs.Settling.{RisesBy, StillTold}
use Rattle.melt_copy.proofs.Settled.{IsSettledSoFar}
use Rattle.melt_copy.proofs.settling.settle.Given as goal

abbrev pub invariant-loop-place : goal.invariant-loop-place
invariant-loop-place g l = record {
  so_far : IsSettledSoFar l.initial.heap l.heap l.initial.space.end (g.D.StaleDisk.image l.initial.space.disk.now)
      (g.D.StaleDisk.image l.space.disk.now) l.place l.settled;
  tells : StillTold (g.D.StaleDisk.image l.initial.space.disk.now) (g.D.StaleDisk.image l.space.disk.now);
  writes : RisesBy l.settled (g.D.StaleDisk.writes l.initial.space.disk.now)
      (g.D.StaleDisk.writes l.space.disk.now);
  count : g.D.StaleDisk.faults l.initial.space.disk.now ≤ g.D.StaleDisk.faults l.space.disk.now;
  read_faults : g.D.StaleDisk.read_faults l.space.disk.now ≡ g.D.StaleDisk.read_faults l.initial.space.disk.now;
  lends : g.D.StaleDisk.lends l.space.disk.now ≡ g.D.StaleDisk.lends l.initial.space.disk.now;
  end : l.space.end ≡ l.initial.space.end;
  limit : l.space.limit ≡ l.initial.space.limit;
  same_disk : l.space.disk.ghost_name ≡ l.initial.space.disk.ghost_name;
}
