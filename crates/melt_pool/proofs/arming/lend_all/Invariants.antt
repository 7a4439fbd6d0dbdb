use Rattle.std.proofs.Common.{◌≡◌, ◌≤◌}
use Rattle.melt_safepoint.specs.Lends.{LendsAtMost}
use Rattle.melt_pool.proofs.Armed.{DoneBelow, LentAt}
use Rattle.melt_pool.proofs.arming.lend_all.Given as goal

abbrev pub invariant-loop-k : goal.invariant-loop-k
invariant-loop-k g l = record {
  done : DoneBelow (LentAt g.D.Reader.RecordReader.image g.D.Reader.RecordReader.faults
      (g.D.StaleDisk.image l.fn.space.disk.now) l.registers) l.k l.fn.mutators l.mutators;
  image : g.D.StaleDisk.image l.space.disk.now ≡ g.D.StaleDisk.image l.fn.space.disk.now;
  count : g.D.StaleDisk.faults l.fn.space.disk.now ≤ g.D.StaleDisk.faults l.space.disk.now;
  read_faults : g.D.StaleDisk.read_faults l.space.disk.now ≡ g.D.StaleDisk.read_faults l.fn.space.disk.now;
  lends : LendsAtMost l.k (g.D.StaleDisk.lends l.fn.space.disk.now) (g.D.StaleDisk.lends l.space.disk.now);
  writes : g.D.StaleDisk.writes l.space.disk.now ≡ g.D.StaleDisk.writes l.fn.space.disk.now;
  end : l.space.end ≡ l.fn.space.end;
  limit : l.space.limit ≡ l.fn.space.limit;
  same_disk : l.space.disk.ghost_name ≡ l.fn.space.disk.ghost_name;
}
