use Rattle.std.proofs.Common.{◌≡◌, ℕ, length, take}
use Rattle.std.specs.Prelude.{Some, slice_get, vec_capacity}
use Rattle.melt_epoch.specs.declared.mutator.Mutator.{Mutator}
use Rattle.melt_safepoint.specs.declared.thread.ThreadState.{ThreadState}
use Rattle.melt_pool.specs.Arming.{CountsReaders}
use Rattle.melt_pool.specs.Workers.{Brings}
use Rattle.melt_pool.specs.declared.worker.Worker.{Worker}
use Rattle.melt_pool.proofs.Armed.{DoneBelow, HeldAt, TakenAt}
use Rattle.melt_pool.proofs.arming.take_back.Given as goal

abbrev pub invariant-loop-k : goal.invariant-loop-k
invariant-loop-k g l = record {
  taken : DoneBelow TakenAt l.k l.fn.mutators l.mutators;
  held : DoneBelow (HeldAt l.fn.mutators) l.k l.fn.registers l.registers;
  many : length l.states.items ≡ l.k;
  brought : (t : ℕ) (m : Mutator (Worker g.row.D-Reader.Denot)) (s : ThreadState) → slice_get l.fn.mutators t ≡ Some m
      → slice_get l.states.items t ≡ Some s → Brings m s;
  room : vec_capacity l.states ≡ vec_capacity l.fn.states;
  reads : CountsReaders g.D.Reader.RecordReader.faults (take l.k l.fn.mutators)
      (g.D.StaleDisk.read_faults l.fn.space.disk.now) (g.D.StaleDisk.read_faults l.space.disk.now);
  image : g.D.StaleDisk.image l.space.disk.now ≡ g.D.StaleDisk.image l.fn.space.disk.now;
  count : g.D.StaleDisk.faults l.space.disk.now ≡ g.D.StaleDisk.faults l.fn.space.disk.now;
  lends : g.D.StaleDisk.lends l.space.disk.now ≡ g.D.StaleDisk.lends l.fn.space.disk.now;
  writes : g.D.StaleDisk.writes l.space.disk.now ≡ g.D.StaleDisk.writes l.fn.space.disk.now;
  end : l.space.end ≡ l.fn.space.end;
  limit : l.space.limit ≡ l.fn.space.limit;
  same_disk : l.space.disk.ghost_name ≡ l.fn.space.disk.ghost_name;
}
