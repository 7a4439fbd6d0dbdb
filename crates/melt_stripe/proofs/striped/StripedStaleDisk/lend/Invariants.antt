use Rattle.std.proofs.Common.{◌≡◌, length, map, sum, take, vec_len, ◌-◌, ◌≤◌}
use Rattle.std.specs.Vec.{vec_capacity}
use Rattle.melt_stripe.specs.Counts.{NoneFell}
use Rattle.melt_stripe.proofs.striped.StripedStaleDisk.lend.Given as goal

abbrev pub invariant-disks : goal.invariant-disks
invariant-disks g l =
    let now = l.self.disks.now in
    let first = l.initial.self.disks.now in
    record {
      same_disks : l.self.disks.ghost_name ≡ l.initial.self.disks.ghost_name;
      writes : l.self.writes ≡ l.initial.self.writes;
      lends : l.self.lends ≡ l.initial.self.lends;
      failed : l.self.failed ≡ l.initial.self.failed;
      size : length now ≡ length first;
      capacity : vec_capacity l.readers ≡ length first;
      within : vec_len l.readers ≤ length first;
      lent : map g.D.Reader.RecordReader.image l.readers.items
          ≡ take (vec_len l.readers) (map g.D.StaleDisk.image first);
      no_fault_yet : sum (map g.D.Reader.RecordReader.faults l.readers.items) ≡ 0;
      image : map g.D.StaleDisk.image now ≡ map g.D.StaleDisk.image first;
      faults : NoneFell (map g.D.StaleDisk.faults first) (map g.D.StaleDisk.faults now);
      read_faults : map g.D.StaleDisk.read_faults now ≡ map g.D.StaleDisk.read_faults first;
    }

abbrev pub decreases-disks : goal.decreases-disks
decreases-disks g l = length l.initial.self.disks.now - vec_len l.readers
