use Rattle.std.proofs.Common.{◌≡◌, ℕ, ◌-◌, ◌<◌, ◌≤◌, length, map, min, take, slice_index}
use Rattle.melt_io.specs.Outside.{counted}
use Rattle.melt_stripe.specs.Counts.{NoneLost, RoseOf, count_of}
use Rattle.melt_stripe.proofs.striped.StripedGivesBackReader.give_back_each.Given as goal

abbrev pub invariant-loop-reader : goal.invariant-loop-reader
invariant-loop-reader g l =
    let now = l.self-inside.disks.now in
    let first = l.initial.self-inside.disks.now in
    record {
      same_disks : l.self-inside.disks.ghost_name ≡ l.initial.self-inside.disks.ghost_name;
      writes : l.self-inside.writes ≡ l.initial.self-inside.writes;
      lends : l.self-inside.lends ≡ l.initial.self-inside.lends;
      failed : l.self-inside.failed ≡ l.initial.self-inside.failed;
      size : length now ≡ length first;
      image : map g.D.StaleDisk.image now ≡ map g.D.StaleDisk.image first;
      count : map g.D.StaleDisk.faults now ≡ map g.D.StaleDisk.faults first;
      read_faults : counted (count_of (map g.D.StaleDisk.read_faults now))
          (count_of (map g.D.Reader.RecordReader.faults l.readers.items))
          ≡ counted (count_of (map g.D.StaleDisk.read_faults first))
          (count_of (map g.D.Reader.RecordReader.faults l.initial.readers.items));
      kept : NoneLost (map g.D.StaleDisk.read_faults first) (map g.D.StaleDisk.read_faults now);
      front : l.readers.items ≡ take (length l.readers.items) l.initial.readers.items;
      taken_over : (reader : ℕ) → length l.readers.items ≤ reader
          → 0 < slice_index (map g.D.Reader.RecordReader.faults l.initial.readers.items) reader
          → RoseOf (map g.D.StaleDisk.read_faults first) (map g.D.StaleDisk.read_faults now)
          (min reader (length first - 1));
    }

abbrev pub decreases-loop-reader : goal.decreases-loop-reader
decreases-loop-reader g l = length l.readers.items
