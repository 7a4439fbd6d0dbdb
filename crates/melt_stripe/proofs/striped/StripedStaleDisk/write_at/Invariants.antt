use Rattle.std.proofs.Common.{◌≡◌, length, map, take, ◌-◌, ◌≤◌}
use Rattle.melt_io.proofs.Runs.{WritesSoFar}
use Rattle.melt_stripe.specs.Counts.{NoneFell}
use Rattle.melt_stripe.specs.Images.{image_of}
use Rattle.melt_stripe.proofs.striped.StripedStaleDisk.write_at.Given as goal

abbrev pub invariant-loop-done : goal.invariant-loop-done
invariant-loop-done g l =
    let now = l.self-inside.disks.now in
    let first = l.initial.self-inside.disks.now in
    record {
      same_disks : l.self-inside.disks.ghost_name ≡ l.initial.self-inside.disks.ghost_name;
      writes : l.self-inside.writes ≡ l.initial.self-inside.writes;
      lends : l.self-inside.lends ≡ l.initial.self-inside.lends;
      failed : l.self-inside.failed ≡ l.initial.self-inside.failed;
      size : length now ≡ length first;
      within : l.done ≤ length l.words;
      written : WritesSoFar (image_of (map g.D.StaleDisk.image first)) l.at (take l.done l.words)
          (image_of (map g.D.StaleDisk.image now));
      faults : NoneFell (map g.D.StaleDisk.faults first) (map g.D.StaleDisk.faults now);
      read_faults : map g.D.StaleDisk.read_faults now ≡ map g.D.StaleDisk.read_faults first;
    }

abbrev pub decreases-loop-done : goal.decreases-loop-done
decreases-loop-done g l = length l.words - l.done
