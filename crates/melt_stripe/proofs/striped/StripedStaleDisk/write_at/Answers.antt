use Rattle.std.proofs.Common.{◌≡◌, ◌+◌, ◌-◌, ◌<◌, ◌∙◌, length, map, take, drop, slice_set, refl, ap, arith}
use Rattle.std.proofs.Common.{length-drop, length-take}
use Rattle.std.proofs.lemmas.List.{length-map, length-set, length-take-le}
use Rattle.melt_stripe.specs.Counts.{NoneFell, RoseOf, count_of}
use Rattle.melt_stripe.specs.Units.{disk_of}
use Rattle.melt_stripe.proofs.Places.{disk_below}
use Rattle.melt_stripe.proofs.Counting.{at_fault_kept, at_fault_more, both_fell, both_some, count_le, count_rose}
use Rattle.melt_stripe.proofs.Counting.{fell_on, rose_at, rose_on, rose_some}
use Rattle.melt_stripe.proofs.Disks.{IsCall, call_keeps, call_writes, none_fell_on, same_shown}
use Rattle.melt_stripe.proofs.Pieces.{keeps_on, writes_on}
use Rattle.melt_stripe.proofs.striped.StripedStaleDisk.write_at.Goals as goal
use Rattle.melt_stripe.proofs.striped.StripedStaleDisk.write_at.Goals.{After-write_at, In-Err}

run_length : (g : _) (c : After-write_at g)
    → length (take (c.min-end.result - c.loop-done.done) (drop c.loop-done.done c.args.words.now))
    ≡ c.min-end.result - c.loop-done.done
run_length g c = simp (length-take, length-drop) (omega arith)

-- the call of the disk on which the words of a unit lie
called : (g : _) (c : After-write_at g)
    → IsCall c.loop-done.self-inside.disks.now c.disk_of-disk.result c.place_of.result (c.args.at + c.loop-done.done)
    (length (take (c.min-end.result - c.loop-done.done) (drop c.loop-done.done c.args.words.now)))
called g c =
    let run = run_length g c in
    let some : 0 < length c.loop-done.self-inside.disks.now =
    omega (arith, c.loop-done.invariant.size, c.self.invariant.0) in
    let disk : c.disk_of-disk.result
    ≡ disk_of (length c.loop-done.self-inside.disks.now) (c.args.at + c.loop-done.done) =
    rw c.loop-done.invariant.size c.disk_of-disk.ensures in
    record {
      some = some;
      more = omega (arith, run, c.left_in_unit.ensures);
      unit = omega (arith, run, c.left_in_unit.ensures);
      disk = disk;
      place = rw c.loop-done.invariant.size c.place_of.ensures;
      below = rw disk (disk_below (length c.loop-done.self-inside.disks.now) (c.args.at + c.loop-done.done) some);
    }

pub loop-done-preserved : goal.loop-done-preserved
loop-done-preserved g c =
    let at = (goal.at.loop-done-preserved g c).After-write_at in
    let disks = c.loop-done.self-inside.disks.now in
    let d = c.disk_of-disk.result in
    let past = c.index-self-disk.result in
    let new = c.write_at.new.self in
    let call = called g at in
    let words = c.args.words.now in
    let end = c.min-end.result in
    let run = take (end - c.loop-done.done) (drop c.loop-done.done words) in
    record {
      same_disks = c.loop-done.invariant.same_disks;
      writes = c.loop-done.invariant.writes;
      lends = c.loop-done.invariant.lends;
      failed = c.loop-done.invariant.failed;
      size = length-set disks d new ∙ c.loop-done.invariant.size;
      within = omega arith;
      written = writes_on _ _ _ c.args.at words end (omega (arith, c.left_in_unit.ensures)) (omega arith)
          c.loop-done.invariant.written
          (call_writes g.D.StaleDisk.image disks d c.place_of.result (c.args.at + c.loop-done.done) (length run) past
          call run new refl c.in-Ok.ensures.written);
      faults = fell_on c.loop-done.invariant.faults
          (none_fell_on g.D.StaleDisk.faults disks d past new call.below c.in-Ok.ensures.count);
      read_faults = same_shown g.D.StaleDisk.read_faults disks d past new call.below c.in-Ok.ensures.read_faults
          ∙ c.loop-done.invariant.read_faults;
    }

pub invariant_of-self : goal.invariant_of-self
invariant_of-self g c =
    let first = c.self.inside.disks.now in
    let now = c.loop-done.self-inside.disks.now in
    let fell = both_fell g.D.StaleDisk.faults g.D.StaleDisk.read_faults first now c.loop-done.invariant.faults
    c.loop-done.invariant.read_faults in (
      omega (arith, c.loop-done.invariant.size, c.self.invariant.0),
      omega (arith, c.loop-done.invariant.size, c.self.invariant.1),
      rw c.loop-done.invariant.failed (at_fault_kept c.self.inside.failed _ _ fell c.self.invariant.2),
    )

pub returns-clause-count : goal.returns-clause-count
returns-clause-count g c = rw (← c.self.view_is) (count_le c.loop-done.invariant.faults)

-- where the write of a disk failed
fell : (g : _) (c : In-Err g) → IsCall c.loop-done.self-inside.disks.now c.disk_of-disk.result c.place_of.result
    (c.args.at + c.loop-done.done)
    (length (take (c.min-end.result - c.loop-done.done) (drop c.loop-done.done c.args.words.now)))
    → NoneFell (map g.D.StaleDisk.faults c.self.inside.disks.now)
    (map g.D.StaleDisk.faults (slice_set c.loop-done.self-inside.disks.now c.disk_of-disk.result c.write_at.new.self))
fell g c call =
    fell_on c.loop-done.invariant.faults
    (none_fell_on g.D.StaleDisk.faults c.loop-done.self-inside.disks.now c.disk_of-disk.result c.index-self-disk.result
    c.write_at.new.self call.below c.in-Err.ensures.count)

rose : (g : _) (c : In-Err g) → IsCall c.loop-done.self-inside.disks.now c.disk_of-disk.result c.place_of.result
    (c.args.at + c.loop-done.done)
    (length (take (c.min-end.result - c.loop-done.done) (drop c.loop-done.done c.args.words.now)))
    → RoseOf (map g.D.StaleDisk.faults c.self.inside.disks.now)
    (map g.D.StaleDisk.faults (slice_set c.loop-done.self-inside.disks.now c.disk_of-disk.result c.write_at.new.self))
    c.disk_of-disk.result
rose g c call =
    let disks = c.loop-done.self-inside.disks.now in
    let d = c.disk_of-disk.result in
    let past = c.index-self-disk.result in
    let new = c.write_at.new.self in
    let once = none_fell_on g.D.StaleDisk.faults disks d past new call.below c.in-Err.ensures.count in
    rose_on d c.loop-done.invariant.faults once
    (rose_at g.D.StaleDisk.faults disks d past new call.below c.in-Err.ensures.failed)

unread : (g : _) (c : In-Err g) → IsCall c.loop-done.self-inside.disks.now c.disk_of-disk.result c.place_of.result
    (c.args.at + c.loop-done.done)
    (length (take (c.min-end.result - c.loop-done.done) (drop c.loop-done.done c.args.words.now)))
    → map g.D.StaleDisk.read_faults
    (slice_set c.loop-done.self-inside.disks.now c.disk_of-disk.result c.write_at.new.self)
    ≡ map g.D.StaleDisk.read_faults c.self.inside.disks.now
unread g c call =
    same_shown g.D.StaleDisk.read_faults c.loop-done.self-inside.disks.now c.disk_of-disk.result
    c.index-self-disk.result c.write_at.new.self call.below c.in-Err.ensures.read_faults
    ∙ c.loop-done.invariant.read_faults

pub invariant_of-self-in-Err : goal.invariant_of-self-in-Err
invariant_of-self-in-Err g c =
    let at = (goal.at.invariant_of-self-in-Err g c).In-Err in
    let call = called g (goal.at.invariant_of-self-in-Err g c).After-write_at in
    let d = c.disk_of-disk.result in
    let first = c.self.inside.disks.now in
    let disks = c.loop-done.self-inside.disks.now in
    let new = c.write_at.new.self in
    let size = length-set disks d new in
    let both = both_fell g.D.StaleDisk.faults g.D.StaleDisk.read_faults first (slice_set disks d new) (fell g at call)
    (unread g at call) in
    let rises = rose_some _ _ d (fell g at call) (rose g at call) in
    let below = rw (
      ← length-set disks d new,
      ← length-map (slice_set disks d new)
          (λ disk. g.D.StaleDisk.faults disk + g.D.StaleDisk.read_faults disk),
    ) at call.below in (
      omega (arith, size, c.loop-done.invariant.size, c.self.invariant.0),
      omega (arith, size, c.loop-done.invariant.size, c.self.invariant.1),
      rw (c.lower-self-inside.ensures, c.loop-done.invariant.failed)
          (at_fault_more c.self.inside.failed _ _ d both below
          (both_some g.D.StaleDisk.faults g.D.StaleDisk.read_faults (slice_set disks d new) d (omega (arith, rises)))
          c.self.invariant.2),
    )

pub returns-in-Err-clause-others : goal.returns-in-Err-clause-others
returns-in-Err-clause-others g c =
    let at = (goal.at.returns-in-Err-clause-others g c).After-write_at in
    let call = called g at in
    let words = c.args.words.now in
    let done = c.loop-done.done in
    let run = take (c.min-end.result - done) (drop done words) in
    let long = run_length g at in
    rw (← c.self.view_is)
    (keeps_on _ _ _ c.args.at (take done words) (length run) (length-take-le done words c.loop-done.invariant.within)
    (omega (arith, long)) c.loop-done.invariant.written
    (call_keeps g.D.StaleDisk.image c.loop-done.self-inside.disks.now c.disk_of-disk.result c.place_of.result
    (c.args.at + done) (length run) c.index-self-disk.result call c.write_at.new.self c.in-Err.ensures.others))

pub returns-in-Err-clause-failed : goal.returns-in-Err-clause-failed
returns-in-Err-clause-failed g c =
    let at = (goal.at.returns-in-Err-clause-failed g c).In-Err in
    let call = called g (goal.at.returns-in-Err-clause-failed g c).After-write_at in
    rw (← c.self.view_is) (count_rose _ _ c.disk_of-disk.result (fell g at call) (rose g at call))

pub returns-in-Err-clause-count : goal.returns-in-Err-clause-count
returns-in-Err-clause-count g c =
    let at = (goal.at.returns-in-Err-clause-count g c).In-Err in
    let call = called g (goal.at.returns-in-Err-clause-count g c).After-write_at in
    rw (← c.self.view_is) (count_le (fell g at call))

pub returns-in-Err-clause-read_faults : goal.returns-in-Err-clause-read_faults
returns-in-Err-clause-read_faults g c =
    let at = (goal.at.returns-in-Err-clause-read_faults g c).In-Err in
    let call = called g (goal.at.returns-in-Err-clause-read_faults g c).After-write_at in
    rw (← c.self.view_is) (ap count_of (unread g at call))

pub returns-in-Err-clause-named : goal.returns-in-Err-clause-named
returns-in-Err-clause-named g c =
    let at = (goal.at.returns-in-Err-clause-named g c).In-Err in
    let call = called g (goal.at.returns-in-Err-clause-named g c).After-write_at in
    rw (← c.self.view_is) (record {
      disk = c.disk_of-disk.result;
      rose = rose g at call;
      lower = rw c.loop-done.invariant.failed at c.lower-self-inside.ensures;
    })

pub returns-in-Err-clause-faults : goal.returns-in-Err-clause-faults
returns-in-Err-clause-faults g c =
    let at = (goal.at.returns-in-Err-clause-faults g c).In-Err in
    let call = called g (goal.at.returns-in-Err-clause-faults g c).After-write_at in
    rw (← c.self.view_is) (fell g at call)

pub returns-in-Err-clause-each_read : goal.returns-in-Err-clause-each_read
returns-in-Err-clause-each_read g c =
    let at = (goal.at.returns-in-Err-clause-each_read g c).In-Err in
    let call = called g (goal.at.returns-in-Err-clause-each_read g c).After-write_at in
    rw (← c.self.view_is) (unread g at call)
