use Rattle.std.proofs.Common.{◌≡◌, ◌+◌, ◌<◌, ◌∙◌, length, map, slice_set, vec_len, Err, ap, arith}
use Rattle.melt_io.specs.declared.outside.LendRefusal.TheVariants as refusal
use Rattle.std.proofs.lemmas.List.{length-set}
use Rattle.melt_stripe.specs.Counts.{NoneFell, RoseOf}
use Rattle.melt_stripe.specs.Images.{image_of}
use Rattle.melt_stripe.proofs.Counting.{at_fault_kept, at_fault_once, both_fell, count_le, count_rose, counted_nothing}
use Rattle.melt_stripe.proofs.Counting.{fell_on, rose_at, rose_on}
use Rattle.melt_stripe.proofs.Disks.{none_fell_on, same_shown}
use Rattle.melt_stripe.proofs.Lending.{faultless_on, lent_on}
use Rattle.melt_stripe.proofs.striped.StripedStaleDisk.lend.Goals as goal
use Rattle.melt_stripe.proofs.striped.StripedStaleDisk.lend.Goals.{After-lend}

size_is : (g : _) (c : After-lend g) → length c.self-in-disks.inside.disks.now ≡ length c.self.inside.disks.now
size_is g c = rw (← c.self-in-disks.view_is) at c.disks.invariant.size

-- the disk that is asked
asked : (g : _) (c : After-lend g) → c.len-disk.result < length c.self-in-disks.inside.disks.now
asked g c = omega (arith, size_is g c, c.len.ensures, c.len-disk.ensures, c.disks-test.true)

-- it shows what it did, and so do all
images : (g : _) (c : After-lend g)
    → map g.D.StaleDisk.image (slice_set c.self-in-disks.inside.disks.now c.len-disk.result c.lend.new.self)
    ≡ map g.D.StaleDisk.image c.self.inside.disks.now
images g c =
    same_shown g.D.StaleDisk.image c.self-in-disks.inside.disks.now c.len-disk.result c.index-self-disk.result
    c.lend.new.self (asked g c) c.lend.ensures.image ∙ rw (← c.self-in-disks.view_is) at c.disks.invariant.image

once_unread : (g : _) (c : After-lend g)
    → map g.D.StaleDisk.read_faults (slice_set c.self-in-disks.inside.disks.now c.len-disk.result c.lend.new.self)
    ≡ map g.D.StaleDisk.read_faults c.self-in-disks.inside.disks.now
once_unread g c =
    same_shown g.D.StaleDisk.read_faults c.self-in-disks.inside.disks.now c.len-disk.result c.index-self-disk.result
    c.lend.new.self (asked g c) c.lend.ensures.read_faults

unread : (g : _) (c : After-lend g)
    → map g.D.StaleDisk.read_faults (slice_set c.self-in-disks.inside.disks.now c.len-disk.result c.lend.new.self)
    ≡ map g.D.StaleDisk.read_faults c.self.inside.disks.now
unread g c = once_unread g c ∙ rw (← c.self-in-disks.view_is) at c.disks.invariant.read_faults

once_fell : (g : _) (c : After-lend g) → NoneFell (map g.D.StaleDisk.faults c.self-in-disks.inside.disks.now)
    (map g.D.StaleDisk.faults (slice_set c.self-in-disks.inside.disks.now c.len-disk.result c.lend.new.self))
once_fell g c =
    none_fell_on g.D.StaleDisk.faults c.self-in-disks.inside.disks.now c.len-disk.result c.index-self-disk.result
    c.lend.new.self (asked g c) c.lend.ensures.count

fell_before : (g : _) (c : After-lend g) → NoneFell (map g.D.StaleDisk.faults c.self.inside.disks.now)
    (map g.D.StaleDisk.faults c.self-in-disks.inside.disks.now)
fell_before g c = rw (← c.self-in-disks.view_is) at c.disks.invariant.faults

fell : (g : _) (c : After-lend g) → NoneFell (map g.D.StaleDisk.faults c.self.inside.disks.now)
    (map g.D.StaleDisk.faults (slice_set c.self-in-disks.inside.disks.now c.len-disk.result c.lend.new.self))
fell g c = fell_on (fell_before g c) (once_fell g c)

pub disks-preserved : goal.disks-preserved
disks-preserved g c =
    let at = (goal.at.disks-preserved g c).After-lend in
    let disks = c.self-in-disks.inside.disks.now in
    let d = c.len-disk.result in
    let past = c.index-self-disk.result in
    let new = c.lend.new.self in
    let one : vec_len c.push_reserved.new.self ≡ d + 1 =
    omega (arith, c.push_reserved.ensures.len, c.len-disk.ensures) in
    record {
      same_disks = rw (← c.self-in-disks.view_is) at c.disks.invariant.same_disks;
      writes = rw (← c.self-in-disks.view_is) at c.disks.invariant.writes;
      lends = rw (← c.self-in-disks.view_is) at c.disks.invariant.lends;
      failed = rw (← c.self-in-disks.view_is) at c.disks.invariant.failed;
      size = length-set disks d new ∙ size_is g at;
      capacity = c.push_reserved.ensures.capacity ∙ c.disks.invariant.capacity;
      within = omega (arith, c.push_reserved.ensures.len, c.disks-test.true, c.len.ensures);
      lent = rw one (lent_on g.D.StaleDisk.image g.D.Reader.RecordReader.image disks c.self.inside.disks.now d past
          c.disks.readers.items c.push_reserved.new.self.items c.in-Ok.reader (asked g at)
          (rw (← c.self-in-disks.view_is) at c.disks.invariant.image) c.push_reserved.ensures.items
          c.in-Ok.ensures.lent (rw (← c.len-disk.ensures) at c.disks.invariant.lent));
      no_fault_yet = faultless_on g.D.Reader.RecordReader.faults c.disks.readers.items
          c.push_reserved.new.self.items c.in-Ok.reader c.push_reserved.ensures.items c.in-Ok.ensures.no_fault_yet
          c.disks.invariant.no_fault_yet;
      image = images g at;
      faults = fell g at;
      read_faults = unread g at;
    }

pub invariant_of-self-in-Ok : goal.invariant_of-self-in-Ok
invariant_of-self-in-Ok g c =
    let at = (goal.at.invariant_of-self-in-Ok g c).After-lend in
    let disks = c.self-in-disks.inside.disks.now in
    let new = slice_set disks c.len-disk.result c.lend.new.self in (
      omega (arith, length-set disks c.len-disk.result c.lend.new.self, c.self-in-disks.invariant.0),
      omega (arith, length-set disks c.len-disk.result c.lend.new.self, c.self-in-disks.invariant.1),
      at_fault_kept c.self-in-disks.inside.failed _ _
          (both_fell g.D.StaleDisk.faults g.D.StaleDisk.read_faults disks new (once_fell g at) (once_unread g at))
          c.self-in-disks.invariant.2,
    )

pub returns-clause-count : goal.returns-clause-count
returns-clause-count g c = rw (← c.self.view_is) (count_le c.disks.invariant.faults)

-- where it refused since it failed
once_rose : (g : _) (c : After-lend g) → c.lend.result ≡ Err refusal.Failed
    → RoseOf (map g.D.StaleDisk.faults c.self-in-disks.inside.disks.now)
    (map g.D.StaleDisk.faults (slice_set c.self-in-disks.inside.disks.now c.len-disk.result c.lend.new.self))
    c.len-disk.result
once_rose g c is =
    rose_at g.D.StaleDisk.faults c.self-in-disks.inside.disks.now c.len-disk.result c.index-self-disk.result
    c.lend.new.self (asked g c) (c.lend.ensures.failed is)

rose : (g : _) (c : After-lend g) → c.lend.result ≡ Err refusal.Failed
    → RoseOf (map g.D.StaleDisk.faults c.self.inside.disks.now)
    (map g.D.StaleDisk.faults (slice_set c.self-in-disks.inside.disks.now c.len-disk.result c.lend.new.self))
    c.len-disk.result
rose g c is = rose_on c.len-disk.result (fell_before g c) (once_fell g c) (once_rose g c is)

pub invariant_of-self-in-Err-Failed : goal.invariant_of-self-in-Err-Failed
invariant_of-self-in-Err-Failed g c =
    let at = (goal.at.invariant_of-self-in-Err-Failed g c).After-lend in
    let disks = c.self-in-disks.inside.disks.now in
    let d = c.len-disk.result in
    let new = c.lend.new.self in (
      omega (arith, length-set disks d new, c.self-in-disks.invariant.0),
      omega (arith, length-set disks d new, c.self-in-disks.invariant.1),
      rw c.lower-self-inside.ensures
          (at_fault_once g.D.StaleDisk.faults g.D.StaleDisk.read_faults disks d c.index-self-disk.result new
          c.self-in-disks.inside.failed (asked g at) (once_fell g at)
          (once_rose g at (rw c.in-Err-Failed.field-0-is at c.in-Err-Failed.is)) (once_unread g at)
          c.self-in-disks.invariant.2),
    )

pub returns-in-Err-Failed-clause-image : goal.returns-in-Err-Failed-clause-image
returns-in-Err-Failed-clause-image g c =
    let at = (goal.at.returns-in-Err-Failed-clause-image g c).After-lend in
    rw (← c.self.view_is) (ap image_of (c.give_back_each.ensures.image ∙ images g at))

pub returns-in-Err-Failed-clause-failed : goal.returns-in-Err-Failed-clause-failed
returns-in-Err-Failed-clause-failed g c = λ is.
    let at = (goal.at.returns-in-Err-Failed-clause-failed g c).After-lend in
    rw (← c.self.view_is, c.give_back_each.ensures.count)
    (count_rose _ _ c.len-disk.result (fell g at) (rose g at (rw c.in-Err-Failed.field-0-is at c.in-Err-Failed.is)))

pub returns-in-Err-Failed-clause-count : goal.returns-in-Err-Failed-clause-count
returns-in-Err-Failed-clause-count g c =
    let at = (goal.at.returns-in-Err-Failed-clause-count g c).After-lend in
    rw (← c.self.view_is, c.give_back_each.ensures.count) (count_le (fell g at))

pub returns-in-Err-Failed-clause-read_faults : goal.returns-in-Err-Failed-clause-read_faults
returns-in-Err-Failed-clause-read_faults g c =
    let at = (goal.at.returns-in-Err-Failed-clause-read_faults g c).After-lend in
    rw (← c.self.view_is)
    (counted_nothing _ _ (map g.D.Reader.RecordReader.faults c.disks.readers.items) _ (unread g at)
    c.disks.invariant.no_fault_yet c.give_back_each.ensures.read_faults)

pub returns-in-Err-Failed-clause-named : goal.returns-in-Err-Failed-clause-named
returns-in-Err-Failed-clause-named g c = λ is.
    let at = (goal.at.returns-in-Err-Failed-clause-named g c).After-lend in
    let before : c.self-in-disks.inside.failed ≡ c.self.inside.failed =
    rw (← c.self-in-disks.view_is) at c.disks.invariant.failed in
    rw (← c.self.view_is, c.give_back_each.ensures.count) (record {
      disk = c.len-disk.result;
      rose = rose g at (rw c.in-Err-Failed.field-0-is at c.in-Err-Failed.is);
      lower = rw (← c.give_back_each.ensures.failed, before) at c.lower-self-inside.ensures;
    })

pub returns-in-Err-Failed-clause-faults : goal.returns-in-Err-Failed-clause-faults
returns-in-Err-Failed-clause-faults g c =
    let at = (goal.at.returns-in-Err-Failed-clause-faults g c).After-lend in
    rw (← c.self.view_is, c.give_back_each.ensures.count) (fell g at)

pub invariant_of-self-in-Err-NoMemory : goal.invariant_of-self-in-Err-NoMemory
invariant_of-self-in-Err-NoMemory g c =
    let at = (goal.at.invariant_of-self-in-Err-NoMemory g c).After-lend in
    let disks = c.self-in-disks.inside.disks.now in
    let new = slice_set disks c.len-disk.result c.lend.new.self in (
      omega (arith, length-set disks c.len-disk.result c.lend.new.self, c.self-in-disks.invariant.0),
      omega (arith, length-set disks c.len-disk.result c.lend.new.self, c.self-in-disks.invariant.1),
      at_fault_kept c.self-in-disks.inside.failed _ _
          (both_fell g.D.StaleDisk.faults g.D.StaleDisk.read_faults disks new (once_fell g at) (once_unread g at))
          c.self-in-disks.invariant.2,
    )

pub returns-in-Err-NoMemory-clause-image : goal.returns-in-Err-NoMemory-clause-image
returns-in-Err-NoMemory-clause-image g c =
    let at = (goal.at.returns-in-Err-NoMemory-clause-image g c).After-lend in
    rw (← c.self.view_is) (ap image_of (c.give_back_each-in-Err-NoMemory.ensures.image ∙ images g at))

pub returns-in-Err-NoMemory-clause-count : goal.returns-in-Err-NoMemory-clause-count
returns-in-Err-NoMemory-clause-count g c =
    let at = (goal.at.returns-in-Err-NoMemory-clause-count g c).After-lend in
    rw (← c.self.view_is, c.give_back_each-in-Err-NoMemory.ensures.count) (count_le (fell g at))

pub returns-in-Err-NoMemory-clause-read_faults : goal.returns-in-Err-NoMemory-clause-read_faults
returns-in-Err-NoMemory-clause-read_faults g c =
    let at = (goal.at.returns-in-Err-NoMemory-clause-read_faults g c).After-lend in
    rw (← c.self.view_is)
    (counted_nothing _ _ (map g.D.Reader.RecordReader.faults c.disks.readers.items) _ (unread g at)
    c.disks.invariant.no_fault_yet c.give_back_each-in-Err-NoMemory.ensures.read_faults)

pub returns-in-Err-NoMemory-clause-faults : goal.returns-in-Err-NoMemory-clause-faults
returns-in-Err-NoMemory-clause-faults g c =
    let at = (goal.at.returns-in-Err-NoMemory-clause-faults g c).After-lend in
    rw (← c.self.view_is, c.give_back_each-in-Err-NoMemory.ensures.count) (fell g at)
