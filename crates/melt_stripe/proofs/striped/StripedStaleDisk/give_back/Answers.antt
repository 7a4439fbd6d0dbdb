use Rattle.std.proofs.Common.{◌≡◌, ◌-◌, length, map}
use Rattle.melt_stripe.proofs.Counting.{given_back, named_back}
use Rattle.melt_stripe.proofs.striped.StripedStaleDisk.give_back.Goals as goal

pub invariant_of-self : goal.invariant_of-self
invariant_of-self g c = (
  c.self-2.invariant.0,
  c.self-2.invariant.1,
  rw (c.lower-self-inside.ensures, c.within-failed.ensures)
      (given_back g.D.StaleDisk.faults g.D.StaleDisk.read_faults g.D.Reader.RecordReader.faults c.self.inside.disks.now
      c.self-2.inside.disks.now c.reader.inside.readers.items c.self-2.inside.failed c.reader.inside.failed
      c.self.invariant.0 (rw (← c.self-2.view_is, ← c.self.view_is) at c.give_back_each.ensures.count)
      (rw (← c.self-2.view_is, ← c.self.view_is) at c.give_back_each.ensures.kept)
      (rw (← c.self-2.view_is, ← c.self.view_is) at c.give_back_each.ensures.taken_over) c.self-2.invariant.2
      c.reader.invariant.2),
)

pub returns-clause-named : goal.returns-clause-named
returns-clause-named g c = λ some.
    let before : c.self-2.inside.failed ≡ c.self.inside.failed =
    rw (← c.self-2.view_is, ← c.self.view_is) at c.give_back_each.ensures.failed in
    rw (← c.self.view_is, c.lower-self-inside.ensures, c.within-failed.ensures, before)
    (named_back c.self.inside.failed c.reader.inside.failed
    (map g.D.Reader.RecordReader.faults c.reader.inside.readers.items)
    (map g.D.StaleDisk.read_faults c.self.inside.disks.now) (map g.D.StaleDisk.read_faults c.self-2.inside.disks.now)
    (length c.self.inside.disks.now - 1) c.reader.invariant.2
    (rw (← c.self-2.view_is, ← c.self.view_is) at c.give_back_each.ensures.taken_over)
    (rw (← c.reader.view_is) at some))
