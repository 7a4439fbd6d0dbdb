use Rattle.std.proofs.Common.{◌≡◌, ◌++◌, ◌∙◌, length, map, take, drop, ap, arith}
use Rattle.melt_io.proofs.Images.{written_back}
use Rattle.melt_stripe.specs.Counts.{NoneFell}
use Rattle.melt_stripe.proofs.Counting.{at_fault_kept, count_le, count_rose}
use Rattle.melt_stripe.proofs.striped.StripedReaderRecordReader.read_at.Goals as goal
use Rattle.melt_stripe.proofs.striped.StripedReaderRecordReader.read_at.Goals.{After-read_units}

-- what stands in the vector after the reads
back : (g : _) (c : After-read_units g)
    → take c.self.inside.readers.len
    (c.read_units.new.readers ++ drop (length c.read_units.new.readers) c.self.inside.readers.items)
    ≡ c.read_units.new.readers
back g c = written_back c.self.inside.readers.len c.read_units.new.readers c.self.inside.readers.items
    (c.read_units.auto.readers ∙ c.deref_mut.ensures.len)

fell : (g : _) (c : After-read_units g) → NoneFell (map g.R.RecordReader.faults c.self.inside.readers.items)
    (map g.R.RecordReader.faults (take c.self.inside.readers.len
    (c.read_units.new.readers ++ drop (length c.read_units.new.readers) c.self.inside.readers.items)))
fell g c = rw (back g c) (rw c.deref_mut.ensures.value at c.read_units.ensures.faults)

pub invariant_of-self : goal.invariant_of-self
invariant_of-self g c =
    let at = (goal.at.invariant_of-self g c).After-read_units in
    let size : length (take c.self.inside.readers.len
    (c.read_units.new.readers ++ drop (length c.read_units.new.readers) c.self.inside.readers.items))
    ≡ length c.self.inside.readers.items = ap length (back g at) ∙ c.read_units.auto.readers
    ∙ ap length c.deref_mut.ensures.value in (
      omega (arith, size, c.self.invariant.0),
      omega (arith, size, c.self.invariant.1),
      at_fault_kept c.self.inside.failed _ _ (fell g at) c.self.invariant.2,
    )

pub returns-in-Ok-clause-count : goal.returns-in-Ok-clause-count
returns-in-Ok-clause-count g c =
    rw (← c.self.view_is) (count_le (fell g (goal.at.returns-in-Ok-clause-count g c).After-read_units))

pub returns-in-Err-clause-failed : goal.returns-in-Err-clause-failed
returns-in-Err-clause-failed g c =
    let at = (goal.at.returns-in-Err-clause-failed g c).After-read_units in
    rw (← c.self.view_is) (count_rose _ _ c.in-Err.reader (fell g at)
    (rw (back g at) (rw c.deref_mut.ensures.value at c.in-Err.ensures.failed)))

pub returns-in-Err-clause-count : goal.returns-in-Err-clause-count
returns-in-Err-clause-count g c =
    rw (← c.self.view_is) (count_le (fell g (goal.at.returns-in-Err-clause-count g c).After-read_units))
