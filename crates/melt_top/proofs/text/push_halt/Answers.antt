use Rattle.melt_top.proofs.text.push_halt.Goals as goal

pub returns-in-DiskFull : goal.returns-in-DiskFull
returns-in-DiskFull c =
    rw (c.in-DiskFull.is, ← c.from.ensures, ← c.from-in-DiskFull.ensures, ← c.from-in-DiskFull-2.ensures)
    c.push_line.ensures
