use Rattle.melt_safepoint.proofs.collector.collect_heap.Given as goal

abbrev pub ghosts-collect_uncounted : goal.ghosts-collect_uncounted
ghosts-collect_uncounted g a = record { name = a.blank.name; parts = a.blank.parts }
