use Rattle.melt_copy_tests.proofs.tests.collect_to.Given as goal

abbrev pub ghosts-collect_uncounted : goal.ghosts-collect_uncounted
ghosts-collect_uncounted a = record { name = a.blank.name; parts = a.blank.parts }
