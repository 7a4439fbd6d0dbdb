use Rattle.melt_move_tests.proofs.tests.given.collect.Given as goal

abbrev pub ghosts-collect_uncounted : goal.ghosts-collect_uncounted
ghosts-collect_uncounted g a = record { name = a.blank.name; parts = a.blank.parts }
