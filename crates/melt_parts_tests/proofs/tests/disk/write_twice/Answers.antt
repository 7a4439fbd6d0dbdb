use Rattle.std.proofs.Common.{rules}
use Rattle.melt_parts_tests.proofs.Testing.{first_lies, second_lies}
use Rattle.melt_parts_tests.proofs.tests.disk.write_twice.Goals as goal

pub write_body-first-requires-clause-lies : goal.write_body-first-requires-clause-lies
write_body-first-requires-clause-lies c κs = first_lies _ (search rules)

pub write_body-second-requires-clause-lies : goal.write_body-second-requires-clause-lies
write_body-second-requires-clause-lies c κs = second_lies _ (search rules)

pub write_body-requires-clause-lies : goal.write_body-requires-clause-lies
write_body-requires-clause-lies c κs = second_lies _ (search rules)
