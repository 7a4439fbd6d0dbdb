use Rattle.std.proofs.Common.{rules}
use Rattle.melt_parts_tests.proofs.Testing.{one_lies}
use Rattle.melt_parts_tests.proofs.tests.disk.lend_twice.Goals as goal

pub write_body-requires-clause-lies : goal.write_body-requires-clause-lies
write_body-requires-clause-lies c κs = one_lies _ (search rules)
