use Rattle.std.proofs.Common.{◌∷◌, [], refl, arith}
use Rattle.melt_parts_tests.proofs.Written.{told_by_test}
use Rattle.melt_parts_tests.proofs.tests.forward.pairs_of_words.Goals as goal

pub unpack-requires-2 : goal.unpack-requires-2
unpack-requires-2 c = told_by_test (4294967300 ∷ []) refl 0 (omega arith)

pub unpack-requires-3 : goal.unpack-requires-3
unpack-requires-3 c = told_by_test (8589934588 ∷ []) refl 0 (omega arith)

pub unpack-requires-4 : goal.unpack-requires-4
unpack-requires-4 c = told_by_test (18446744069414584324 ∷ []) refl 0 (omega arith)
