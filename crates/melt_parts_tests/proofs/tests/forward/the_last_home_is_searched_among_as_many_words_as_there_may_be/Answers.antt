use Rattle.std.proofs.Common.{◌∷◌, [], refl, arith}
use Rattle.melt_parts_tests.proofs.Written.{told_by_test}
use Rattle.melt_parts_tests.proofs.tests.forward.the_last_home_is_searched_among_as_many_words_as_there_may_be.Goals as goal

pub find_last_home-requires-2 : goal.find_last_home-requires-2
find_last_home-requires-2 c = told_by_test (18446744069414584348 ∷ []) refl 0 (omega arith)

pub find_last_home-requires-3 : goal.find_last_home-requires-3
find_last_home-requires-3 c = told_by_test (207296596541444 ∷ []) refl 0 (omega arith)
