use Rattle.std.proofs.Common.{◌∷◌, [], refl}
use Rattle.melt_parts_tests.proofs.Written.{told_by_test}
use Rattle.melt_parts_tests.proofs.tests.forward.the_first_of_two_words_of_a_home_is_found.Goals as goal

pub find-requires-clause-words : goal.find-requires-clause-words
find-requires-clause-words c = told_by_test (4294967300 ∷ 4294967304 ∷ []) refl
