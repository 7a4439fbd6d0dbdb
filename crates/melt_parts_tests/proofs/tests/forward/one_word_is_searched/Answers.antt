use Rattle.std.proofs.Common.{◌∷◌, [], refl}
use Rattle.melt_parts_tests.proofs.Written.{told_by_test}
use Rattle.melt_parts_tests.proofs.tests.forward.one_word_is_searched.Goals as goal

pub find-requires-2-clause-words : goal.find-requires-2-clause-words
find-requires-2-clause-words c = told_by_test (4294967304 ∷ []) refl

pub find-requires-3-clause-words : goal.find-requires-3-clause-words
find-requires-3-clause-words c = told_by_test (4294967304 ∷ []) refl
