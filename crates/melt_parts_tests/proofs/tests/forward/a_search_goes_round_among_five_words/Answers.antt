use Rattle.std.proofs.Common.{◌∷◌, [], refl}
use Rattle.melt_forward.specs.Forwarding.{start}
use Rattle.melt_parts_tests.proofs.Written.{told_by_test}
use Rattle.melt_parts_tests.proofs.Gaps.{unbroken_by_test}
use Rattle.melt_parts_tests.proofs.tests.forward.a_search_goes_round_among_five_words.Goals as goal

pub find-requires-clause-words : goal.find-requires-clause-words
find-requires-clause-words c = told_by_test (17179869192 ∷ 0 ∷ 0 ∷ 0 ∷ 4294967300 ∷ []) refl

pub find-requires-clause-no_gaps : goal.find-requires-clause-no_gaps
unfolding start
find-requires-clause-no_gaps c = unbroken_by_test (17179869192 ∷ 0 ∷ 0 ∷ 0 ∷ 4294967300 ∷ []) refl
