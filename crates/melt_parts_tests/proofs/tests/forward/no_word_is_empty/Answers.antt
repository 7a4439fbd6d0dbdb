use Rattle.std.proofs.Common.{◌∷◌, [], refl}
use Rattle.melt_forward.specs.Forwarding.{start}
use Rattle.melt_parts_tests.proofs.Written.{told_by_test}
use Rattle.melt_parts_tests.proofs.Gaps.{unbroken_by_test}
use Rattle.melt_parts_tests.proofs.tests.forward.no_word_is_empty.Goals as goal

pub find-requires-clause-words : goal.find-requires-clause-words
find-requires-clause-words c = told_by_test (4294967304 ∷ 8589934596 ∷ []) refl

pub find-requires-clause-no_gaps : goal.find-requires-clause-no_gaps
unfolding start
find-requires-clause-no_gaps c = unbroken_by_test (4294967304 ∷ 8589934596 ∷ []) refl

pub find-requires-2-clause-words : goal.find-requires-2-clause-words
find-requires-2-clause-words c = told_by_test (4294967304 ∷ 8589934596 ∷ []) refl

pub find-requires-2-clause-no_gaps : goal.find-requires-2-clause-no_gaps
unfolding start
find-requires-2-clause-no_gaps c = unbroken_by_test (4294967304 ∷ 8589934596 ∷ []) refl
