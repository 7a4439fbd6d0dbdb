use Rattle.std.proofs.Common.{◌∷◌, [], refl}
use Rattle.melt_forward.specs.Forwarding.{HaveNoGaps, start}
use Rattle.melt_parts_tests.proofs.Written.{told_by_test}
use Rattle.melt_parts_tests.proofs.Gaps.{unbroken_by_test}
use Rattle.melt_parts_tests.proofs.tests.forward.a_search_goes_round_among_two_words.Goals as goal

last_unbroken : HaveNoGaps (0 ∷ 4294967304 ∷ [])
unfolding start
last_unbroken = unbroken_by_test (0 ∷ 4294967304 ∷ []) refl

pub find-requires-clause-words : goal.find-requires-clause-words
find-requires-clause-words c = told_by_test (0 ∷ 4294967304 ∷ []) refl

pub find-requires-clause-no_gaps : goal.find-requires-clause-no_gaps
find-requires-clause-no_gaps c = last_unbroken

pub find-requires-2-clause-words : goal.find-requires-2-clause-words
find-requires-2-clause-words c = told_by_test (0 ∷ 4294967304 ∷ []) refl

pub find-requires-2-clause-no_gaps : goal.find-requires-2-clause-no_gaps
find-requires-2-clause-no_gaps c = last_unbroken

pub find-requires-in-loop-home-clause-words : goal.find-requires-in-loop-home-clause-words
find-requires-in-loop-home-clause-words c = told_by_test (12884901908 ∷ 4294967304 ∷ []) refl
