use Rattle.std.proofs.Common.{◌∷◌, [], refl, List, ℕ}
use Rattle.melt_forward.specs.Forwarding.{HaveNoGaps, start}
use Rattle.melt_parts_tests.proofs.Written.{told_by_test}
use Rattle.melt_parts_tests.proofs.Gaps.{unbroken_by_test}
use Rattle.melt_parts_tests.proofs.tests.forward.homes_of_one_start_stand_side_by_side.Goals as goal

abbrev three : List ℕ
three = 0 ∷ 4294967300 ∷ 21474836488 ∷ 38654705676 ∷ []

one_unbroken : HaveNoGaps (0 ∷ 4294967300 ∷ 0 ∷ 0 ∷ [])
unfolding start
one_unbroken = unbroken_by_test (0 ∷ 4294967300 ∷ 0 ∷ 0 ∷ []) refl

three_unbroken : HaveNoGaps three
unfolding start
three_unbroken = unbroken_by_test three refl

pub find-requires-clause-no_gaps : goal.find-requires-clause-no_gaps
find-requires-clause-no_gaps c = one_unbroken

pub find-requires-2-clause-no_gaps : goal.find-requires-2-clause-no_gaps
find-requires-2-clause-no_gaps c = one_unbroken

pub find-requires-3-clause-words : goal.find-requires-3-clause-words
find-requires-3-clause-words c = told_by_test three refl

pub find-requires-3-clause-no_gaps : goal.find-requires-3-clause-no_gaps
find-requires-3-clause-no_gaps c = three_unbroken

pub find-requires-4-clause-words : goal.find-requires-4-clause-words
find-requires-4-clause-words c = told_by_test three refl

pub find-requires-4-clause-no_gaps : goal.find-requires-4-clause-no_gaps
find-requires-4-clause-no_gaps c = three_unbroken
