use Rattle.melt_parts_tests.proofs.Gaps.{empty_are_forwarding, empty_have_no_gaps}
use Rattle.melt_parts_tests.proofs.tests.forward.homes_start_far_apart_among_empty_words.Goals as goal

pub find-requires-clause-words : goal.find-requires-clause-words
find-requires-clause-words c = empty_are_forwarding 1024

pub find-requires-clause-no_gaps : goal.find-requires-clause-no_gaps
find-requires-clause-no_gaps c = empty_have_no_gaps 1024

pub find-requires-2-clause-words : goal.find-requires-2-clause-words
find-requires-2-clause-words c = empty_are_forwarding 1024

pub find-requires-2-clause-no_gaps : goal.find-requires-2-clause-no_gaps
find-requires-2-clause-no_gaps c = empty_have_no_gaps 1024
