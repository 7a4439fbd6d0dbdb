use Rattle.std.proofs.Common.{◌∙◌, true, lit≤}
use Rattle.melt_parts_tests.proofs.WordAt.{has_header}
use Rattle.melt_parts_tests.proofs.tests.space.a_header_tells_its_shape.Goals as goal

-- the word that was put there is that of a header
pub shape-requires-clause-header : goal.shape-requires-clause-header
shape-requires-clause-header c =
    has_header _ 1 (record { shape = record { refs = 2; nums = 1 }; stale = true })
    (record { refs = lit≤ tt; nums = lit≤ tt })
    (c.set_word.ensures.here ∙ c.encode_header.ensures)
