use Rattle.std.proofs.Common.{arith, inl, inr}
use Rattle.std.specs.Prelude.{true}
use Rattle.melt_parts_tests.proofs.tests.word.words_of_headers.Goals as goal

-- the largest header is one
pub forwarded_to-requires : goal.forwarded_to-requires
forwarded_to-requires c = inl (
  record { shape = record { refs = 62; nums = 62 }; stale = true },
  record { refs = omega arith; nums = omega arith },
  c.encode_header-largest.ensures,
)

-- and a clean reference to the last address is one
pub forwarded_to-requires-2 : goal.forwarded_to-requires-2
forwarded_to-requires-2 c =
    inr (1073741823, record { not_null = omega arith; small = omega arith }, c.encode_ref.ensures)
