use Rattle.std.proofs.Common.{refl, arith}
use Rattle.melt_word.specs.declared.reference.Ref.TheVariants.{Clean, Stale, Disk}
use Rattle.melt_parts_tests.proofs.tests.word.words_of_references.Goals as goal

pub reference_of-requires-2 : goal.reference_of-requires-2
reference_of-requires-2 c = (Clean 1, record { not_null = omega arith; small = omega arith }, refl)

pub reference_of-requires-3 : goal.reference_of-requires-3
reference_of-requires-3 c = (Stale 1, record { not_null = omega arith; small = omega arith }, refl)

pub reference_of-requires-4 : goal.reference_of-requires-4
reference_of-requires-4 c = (Disk 4294967295, record { not_null = omega arith; small = omega arith }, refl)
