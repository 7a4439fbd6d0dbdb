use Rattle.std.specs.Prelude.{false}
use Rattle.melt_scion.specs.Heaps.{no_homes_on}
use Rattle.melt_core_tests.proofs.tests.count_held.Goals as goal

-- what stands still does when a thread let its registers hold nothing
pub held-requires : goal.held-requires
held-requires c = (no_homes_on, c.drop_all.ensures.keeps false no_homes_on c.expect.ensures.stands)
