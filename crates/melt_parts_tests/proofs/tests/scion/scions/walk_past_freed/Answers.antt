use Rattle.std.proofs.Common.{arith}
use Rattle.std.proofs.lemmas.Grind.{common_steps}
use Rattle.melt_parts_tests.proofs.tests.scion.scions.walk_past_freed.Goals as goal

-- the first scion is another than the two that were added after it and than the one that was freed
pub next-requires-2 : goal.next-requires-2
next-requires-2 c =
    let at_free = c.free.ensures.frees.others 1 in
    let at_third = c.add-3.ensures.adds.others 1 in
    let at_second = c.add-2.ensures.adds.others 1 in
    let here = c.add.ensures.adds.here in
    grind (arith, common_steps, at_free, at_third, at_second, here)
