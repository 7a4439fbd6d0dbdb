use Rattle.std.proofs.Common.{arith, ◌∙◌}
use Rattle.melt_move.proofs.Prepared.{count_need, decides_still}
use Rattle.melt_move.proofs.collect.prepare.Goals as goal

pub reserve_names-requires : goal.reserve_names-requires
reserve_names-requires g c =
    let formed = c.requires.formed in
    let homes = c.in_ok-decision.decision.homes in
    let gives = (c.in_ok-decision.ensures.decides formed.maps formed.disk formed.end_is formed.formed).homes in
    let few = count_need homes.given.items in
    let small = gives.small in
    omega (arith, few, small, c.len.ensures)

pub returns-clause-decides : goal.returns-clause-decides
returns-clause-decides g c =
    decides_still c.args.heap.now c.room_for_copy.new.self c.reserve_names.new.names c.args.held.now
    c.in_ok-decision.decision c.room_for_copy.ensures.unchanged
    (λ maps disk end formed. c.in_ok-decision.ensures.decides maps disk (end ∙ c.in_ok-decision.ensures.first) formed)
