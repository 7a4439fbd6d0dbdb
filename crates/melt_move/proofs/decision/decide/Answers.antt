use Rattle.std.proofs.Common.{ℕ, ◌+◌, ◌*◌, ◌≤◌, length, sym, ◌∙◌, arith}
use Rattle.melt_scion.specs.Heaps.{state_of}
use Rattle.melt_move.proofs.Deciding.{seen_live, is_decision}
use Rattle.melt_copy.specs.Moving.{words_in}
use Rattle.melt_copy.specs.Visits.{CountsReached}
use Rattle.melt_copy.proofs.Visited.{counts_over, few_found, two_each}
use Rattle.melt_move.specs.Visits.{leaving_words}
use Rattle.melt_move.proofs.Visited.{few_choice, leaving-two}
use Rattle.melt_move.proofs.decision.decide.Given.{Over}
use Rattle.melt_move.proofs.decision.decide.Goals as goal
use Rattle.melt_move.proofs.decision.decide.Goals.{In_ok-live, In_ok-choice}

pub give_homes-requires : goal.give_homes-requires
give_homes-requires g c =
    let formed = c.requires.formed in
    let s = state_of c.args.heap.now c.args.held.now formed.disk in
    let live = c.in_ok-live.ensures.reaches formed.maps formed.disk formed.formed in
    let seen = seen_live c.args.heap.now c.args.held.now formed.disk c.in_ok-live.live live in
    (s, c.in_ok-live.live, seen, c.in_ok-choice.ensures.chooses s seen live)

pub returns-clause-decides : goal.returns-clause-decides
returns-clause-decides g c = λ maps disk end formed.
    let s = state_of c.args.heap.now c.args.held.now disk in
    let live = c.in_ok-live.ensures.reaches maps disk formed in
    let seen = seen_live c.args.heap.now c.args.held.now disk c.in_ok-live.live live in
    let chosen = c.in_ok-choice.ensures.chooses s seen live in
    is_decision c.args.heap.now c.args.held.now disk c.requires.settled formed live chosen
    (c.in_ok-homes.ensures.gives s c.in_ok-live.live seen chosen) (c.in_ok-homes.ensures.first ∙ sym end)

-- what was found takes no more words than all that can be reached
few : (g : Over) (c : In_ok-live g) (objects : ℕ) → CountsReached c.args.heap.now c.args.held.now objects
    → 2 * length c.in_ok-live.live.forwarding.moves.items ≤ objects
few g c objects counts =
    let formed = c.requires.formed in
    let live = c.in_ok-live.ensures.reaches formed.maps formed.disk formed.formed in
    let found = few_found _ _ c.in_ok-live.live.forwarding.moves.items c.in_ok-live.live.forwarding.next live.found
    objects (counts_over c.args.heap.now c.args.held.now formed.disk objects counts) in
    omega (arith, found, two_each c.in_ok-live.live.forwarding.moves.items)

pub returns-in_err-live-clause-visits : goal.returns-in_err-live-clause-visits
returns-in_err-live-clause-visits g c = λ objects counts.
    let reach = c.reach.ensures.visits objects counts in
    omega (arith, reach)

pub returns-in_err-choice-clause-visits : goal.returns-in_err-choice-clause-visits
returns-in_err-choice-clause-visits g c = λ objects counts.
    let found = few g (goal.at.returns-in_err-choice-clause-visits g c).In_ok-live objects counts in
    let reach = c.reach.ensures.visits objects counts in
    omega (arith, found, reach, c.choose.ensures.visits)

-- those that were chosen are among all that can be reached
chosen : (g : Over) (c : In_ok-choice g) (objects : ℕ) → CountsReached c.args.heap.now c.args.held.now objects
    → leaving_words c.in_ok-choice.choice.leaving.items + words_in c.in_ok-choice.choice.stay.moves.items ≤ objects
chosen g c objects counts =
    let formed = c.requires.formed in
    let s = state_of c.args.heap.now c.args.held.now formed.disk in
    let live = c.in_ok-live.ensures.reaches formed.maps formed.disk formed.formed in
    let seen = seen_live c.args.heap.now c.args.held.now formed.disk c.in_ok-live.live live in
    few_choice s c.in_ok-live.live c.in_ok-choice.choice (c.in_ok-choice.ensures.chooses s seen live) objects
    (counts_over c.args.heap.now c.args.held.now formed.disk objects counts)

pub returns-in_err-homes-clause-visits : goal.returns-in_err-homes-clause-visits
returns-in_err-homes-clause-visits g c = λ objects counts.
    let at = goal.at.returns-in_err-homes-clause-visits g c in
    let found = few g at.In_ok-live objects counts in
    let reach = c.reach.ensures.visits objects counts in
    omega (
      arith,
      found,
      reach,
      c.choose.ensures.visits,
      chosen g at.In_ok-choice objects counts,
      two_each c.in_ok-choice.choice.stay.moves.items,
      leaving-two c.in_ok-choice.choice.leaving.items,
      c.give_homes.ensures.visits,
    )

pub returns-clause-visits : goal.returns-clause-visits
returns-clause-visits g c = λ objects counts.
    let at = goal.at.returns-clause-visits g c in
    let found = few g at.In_ok-live objects counts in
    let reach = c.reach.ensures.visits objects counts in
    omega (
      arith,
      found,
      reach,
      c.choose.ensures.visits,
      chosen g at.In_ok-choice objects counts,
      two_each c.in_ok-choice.choice.stay.moves.items,
      leaving-two c.in_ok-choice.choice.leaving.items,
      c.give_homes.ensures.visits,
    )
