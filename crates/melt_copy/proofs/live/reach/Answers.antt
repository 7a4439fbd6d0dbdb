use Rattle.melt_copy.proofs.Roots.{may_find_globals, may_find_scions}
use Rattle.melt_copy.proofs.LiveSets.{reaches}
use Rattle.std.proofs.Common.{ℕ, ◌+◌, ◌*◌, ◌≤◌, length, ap, arith}
use Rattle.melt_scion.specs.declared.heap.Heap.{Heap}
use Rattle.melt_copy.specs.Moving.{words_in}
use Rattle.melt_copy.specs.Visits.{CountsReached}
use Rattle.melt_copy.proofs.Visited.{few_last}
use Rattle.melt_copy.proofs.live.reach.Given.{Over}
use Rattle.melt_copy.proofs.live.reach.Goals.{After-find_rest}
use Rattle.melt_copy.proofs.live.reach.Goals as goal

pub find_words-requires : goal.find_words-requires
find_words-requires g c =
    may_find_globals _ c.args.heap.now c.args.held.now c.heap.view_is c.in_ok-live.live c.in_ok-live.ensures.finds
    c.deref.result.now c.deref.ensures.value c.requires.formed

pub find_scions-requires-clause-tracks : goal.find_scions-requires-clause-tracks
find_scions-requires-clause-tracks g c =
    may_find_scions _ c.args.heap.now c.args.held.now c.heap.view_is c.in_ok-live.live c.in_ok-live.ensures.finds
    c.deref.result.now c.deref.ensures.value c.find_words.new.forwarding c.find_words.ensures.tracks c.requires.formed

pub find_rest-requires : goal.find_rest-requires
find_rest-requires g c =
    let scions = may_find_scions _ c.args.heap.now c.args.held.now c.heap.view_is c.in_ok-live.live
    c.in_ok-live.ensures.finds c.deref.result.now c.deref.ensures.value c.find_words.new.forwarding
    c.find_words.ensures.tracks c.requires.formed in
    (scions.0, c.find_scions.ensures.tracks scions.0 scions.1)

pub returns-clause-reaches : goal.returns-clause-reaches
returns-clause-reaches g c =
    reaches c.args.held.now c.heap.view_is c.in_ok-live.live c.in_ok-live.ensures.finds c.deref.ensures.value
    c.find_words.ensures.tracks c.find_words.ensures.grows c.in_ok-find_words.ensures.finds c.find_scions.ensures.grows
    c.in_ok-find_scions.ensures.finds c.find_scions.ensures.tracks c.find_rest.ensures.grows c.find_rest.ensures.tracks
    c.in_ok-find_rest.ensures.finds

-- what was found in the end takes no more words than all that can be reached
few : (g : Over) (c : After-find_rest g) (objects : ℕ) → CountsReached c.args.heap.now c.args.held.now objects
    → words_in c.find_rest.new.forwarding.moves.items ≤ objects
few g c objects counts =
    few_last _ c.args.heap.now c.args.held.now c.heap.view_is c.in_ok-live.live c.in_ok-live.ensures.finds
    c.deref.result.now c.deref.ensures.value c.find_words.new.forwarding c.find_words.ensures.tracks
    c.find_scions.new.forwarding c.find_rest.new.forwarding c.find_scions.ensures.tracks c.find_rest.ensures.tracks
    c.requires.formed objects counts

-- the visits of all that is called
visits : (g : Over) (c : After-find_rest g) (objects : ℕ) → CountsReached c.args.heap.now c.args.held.now objects
    → c.find_rest.new.steps ≤ c.args.steps.now + 17 * length c.args.held.now + length c.args.heap.now.globals
    + 2 * length c.args.heap.now.scions.live + objects
visits g c objects counts =
    let globals = ap length c.deref.ensures.value in
    let live = ap length c.deref-2.ensures.value in
    omega (
      arith,
      few g c objects counts,
      c.begin_with_held.ensures.visits,
      c.find_words.ensures.visits,
      c.live_scions.ensures.visits,
      c.find_scions.ensures.visits,
      c.find_rest.ensures.visits,
      globals,
      live,
      ap length c.in_ok-scions.ensures.live,
      ap (λ (h : Heap). length h.globals) c.heap.view_is,
      ap (λ (h : Heap). length h.scions.live) c.heap.view_is,
    )

pub returns-in_err-find_rest-clause-visits : goal.returns-in_err-find_rest-clause-visits
returns-in_err-find_rest-clause-visits g c =
    visits g (goal.at.returns-in_err-find_rest-clause-visits g c).After-find_rest

pub returns-clause-visits : goal.returns-clause-visits
returns-clause-visits g c = visits g (goal.at.returns-clause-visits g c).After-find_rest
