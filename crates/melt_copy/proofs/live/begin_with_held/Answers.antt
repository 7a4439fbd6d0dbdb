use Rattle.std.proofs.Common.{◌-◌, refl, arith}
use Rattle.melt_copy.proofs.Roots.{Begins, may_find_held, finds_front}
use Rattle.melt_copy.proofs.live.begin_with_held.Given.{Over}
use Rattle.melt_copy.proofs.live.begin_with_held.Goals as goal
use Rattle.melt_copy.proofs.live.begin_with_held.Goals.{In_ok-forwarding}

-- a forwarding that has found nothing
begins : (g : Over) (c : In_ok-forwarding g) → Begins c.args.heap.now c.in_ok-forwarding.forwarding c.used.result
begins g c = record {
  space = c.used.ensures.within;
  used_is = c.used.ensures.value;
  entries = c.in_ok-forwarding.ensures.entries;
  moves = c.in_ok-forwarding.ensures.moves;
  next = c.in_ok-forwarding.ensures.next;
}

pub find_all_held-requires : goal.find_all_held-requires
find_all_held-requires g c =
    may_find_held c.args.heap.now c.args.held.now c.in_ok-forwarding.forwarding c.used.result
    (begins g (goal.at.find_all_held-requires g c).In_ok-forwarding) c.requires.formed

pub overflow_sub-held_words : goal.overflow_sub-held_words
overflow_sub-held_words g c =
    let start = may_find_held c.args.heap.now c.args.held.now c.in_ok-forwarding.forwarding c.used.result
    (begins g (goal.at.overflow_sub-held_words g c).In_ok-forwarding) c.requires.formed in
    let found = c.find_all_held.ensures.tracks start.0 start.1 in
    omega (arith, found.holds.after)

pub returns-clause-finds : goal.returns-clause-finds
returns-clause-finds g c =
    finds_front c.args.heap.now c.args.held.now c.in_ok-forwarding.forwarding c.used.result
    (begins g (goal.at.returns-clause-finds g c).In_ok-forwarding) c.find_all_held.new.forwarding
    c.find_all_held.ensures.tracks c.in_ok-find_all_held.ensures.finds c.len-held_count.result
    (c.find_all_held.new.forwarding.next - 1)
    (omega (arith, c.len-held_count.ensures, c.find_all_held.new.forwarding.moves.ok.0)) refl
