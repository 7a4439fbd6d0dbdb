use Rattle.std.proofs.Common.{◌≡◌, ◌+◌, arith, ap, length, take}
use Rattle.std.specs.Prelude.{slice_index_or}
use Rattle.melt_word.specs.Words.{cost_of}
use Rattle.melt_copy.specs.declared.forwarding.Relocation.{Relocation}
use Rattle.melt_copy.specs.Moving.{words_in}
use Rattle.melt_copy.proofs.Queue.{words_in-next}
use Rattle.melt_copy.proofs.Visited.{first_words}
use Rattle.melt_move.proofs.KeptObjects.{in_order, stays_in, next_stays_in, stand_none, stand_more, stand_all}
use Rattle.melt_move.proofs.staying.copy_staying.Given.{Over}
use Rattle.melt_move.proofs.staying.copy_staying.Goals as goal
use Rattle.melt_move.proofs.staying.copy_staying.Goals.{After-tick}

-- the object of a turn
abbrev move_of : (g : Over) → After-tick g → Relocation
move_of g c =
    slice_index_or c.deref-m-items.result.now c.loop-k.k (record {
      from = 0;
      to = 0;
      shape = record { refs = 0; nums = 0 };
    })

-- the words of the objects until this one, with it
next : (g : Over) (c : After-tick g)
    → words_in (take (c.loop-k.k + 1) c.args.decision.now.choice.stay.moves.items)
    ≡ words_in (take c.loop-k.k c.args.decision.now.choice.stay.moves.items) + cost_of (move_of g c).shape
next g c =
    words_in-next c.args.decision.now.choice.stay.moves.items c.loop-k.k (move_of g c)
    (in_order c.args.decision.now.choice.stay.moves.items c.deref-m-items.result.now c.loop-k.k _
    c.deref-m-items.ensures.value c.loop-k-test.true)

pub loop-k-init : goal.loop-k-init
loop-k-init g c = record {
  stand = λ s decided. stand_none s c.args.decision.now c.args.out.items c.requires.empty;
  capacity = omega arith;
  visits = omega arith;
}

pub append_object-requires-clause-capacity : goal.append_object-requires-clause-capacity
append_object-requires-clause-capacity g c =
    let decided = c.requires.decided in
    let stand = c.loop-k.invariant.stand decided.0 decided.1 in
    let fits = next_stays_in c.args.space.now decided.0 c.args.decision.now c.loop-k.k
    (move_of g (goal.at.append_object-requires-clause-capacity g c).After-tick) decided.1
    (in_order c.args.decision.now.choice.stay.moves.items c.deref-m-items.result.now c.loop-k.k _
    c.deref-m-items.ensures.value c.loop-k-test.true) in
    omega (arith, fits, stand.size, c.loop-k.invariant.capacity, c.requires.capacity)

pub append_object-requires-clause-stays : goal.append_object-requires-clause-stays
append_object-requires-clause-stays g c =
    let decided = c.requires.decided in (
      decided.0,
      stays_in c.args.space.now decided.0 c.args.decision.now c.loop-k.k _ decided.1 c.requires.room
          (in_order c.args.decision.now.choice.stay.moves.items c.deref-m-items.result.now c.loop-k.k _
          c.deref-m-items.ensures.value c.loop-k-test.true),
    )

pub loop-k-preserved : goal.loop-k-preserved
loop-k-preserved g c = record {
  stand = λ s decided.
      let at = in_order c.args.decision.now.choice.stay.moves.items c.deref-m-items.result.now c.loop-k.k _
      c.deref-m-items.ensures.value c.loop-k-test.true in
      let stays = stays_in c.args.space.now s c.args.decision.now c.loop-k.k _ decided c.requires.room at in
      stand_more stays (c.loop-k.invariant.stand s decided) at c.append_object.ensures.extends
      (c.append_object.ensures.object s stays);
  capacity = omega (arith, c.append_object.ensures.capacity, c.loop-k.invariant.capacity);
  visits =
      let more = next g (goal.at.loop-k-preserved g c).After-tick in
      omega (arith, c.loop-k.invariant.visits, c.tick.ensures, c.append_object.ensures.visits, more);
}

pub returns-clause-visits : goal.returns-clause-visits
returns-clause-visits g c =
    omega (arith, c.loop-k.invariant.visits, first_words c.args.decision.now.choice.stay.moves.items c.loop-k.k)

pub returns-clause-stand : goal.returns-clause-stand
returns-clause-stand g c = λ s decided.
    stand_all s c.args.decision.now c.loop-k.out.items c.loop-k.k (c.loop-k.invariant.stand s decided)
    (omega (arith, ap length c.deref-m-items.ensures.value, c.loop-k-test.false))
