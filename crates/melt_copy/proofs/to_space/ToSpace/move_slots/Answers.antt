use Rattle.std.proofs.Common.{ℕ, refl, sym, subst, arith}
use Rattle.std.specs.Prelude.{slice_index}
use Rattle.melt_model.specs.declared.reports.Phase.{Phase}
use Rattle.melt_copy.specs.Moving.{WordMoves}
use Rattle.melt_copy.specs.Evacuating.{Collection, Evacuates, EvacuatesFor, EvacuatesSlots, place_of}
use Rattle.melt_copy.proofs.Evacuated.{used_below, words_fit}
use Rattle.melt_copy.proofs.Growing.{more-then}
use Rattle.melt_copy.proofs.Scanned.{SlotNext, slot_next, slot_within, slot_word, still_within, slot_for, slot_done}
use Rattle.melt_copy.proofs.to_space.ToSpace.move_slots.Given.{Over}
use Rattle.melt_copy.proofs.to_space.ToSpace.move_slots.Goals as goal
use Rattle.melt_copy.proofs.to_space.ToSpace.move_slots.Goals.{In-loop-place}

-- the slot of this turn
turn : (g : Over) (c : In-loop-place g) (d : Collection)
    → EvacuatesSlots d c.args.phase c.args.space.now c.args.self.now c.args.first c.args.refs
    → SlotNext d c.loop-place.space c.loop-place.self c.loop-place.place
turn g c d slots =
    slot_next slots (c.loop-place.invariant.evacuates d slots) c.loop-place.invariant.more (omega arith) (omega arith)

pub overflow_add-place-end : goal.overflow_add-place-end
overflow_add-place-end g c =
    let it = c.requires.1.evacuates in
    omega (arith, it.within, words_fit c.args.self.now it, (used_below it).0, c.ranges.refs.fits)

pub index-word-requires : goal.index-word-requires
index-word-requires g c =
    let next = turn g (goal.at.index-word-requires g c).In-loop-place c.requires.0 c.requires.1 in
    omega (arith, slot_within next, c.loop-place.self.words.ok.0)

pub move_word-requires : goal.move_word-requires
move_word-requires g c =
    let d = c.requires.0 in
    let next = turn g (goal.at.move_word-requires g c).In-loop-place d c.requires.1 in (
      d,
      c.loop-place.place,
      subst (EvacuatesFor d c.loop-place.space c.loop-place.self c.loop-place.place)
          (slot_word next c.index-word.ensures) (slot_for next),
    )

pub index_mut-requires : goal.index_mut-requires
index_mut-requires g c =
    let d = c.requires.0 in
    let next = turn g (goal.at.index_mut-requires g c).In-loop-place d c.requires.1 in
    let found = subst (EvacuatesFor d c.loop-place.space c.loop-place.self c.loop-place.place)
    (slot_word next c.index-word.ensures) (slot_for next) in
    let inside = still_within next c.move_word.new.self (c.move_word.ensures.evacuates d c.loop-place.place found)
    c.move_word.ensures.more in
    omega (arith, inside, c.move_word.new.self.words.ok.0)

pub loop-place-preserved : goal.loop-place-preserved
loop-place-preserved g c = record {
  more =
      more-then c.args.self.now.moves c.loop-place.self.moves c.move_word.new.self.moves c.loop-place.invariant.more
      c.move_word.ensures.more;
  evacuates = λ d slots.
      let next = turn g (goal.at.loop-place-preserved g c).In-loop-place d slots in
      let word = slot_word next c.index-word.ensures in
      slot_done next c.move_word.new.self _
      (c.move_word.ensures.evacuates d c.loop-place.place
      (subst (EvacuatesFor d c.loop-place.space c.loop-place.self c.loop-place.place) word (slot_for next)))
      c.move_word.ensures.more
      (subst (λ (p : Phase). WordMoves p (place_of c.move_word.new.self.moves)
      (slice_index c.loop-place.self.words.items c.loop-place.place) c.move_word.result) (sym slots.phase_is)
      (subst (λ (w : ℕ). WordMoves c.args.phase (place_of c.move_word.new.self.moves) w c.move_word.result) (sym word)
      c.move_word.ensures.moves)) refl refl refl refl;
  visits = omega (
    arith,
    c.loop-place.invariant.visits,
    c.move_word.ensures.visits,
    c.tick.ensures,
  );
}

pub returns-clause-evacuates : goal.returns-clause-evacuates
returns-clause-evacuates g c = λ d slots.
    subst (Evacuates d c.loop-place.space c.loop-place.self) (omega arith) (c.loop-place.invariant.evacuates d slots)
