use Rattle.std.proofs.Common.{ℕ, ◌+◌, List, ◌∙◌, length, get_or, sym, subst, arith}
use Rattle.melt_move.specs.GivingHomes.{MarksSlots}
use Rattle.std.specs.Prelude.{Bool}
use Rattle.std.proofs.lemmas.Option.{slice_get-get_or}
use Rattle.melt_space.specs.Space.{AreWords}
use Rattle.melt_move.proofs.Marking.{HasMarked, no_departure, marks_back, departs, slots_of, marked_more, marked_all}
use Rattle.melt_move.proofs.Visited.{leaving-first, leaving-next}
use Rattle.melt_move.proofs.homes.mark_named.Goals as goal

pub overflow_add-d : goal.overflow_add-d
overflow_add-d g c =
    let s = c.requires.0 in
    let seen = c.requires.1 in
    let d = departs c.args.space.now s c.args.leaving.now seen c.requires.2 c.loop-d.d-index _
    (slice_get-get_or c.args.leaving.now c.loop-d.d-index no_departure (omega arith)) in
    let end = d.within in
    let small = seen.whole.small in
    omega (arith, end, small)

pub words_at-slots-requires-clause-last : goal.words_at-slots-requires-clause-last
words_at-slots-requires-clause-last g c =
    let seen = c.requires.1 in
    let d = departs c.args.space.now c.requires.0 c.args.leaving.now seen c.requires.2 c.loop-d.d-index _
    (slice_get-get_or c.args.leaving.now c.loop-d.d-index no_departure (omega arith)) in
    let end = d.within in
    let size = seen.size in
    omega (arith, end, size, c.from.ensures)

pub mark_slots-requires : goal.mark_slots-requires
mark_slots-requires g c =
    let s = c.requires.0 in
    let d = get_or c.args.leaving.now c.loop-d.d-index no_departure in
    slots_of c.args.space.now s c.args.leaving.now c.requires.1 c.requires.2 c.loop-d.d-index d
    c.words_at-slots.result.now c.loop-d.d-index c.deref_mut.result.now
    (slice_get-get_or c.args.leaving.now c.loop-d.d-index no_departure (omega arith))
    (subst (HasMarked s c.args.leaving.now c.loop-d.d-index) (sym c.deref_mut.ensures.value)
    (c.loop-d.invariant.marks s c.requires.1 c.requires.2))
    (subst (λ (n : ℕ). AreWords c.args.space.now (d.from + 2) n c.words_at-slots.result.now) c.from.ensures
    c.words_at-slots.ensures)

pub loop-d-preserved : goal.loop-d-preserved
loop-d-preserved g c = record {
  marks = λ s seen are.
      let leaving = c.args.leaving.now in
      let n = c.loop-d.d-index in
      let d = get_or leaving n no_departure in
      let back = marks_back c.loop-d.marks.len c.loop-d.marks.items c.mark_slots.new.marks
      (c.mark_slots.ensures.marks.size ∙ c.deref_mut.ensures.len) in
      subst (HasMarked s leaving (n + 1)) (sym back)
      (marked_more c.args.space.now s leaving seen are n d c.words_at-slots.result.now c.loop-d.marks.items
      c.mark_slots.new.marks (slice_get-get_or leaving n no_departure (omega arith))
      (c.loop-d.invariant.marks s seen are)
      (subst (λ (k : ℕ). AreWords c.args.space.now (d.from + 2) k c.words_at-slots.result.now) c.from.ensures
      c.words_at-slots.ensures)
      (subst (λ (ms : List Bool). MarksSlots c.words_at-slots.result.now (length c.words_at-slots.result.now) ms
      c.mark_slots.new.marks) c.deref_mut.ensures.value c.mark_slots.ensures.marks));
  visits =
      let d = get_or c.args.leaving.now c.loop-d.d-index no_departure in
      let slots = c.words_at-slots.ensures.count_is in
      omega (
        arith,
        c.loop-d.invariant.visits,
        c.tick.ensures,
        c.mark_slots.ensures.visits,
        slots,
        c.from.ensures,
        leaving-next c.args.leaving.now c.loop-d.d-index d
            (slice_get-get_or c.args.leaving.now c.loop-d.d-index no_departure (omega arith)),
      );
}

pub returns-clause-marks : goal.returns-clause-marks
returns-clause-marks g c = λ s seen are. marked_all c.args.space.now s c.args.leaving.now seen are c.loop-d.d-index
    c.loop-d.marks.items (omega arith) (c.loop-d.invariant.marks s seen are)

pub returns-clause-visits : goal.returns-clause-visits
returns-clause-visits g c =
    omega (arith, c.loop-d.invariant.visits, leaving-first c.args.leaving.now c.loop-d.d-index)
