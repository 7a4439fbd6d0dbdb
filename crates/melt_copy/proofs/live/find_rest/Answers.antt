use Rattle.std.proofs.Common.{◌<◌, arith, length, refl}
use Rattle.std.proofs.lemmas.Option.{slice_get_within, slice_get_read}
use Rattle.melt_copy.proofs.Growth.{Grows-more}
use Rattle.melt_copy.proofs.Queue.{next_object, count_fits, longer}
use Rattle.melt_copy.proofs.Following.{objects_more}
use Rattle.melt_copy.proofs.Visited.{turn_words, turn_within, first_words}
use Rattle.melt_copy.proofs.live.find_rest.Goals as goal

pub find_slots-requires : goal.find_slots-requires
find_slots-requires g c =
    let s = c.requires.0 in (
      s,
      next_object c.args.space.now s c.loop-done.forwarding c.loop-done.done c.index-m.result.now
          (c.loop-done.invariant.tracks s c.requires.1)
          (omega (arith, c.loop-done-test.true, c.len.ensures, c.loop-done.forwarding.moves.ok.0)) c.index-m.ensures,
    )

pub returns-in_err-find_slots-clause-tracks : goal.returns-in_err-find_slots-clause-tracks
returns-in_err-find_slots-clause-tracks g c = λ s tracks. c.find_slots.ensures.tracks s
    (next_object c.args.space.now s c.loop-done.forwarding c.loop-done.done c.index-m.result.now
    (c.loop-done.invariant.tracks s tracks)
    (omega (arith, c.loop-done-test.true, c.len.ensures, c.loop-done.forwarding.moves.ok.0)) c.index-m.ensures)

pub loop-done-smaller : goal.loop-done-smaller
loop-done-smaller g c =
    let s = c.requires.0 in
    let fits = count_fits c.args.space.now s c.loop-done.forwarding (c.loop-done.invariant.tracks s c.requires.1) in
    omega (arith, fits, c.loop-done-test.true, c.len.ensures, c.loop-done.forwarding.moves.ok.0)

pub loop-done-preserved : goal.loop-done-preserved
loop-done-preserved g c =
    let below : c.loop-done.done < length c.loop-done.forwarding.moves.items =
    omega (arith, c.loop-done-test.true, c.len.ensures, c.loop-done.forwarding.moves.ok.0) in
    let at = slice_get_read c.loop-done.forwarding.moves.items (length c.loop-done.forwarding.moves.items)
    c.loop-done.done c.index-m.result.now refl below c.index-m.ensures in
    record {
      within = let more = longer c.loop-done.forwarding c.find_slots.new.forwarding c.find_slots.ensures.grows in
          omega (arith, more, below);
      finds = λ s tracks. objects_more s c.loop-done.done c.find_slots.ensures.grows at
          (c.loop-done.invariant.finds s tracks)
          (c.in_ok-find_slots.ensures.finds s (next_object c.args.space.now s c.loop-done.forwarding c.loop-done.done
          c.index-m.result.now (c.loop-done.invariant.tracks s tracks) below c.index-m.ensures));
      grows = Grows-more c.args.forwarding.now c.loop-done.forwarding c.find_slots.new.forwarding
          c.loop-done.invariant.grows c.find_slots.ensures.grows;
      tracks = λ s tracks. c.find_slots.ensures.tracks s
          (next_object c.args.space.now s c.loop-done.forwarding c.loop-done.done c.index-m.result.now
          (c.loop-done.invariant.tracks s tracks) below c.index-m.ensures);
      visits = omega (
        arith,
        c.loop-done.invariant.visits,
        c.tick.ensures,
        c.find_slots.ensures.visits,
        turn_words c.loop-done.forwarding c.find_slots.new.forwarding c.loop-done.done c.index-m.result.now
            c.find_slots.ensures.grows at,
      );
    }

pub returns-in_err-find_slots-clause-visits : goal.returns-in_err-find_slots-clause-visits
returns-in_err-find_slots-clause-visits g c =
    let at = slice_get_read c.loop-done.forwarding.moves.items (length c.loop-done.forwarding.moves.items)
    c.loop-done.done c.index-m.result.now refl
    (omega (arith, c.loop-done-test.true, c.len.ensures, c.loop-done.forwarding.moves.ok.0)) c.index-m.ensures in
    omega (
      arith,
      c.loop-done.invariant.visits,
      c.tick.ensures,
      c.find_slots.ensures.visits,
      turn_within c.loop-done.forwarding c.find_slots.new.forwarding c.loop-done.done c.index-m.result.now
          c.find_slots.ensures.grows at,
    )

pub returns-clause-visits : goal.returns-clause-visits
returns-clause-visits g c =
    omega (arith, c.loop-done.invariant.visits, first_words c.loop-done.forwarding.moves.items c.loop-done.done)

pub returns-clause-finds : goal.returns-clause-finds
returns-clause-finds g c = λ s tracks k m at.
    c.loop-done.invariant.finds s tracks k m
    (let within = slice_get_within c.loop-done.forwarding.moves.items k m at in
    omega (arith, within, c.loop-done-test.false, c.len.ensures, c.loop-done.forwarding.moves.ok.0)) at
