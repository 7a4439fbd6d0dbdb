use Rattle.std.proofs.Common.{◌≡◌, refl, sym, ◌∙◌, length, None, arith}
use Rattle.std.proofs.lemmas.List.{length_push}
use Rattle.std.proofs.lemmas.Option.{slice_get_within}
use Rattle.std.proofs.lemmas.Slice.Zip.{zip_turn}
use Rattle.melt_scion.specs.Names.{name_at}
use Rattle.melt_copy.proofs.Committing.{IsMoveAt, move_at, name_after_more, unnamed_before, number_of}
use Rattle.melt_copy.proofs.commit.rename.Given.{Over}
use Rattle.melt_copy.proofs.commit.rename.Goals as goal
use Rattle.melt_copy.proofs.commit.rename.Goals.{After-tick}

-- which move a turn has, and the number beside it
turn_is : (g : Over) (c : After-tick g) → IsMoveAt c.args.moves.now (length c.loop-m.yielded) c.in-Some.m.now
    × (c.in-Some.number.now ≡ name_at c.args.names.now c.in-Some.m.now.from)
turn_is g c =
    let turn =
    zip_turn c.args.moves.now c.args.numbers.now c.loop-m.yielded c.into_iter-m-iterator.result c.loop-m.m-iterator
    c.next.new.self _ (cc) (cc) c.loop-m.yielded_by (c.in-Some.m, c.in-Some.number) c.in-Some.is c.next.ensures.steps in
    let m = c.in-Some.m.now in
    let i = length c.loop-m.yielded in
    let move = move_at c.args.moves.now i m turn.0 (turn.2 m) c.requires.apart in (
      move,
      number_of (name_at c.args.names.now) c.args.moves.now c.args.numbers.now i m c.in-Some.number.now
          c.requires.numbers move (turn.3 None),
    )

pub loop-m-preserved-in-Some-number : goal.loop-m-preserved-in-Some-number
loop-m-preserved-in-Some-number g c =
    let turn = turn_is g (goal.at.loop-m-preserved-in-Some-number g c).After-tick in
    let here = c.set.ensures.here ∙ (sym c.in-Some-number.is ∙ turn.1) in
    record {
      names = name_after_more (name_at c.args.names.now) (name_at c.loop-m.names) (name_at c.set.new.self) turn.0
          (length_push c.loop-m.yielded _) c.loop-m.invariant.names here c.set.ensures.others;
      size = c.set.ensures.size ∙ c.loop-m.invariant.size;
      visits = let more = length_push c.loop-m.yielded (c.in-Some.m, c.in-Some.number) in
          omega (arith, c.loop-m.invariant.visits, c.tick.ensures, more);
      within = let at = slice_get_within c.args.moves.now _ c.in-Some.m.now turn.0.at in
          omega (arith, at, length_push c.loop-m.yielded (c.in-Some.m, c.in-Some.number));
    }

pub loop-m-preserved : goal.loop-m-preserved
loop-m-preserved g c =
    let turn = turn_is g (goal.at.loop-m-preserved g c).After-tick in
    let m = c.in-Some.m.now in
    let unnamed = unnamed_before (name_at c.args.names.now) c.args.moves.now _ m turn.0 in
    let here = c.loop-m.invariant.names m.to ∙ (unnamed ∙ (sym c.in_default.is ∙ turn.1)) in
    record {
      names = name_after_more (name_at c.args.names.now) (name_at c.loop-m.names) (name_at c.loop-m.names) turn.0
          (length_push c.loop-m.yielded _) c.loop-m.invariant.names here (λ _ _. refl);
      size = c.loop-m.invariant.size;
      visits = let more = length_push c.loop-m.yielded (c.in-Some.m, c.in-Some.number) in
          omega (arith, c.loop-m.invariant.visits, c.tick.ensures, more);
      within = let at = slice_get_within c.args.moves.now _ m turn.0.at in
          omega (arith, at, length_push c.loop-m.yielded (c.in-Some.m, c.in-Some.number));
    }
