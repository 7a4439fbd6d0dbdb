use Rattle.std.proofs.Common.{◌≡◌, ◌∙◌, ℕ, ◌+◌, List, length, sym, ap, subst, arith}
use Rattle.std.specs.Prelude.{slice_get}
use Rattle.std.proofs.lemmas.Option.{slice_get-get_or}
use Rattle.melt_space.specs.Space.{word_at}
use Rattle.melt_copy.specs.declared.forwarding.Relocation.{Relocation}
use Rattle.melt_move.specs.declared.homes.Giving.{Giving}
use Rattle.melt_move.specs.GivingHomes.{GivesTo, IsAmongMarked, HasGiven}
use Rattle.melt_move.proofs.Giving.{mark_within, named_offered, named_not_yet, named_more, named_none}
use Rattle.melt_move.proofs.homes.Giving.give_named.Goals as goal
use Rattle.melt_move.proofs.homes.Giving.give_named.Goals.{then-marks-m+in_ok-give_missing, else-marks-m}

-- what a list of objects that stay has past its end
abbrev no_move : Relocation
no_move = record { from = 0; to = 0; shape = record { refs = 0; nums = 0 } }

pub bounds-marks-m : goal.bounds-marks-m
bounds-marks-m g c =
    mark_within c.requires.chosen.0 c.args.choice.now c.requires.chosen.2 c.args.marks.now c.requires.chosen.3
    c.loop-m.m-index _ (ap (λ (ms : List Relocation). slice_get ms c.loop-m.m-index) (sym c.deref-m-items.ensures.value)
    ∙ slice_get-get_or c.deref-m-items.result.now c.loop-m.m-index no_move (omega arith))
    c.requires.chosen.1.seen.whole

pub give_missing-requires-clause-offered : goal.give_missing-requires-clause-offered
give_missing-requires-clause-offered g c =
    let s = c.requires.chosen.0 in (
      s,
      c.loop-m.invariant.all s c.requires.chosen.1 c.requires.chosen.2 c.requires.chosen.3,
      named_offered s c.args.choice.now c.requires.chosen.2 c.args.marks.now c.requires.chosen.3 c.loop-m.m-index _
          (ap (λ (ms : List Relocation). slice_get ms c.loop-m.m-index) (sym c.deref-m-items.ensures.value)
          ∙ slice_get-get_or c.deref-m-items.result.now c.loop-m.m-index no_move (omega arith)) c.if-marks-m.true,
    )

pub give_missing-requires-clause-not_yet : goal.give_missing-requires-clause-not_yet
give_missing-requires-clause-not_yet g c =
    named_not_yet c.requires.chosen.0 c.args.choice.now c.requires.chosen.2 c.args.marks.now c.requires.chosen.3
    c.loop-m.m-index _ (ap (λ (ms : List Relocation). slice_get ms c.loop-m.m-index) (sym c.deref-m-items.ensures.value)
    ∙ slice_get-get_or c.deref-m-items.result.now c.loop-m.m-index no_move (omega arith)) (word_at c.args.space.now)
    c.args.self.now c.loop-m.self c.requires.leaving c.loop-m.invariant.gives

pub loop-m-preserved : goal.loop-m-preserved
loop-m-preserved g c =
    let n = c.loop-m.m-index in
    let moves = c.args.choice.now.stay.moves.items in
    let marks = c.args.marks.now in
    let word = word_at c.args.space.now in
    let at = ap (λ (ms : List Relocation). slice_get ms n) (sym c.deref-m-items.ensures.value)
    ∙ slice_get-get_or c.deref-m-items.result.now n no_move (omega arith) in
    elim c.if-marks-m.branch [
      | then-marks-m+in_ok-give_missing w ↦ record {
        gives =
            subst (λ (a : Giving). GivesTo word (IsAmongMarked moves marks (n + 1)) c.args.self.now.homes a.homes)
            (sym w.self-is)
            (named_more word moves marks n _ c.args.self.now.homes c.loop-m.self.homes w.give_missing.new.self.homes at
            w.if-marks-m.true c.loop-m.invariant.gives w.in_ok-give_missing.ensures.gives);
        all = λ s has chosen has_marks. subst (HasGiven c.args.space.now s) (sym w.self-is)
            (w.in_ok-give_missing.ensures.all s (c.loop-m.invariant.all s has chosen has_marks)
            (named_offered s c.args.choice.now chosen marks has_marks n _ at w.if-marks-m.true));
        visits = omega (arith, c.loop-m.invariant.visits, c.tick.ensures);
      }
      | else-marks-m w ↦ record {
        gives =
            subst (λ (a : Giving). GivesTo word (IsAmongMarked moves marks (n + 1)) c.args.self.now.homes a.homes)
            (sym w.self-is)
            (named_none word moves marks n _ c.args.self.now.homes c.loop-m.self.homes at
            (λ marked. let clean = w.if-marks-m.false in cc) c.loop-m.invariant.gives);
        all = λ s has chosen has_marks. subst (HasGiven c.args.space.now s) (sym w.self-is)
            (c.loop-m.invariant.all s has chosen has_marks);
        visits = omega (arith, c.loop-m.invariant.visits, c.tick.ensures);
      }
    ]

pub returns-clause-gives : goal.returns-clause-gives
returns-clause-gives g c =
    let whole : c.loop-m.m-index ≡ length c.args.choice.now.stay.moves.items =
    let value = ap length c.deref-m-items.ensures.value in omega (arith, value) in
    subst (λ (n : ℕ). GivesTo (word_at c.args.space.now)
    (IsAmongMarked c.args.choice.now.stay.moves.items c.args.marks.now n) c.args.self.now.homes c.loop-m.self.homes)
    whole c.loop-m.invariant.gives
