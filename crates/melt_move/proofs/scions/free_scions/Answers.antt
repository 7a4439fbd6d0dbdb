use Rattle.std.proofs.Common.{◌≡◌, ◌+◌, sym, ap, subst, arith, length}
use Rattle.std.specs.Prelude.{slice_get, slice_index_or, Some}
use Rattle.melt_space.specs.Space.{word_at}
use Rattle.melt_scion.specs.Scions.{Scions}
use Rattle.melt_move.proofs.Elements.{read_at}
use Rattle.melt_move.proofs.Freeing.{DepartureIs, FreesFirst, departure_is, frees_all, frees_more, frees_none}
use Rattle.melt_move.proofs.Freeing.{still_live}
use Rattle.melt_move.proofs.scions.free_scions.Given.{Over}
use Rattle.melt_move.proofs.scions.free_scions.Goals as goal
use Rattle.melt_move.proofs.scions.free_scions.Goals.{After-tick, in-Some, in_default}

-- the object of this turn
turn_is : (g : Over) (c : After-tick g)
    → slice_get c.args.decision.now.choice.leaving.items c.loop-d.d-index
    ≡ Some (slice_index_or c.deref-d-items.result.now c.loop-d.d-index (record {
      from = 0;
      shape = record { refs = 0; nums = 0 };
    }))
turn_is g c =
    read_at c.deref-d-items.result.now c.args.decision.now.choice.leaving.items c.loop-d.d-index _
    c.deref-d-items.ensures.value c.loop-d-test.true

departure : (g : Over) (c : After-tick g) → DepartureIs c.args.space.now c.args.scions.now
    (slice_index_or c.deref-d-items.result.now c.loop-d.d-index (record {
      from = 0;
      shape = record { refs = 0; nums = 0 };
    }))
departure g c =
    departure_is c.args.space.now c.requires.decided.0 c.args.decision.now c.args.scions.now c.requires.decided.1
    c.requires.decided.2 c.loop-d.d-index _ (turn_is g c)

pub scion_of-requires-clause-small : goal.scion_of-requires-clause-small
scion_of-requires-clause-small g c = (departure g (goal.at.scion_of-requires-clause-small g c).After-tick).small

pub scion_of-requires-clause-word : goal.scion_of-requires-clause-word
scion_of-requires-clause-word g c = (departure g (goal.at.scion_of-requires-clause-word g c).After-tick).within

pub scion_of-requires-clause-names : goal.scion_of-requires-clause-names
scion_of-requires-clause-names g c = (departure g (goal.at.scion_of-requires-clause-names g c).After-tick).names

pub free-requires : goal.free-requires
free-requires g c =
    still_live c.args.space.now c.requires.decided.0 c.args.decision.now c.args.scions.now c.requires.decided.1
    c.requires.decided.2 c.loop-d.d-index _ c.loop-d.scions c.in-Some.ensures.0 c.in-Some.scion
    (turn_is g (goal.at.free-requires g c).After-tick) c.loop-d.invariant.frees c.in-Some.ensures.1

pub loop-d-preserved : goal.loop-d-preserved
loop-d-preserved g c =
    let word = word_at c.args.space.now in
    let leaving = c.args.decision.now.choice.leaving.items in
    let i = c.loop-d.d-index in
    let old = c.args.scions.now in
    let at = turn_is g (goal.at.loop-d-preserved g c).After-tick in
    record {
      frees = elim c.match-scion_of.branch [
        | in-Some w ↦
            subst (λ (now : Scions). FreesFirst word leaving (i + 1) old now) (sym w.scions-is)
            (frees_more word leaving i _ old c.loop-d.scions at c.loop-d.invariant.frees w.free.new.self _
            w.in-Some.scion
            w.in-Some.ensures.1 w.free.ensures.frees w.free.ensures.table)
        | in_default w ↦
            subst (λ (now : Scions). FreesFirst word leaving (i + 1) old now) (sym w.scions-is)
            (frees_none word leaving i _ old c.loop-d.scions at c.loop-d.invariant.frees w.in_default.ensures)
      ];
      visits = omega (arith, c.loop-d.invariant.visits, c.tick.ensures);
    }

pub returns-clause-visits : goal.returns-clause-visits
returns-clause-visits g c =
    let whole = ap length c.deref-d-items.ensures.value in
    omega (arith, whole, c.loop-d-test.false, c.loop-d.auto.d-index-end, c.loop-d.invariant.visits)

pub returns-clause-frees : goal.returns-clause-frees
returns-clause-frees g c =
    let whole = ap length c.deref-d-items.ensures.value in
    frees_all (word_at c.args.space.now) c.args.decision.now.choice.leaving.items c.loop-d.d-index c.args.scions.now
    c.loop-d.scions (omega (arith, whole, c.loop-d-test.false, c.loop-d.auto.d-index-end)) c.loop-d.invariant.frees
