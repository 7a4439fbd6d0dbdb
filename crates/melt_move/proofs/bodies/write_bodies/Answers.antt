use Rattle.std.proofs.Common.{◌≡◌, ℕ, ◌+◌, length, take, arith, ap, refl, subst, ◌∙◌}
use Rattle.std.specs.Prelude.{slice_index_or}
use Rattle.melt_word.specs.Words.{cost_of}
use Rattle.melt_copy.specs.Settling.{RisesBy}
use Rattle.melt_copy.proofs.Settled.{rises_more}
use Rattle.melt_move.specs.Bodies.{WritesBodies}
use Rattle.melt_move.specs.Plans.{HasRoom, home_by}
use Rattle.melt_move.proofs.Written.{departs_in, bodies_none, bodies_shown}
use Rattle.melt_move.proofs.TwoCalls.{keeps_disk_none, keeps_disk_both}
use Rattle.melt_move.specs.Visits.{leaving_words}
use Rattle.melt_move.proofs.Elements.{read_at}
use Rattle.melt_move.proofs.Visited.{leaving-first, leaving-next}
use Rattle.melt_move.proofs.bodies.write_bodies.Given.{Over}
use Rattle.melt_move.proofs.bodies.write_bodies.Goals as goal
use Rattle.melt_move.proofs.bodies.write_bodies.Goals.{After-tick}

-- the words of the objects until that of this turn, with it
next_words : (g : Over) (c : After-tick g)
    → leaving_words (take (c.loop-d.d-index + 1) c.args.decision.now.choice.leaving.items)
    ≡ leaving_words (take c.loop-d.d-index c.args.decision.now.choice.leaving.items)
    + cost_of (slice_index_or c.deref-d-items.result.now c.loop-d.d-index (record {
      from = 0;
      shape = record { refs = 0; nums = 0 };
    })).shape
next_words g c =
    leaving-next c.args.decision.now.choice.leaving.items c.loop-d.d-index _
    (read_at c.deref-d-items.result.now c.args.decision.now.choice.leaving.items c.loop-d.d-index (record {
      from = 0;
      shape = record { refs = 0; nums = 0 };
    }) c.deref-d-items.ensures.value c.loop-d-test.true)

pub loop-d-init : goal.loop-d-init
loop-d-init g c = record {
  written = λ s image decided shows. (
    image,
    shows,
    bodies_none s (home_by s.word c.args.decision.now) c.args.disk.now.end c.args.decision.now.choice.leaving.items
        image,
  );
  writes = refl;
  keeps = keeps_disk_none g.D.StaleDisk.image g.D.StaleDisk.faults g.D.StaleDisk.read_faults g.D.StaleDisk.lends
      c.args.disk.now;
  end = refl;
  visits = omega arith;
}

pub write_body-requires-clause-departs : goal.write_body-requires-clause-departs
write_body-requires-clause-departs g c = λ lifetimes outlive.
    let room : HasRoom c.args.decision.now = omega (arith, c.requires.end, c.end.ensures, c.end.type_inv) in
    let decided = c.requires.decided in (
      decided.0,
      departs_in c.args.space.now decided.0 c.args.decision.now c.deref-d-items.result.now c.loop-d.d-index _ decided.1
          room c.deref-d-items.ensures.value c.loop-d-test.true,
    )

pub loop-d-preserved : goal.loop-d-preserved
loop-d-preserved g c =
    let room : HasRoom c.args.decision.now = omega (arith, c.requires.end, c.end.ensures, c.end.type_inv) in
    let before = c.loop-d.invariant in
    let more = c.in_ok-write_body.ensures in
    record {
      written = λ s image decided shows.
          bodies_shown _ _ _ c.deref-d-items.ensures.value c.loop-d-test.true before.end
          (before.written s image decided shows)
          (λ mid now. more.written s mid (departs_in c.args.space.now s c.args.decision.now c.deref-d-items.result.now
          c.loop-d.d-index _ decided room c.deref-d-items.ensures.value c.loop-d-test.true) now);
      writes = rises_more c.loop-d.d-index (g.D.StaleDisk.writes c.args.disk.now.disk.now)
          (g.D.StaleDisk.writes c.loop-d.disk.disk.now) (g.D.StaleDisk.writes c.write_body.new.disk.disk.now)
          before.writes c.write_body.ensures.one_write;
      keeps = keeps_disk_both g.D.StaleDisk.image g.D.StaleDisk.faults g.D.StaleDisk.read_faults g.D.StaleDisk.lends
          c.args.disk.now c.loop-d.disk c.write_body.new.disk before.keeps c.write_body.ensures.keeps;
      end = c.write_body.ensures.end ∙ before.end;
      visits =
          let next = next_words g (goal.at.loop-d-preserved g c).After-tick in
          omega (arith, before.visits, c.tick.ensures, c.write_body.ensures.visits, next);
    }

pub returns-in_err-write_body-clause-visits : goal.returns-in_err-write_body-clause-visits
returns-in_err-write_body-clause-visits g c =
    let next = next_words g (goal.at.returns-in_err-write_body-clause-visits g c).After-tick in
    let all = leaving-first c.args.decision.now.choice.leaving.items (c.loop-d.d-index + 1) in
    omega (arith, c.loop-d.invariant.visits, c.tick.ensures, c.write_body.ensures.visits, next, all)

pub returns-clause-visits : goal.returns-clause-visits
returns-clause-visits g c =
    omega (arith, c.loop-d.invariant.visits, leaving-first c.args.decision.now.choice.leaving.items c.loop-d.d-index)

pub returns-in_err-write_body-clause-keeps : goal.returns-in_err-write_body-clause-keeps
returns-in_err-write_body-clause-keeps g c =
    keeps_disk_both g.D.StaleDisk.image g.D.StaleDisk.faults g.D.StaleDisk.read_faults g.D.StaleDisk.lends
    c.args.disk.now c.loop-d.disk c.write_body.new.disk c.loop-d.invariant.keeps c.write_body.ensures.keeps

pub returns-clause-one_write_each : goal.returns-clause-one_write_each
returns-clause-one_write_each g c =
    let all : c.loop-d.d-index ≡ length c.args.decision.now.choice.leaving.items =
    omega (
      arith,
      ap length c.deref-d-items.ensures.value,
      c.loop-d-test.false,
      c.loop-d.auto.d-index-end,
    ) in
    subst (λ (n : ℕ). RisesBy n (g.D.StaleDisk.writes c.args.disk.now.disk.now)
    (g.D.StaleDisk.writes c.loop-d.disk.disk.now)) all c.loop-d.invariant.writes

pub returns-clause-written : goal.returns-clause-written
returns-clause-written g c = λ s image decided shows.
    let leaving = c.args.decision.now.choice.leaving.items in
    let all : c.loop-d.d-index ≡ length leaving =
    omega (
      arith,
      ap length c.deref-d-items.ensures.value,
      c.loop-d-test.false,
      c.loop-d.auto.d-index-end,
    ) in
    let home = home_by s.word c.args.decision.now in
    let written = c.loop-d.invariant.written s image decided shows in (
      written.0,
      written.1,
      subst (λ (n : ℕ). WritesBodies s home c.args.disk.now.end leaving n image written.0) all written.2,
    )
