use Rattle.std.proofs.Common.{◌≡◌, ◌+◌, ℕ, [], ◌∷◌, length, take, refl, sym, ◌∙◌, ap, subst, arith}
use Rattle.std.specs.Prelude.{slice_get, slice_index_or, Some}
use Rattle.melt_copy.specs.declared.forwarding.Relocation.{Relocation}
use Rattle.melt_move.specs.ScionTurns.{AwaitsTurn}
use Rattle.melt_move.specs.GivenScions.{WritesStubs, given_count}
use Rattle.melt_move.proofs.Elements.{read_at}
use Rattle.melt_move.proofs.GivingScions.{moves_few, have_none, awaits, have_more, others_stay, have_all}
use Rattle.melt_move.proofs.Stubs.{stubs_start, stubs_more, count_more, count_few}
use Rattle.melt_move.proofs.TwoCalls.{rises_both, keeps_disk_none, keeps_disk_both}
use Rattle.melt_move.proofs.scions.give_scions.Given.{Over}
use Rattle.melt_move.proofs.scions.give_scions.Goals as goal
use Rattle.melt_move.proofs.scions.give_scions.Goals.{After-tick}

-- the object of a turn
abbrev move_of : (g : Over) → After-tick g → Relocation
move_of g c =
    slice_index_or c.deref-m-items.result.now c.loop-m.m-index (record {
      from = 0;
      to = 0;
      shape = record { refs = 0; nums = 0 };
    })

turn_is : (g : Over) (c : After-tick g)
    → slice_get c.args.decision.now.choice.stay.moves.items c.loop-m.m-index ≡ Some (move_of g c)
turn_is g c =
    read_at c.deref-m-items.result.now c.args.decision.now.choice.stay.moves.items c.loop-m.m-index _
    c.deref-m-items.ensures.value c.loop-m-test.true

pub loop-m-init : goal.loop-m-init
loop-m-init g c =
    let homes = c.args.decision.now.homes in
    let moves = c.args.decision.now.choice.stay.moves.items in
    record {
      scions = have_none homes moves c.args.disk.now.end c.args.heap.now c.requires;
      written = λ image shows. (
        image,
        shows,
        stubs_start homes moves c.args.heap.now c.args.disk.now.end image,
      );
      stubs = refl;
      visits = omega arith;
      writes = refl;
      keeps = keeps_disk_none g.D.StaleDisk.image g.D.StaleDisk.faults g.D.StaleDisk.read_faults g.D.StaleDisk.lends
          c.args.disk.now;
      end = refl;
    }

pub update_scion-requires-after_bounds : goal.update_scion-requires-after_bounds
update_scion-requires-after_bounds g c κs within =
    let tick = (goal.at.update_scion-requires-after_bounds g c).After-tick in
    let homes = c.args.decision.now.homes in
    let moves = c.args.decision.now.choice.stay.moves.items in
    subst (λ (end : ℕ). AwaitsTurn c.loop-m.heap homes (move_of g tick) end) (sym c.loop-m.invariant.end)
    (awaits homes moves c.args.disk.now.end c.args.heap.now c.requires c.loop-m.m-index (move_of g tick) c.loop-m.heap
    (turn_is g tick) c.loop-m.invariant.scions)

-- how many new homes there are by now
counted_now : (g : Over) (c : After-tick g) (m : Relocation) (more : ℕ)
    → slice_get c.args.decision.now.choice.stay.moves.items c.loop-m.m-index ≡ Some m
    → more ≡ given_count c.args.decision.now.homes (m ∷ [])
    → c.loop-m.stubs + more ≡ given_count c.args.decision.now.homes
    (take (c.loop-m.m-index + 1) c.args.decision.now.choice.stay.moves.items)
counted_now g c m more at is =
    omega (
      arith,
      c.loop-m.invariant.stubs,
      is,
      count_more c.args.decision.now.homes c.args.decision.now.choice.stay.moves.items c.loop-m.m-index m at,
    )

pub overflow_add-stubs : goal.overflow_add-stubs
overflow_add-stubs g c =
    let after = (goal.at.overflow_add-stubs g c).After-tick in
    let homes = c.args.decision.now.homes in
    let moves = c.args.decision.now.choice.stay.moves.items in
    let more = counted_now g after _ c.in_ok-stubs.field-0 (turn_is g after) c.in_ok-stubs.ensures.stubs in
    let few = count_few homes moves (c.loop-m.m-index + 1) in
    let fits = moves_few homes moves c.args.disk.now.end c.args.heap.now c.requires in
    omega (arith, more, few, fits)

pub loop-m-preserved : goal.loop-m-preserved
loop-m-preserved g c =
    let tick = (goal.at.loop-m-preserved g c).After-tick in
    let at = turn_is g tick in
    let homes = c.args.decision.now.homes in
    let moves = c.args.decision.now.choice.stay.moves.items in
    let end = c.args.disk.now.end in
    let old = c.args.heap.now in
    let now = c.loop-m.heap in
    let new = c.update_scion.new.heap in
    let i = c.loop-m.m-index in
    let before = c.loop-m.invariant in
    let turn = c.in_ok-stubs.ensures in
    let made = c.update_scion.ensures in
    record {
      scions = have_more homes moves end old c.requires i _ now at before.scions new turn.turn;
      written = λ image shows.
          let mid = before.written image shows in
          let wrote = turn.written mid.0 mid.1 in (
            wrote.0,
            wrote.1,
            stubs_more homes moves i _ end now new image mid.0 wrote.0 at mid.2
                (subst (λ (e : ℕ). WritesStubs homes (move_of g tick ∷ []) new e mid.0 wrote.0) before.end wrote.2)
                (others_stay homes moves end old c.requires i _ now at before.scions new turn.turn)
                c.requires.homes_apart,
          );
      stubs = counted_now g tick _ c.in_ok-stubs.field-0 at turn.stubs;
      writes = rises_both c.loop-m.stubs c.in_ok-stubs.field-0 (g.D.StaleDisk.writes c.args.disk.now.disk.now)
          (g.D.StaleDisk.writes c.loop-m.disk.disk.now) (g.D.StaleDisk.writes c.update_scion.new.disk.disk.now)
          before.writes turn.one_write_each;
      keeps = keeps_disk_both g.D.StaleDisk.image g.D.StaleDisk.faults g.D.StaleDisk.read_faults g.D.StaleDisk.lends
          c.args.disk.now c.loop-m.disk c.update_scion.new.disk before.keeps made.keeps;
      end = made.end ∙ before.end;
      visits = omega (arith, before.visits, c.tick.ensures);
    }

pub returns-in_err-stubs-clause-keeps : goal.returns-in_err-stubs-clause-keeps
returns-in_err-stubs-clause-keeps g c =
    keeps_disk_both g.D.StaleDisk.image g.D.StaleDisk.faults g.D.StaleDisk.read_faults g.D.StaleDisk.lends
    c.args.disk.now c.loop-m.disk c.update_scion.new.disk c.loop-m.invariant.keeps c.update_scion.ensures.keeps

pub returns-clause-few : goal.returns-clause-few
returns-clause-few g c =
    let homes = c.args.decision.now.homes in
    let moves = c.args.decision.now.choice.stay.moves.items in
    let few = count_few homes moves c.loop-m.m-index in
    let fits = moves_few homes moves c.args.disk.now.end c.args.heap.now c.requires in
    omega (arith, c.loop-m.invariant.stubs, few, fits)

pub returns-clause-scions : goal.returns-clause-scions
returns-clause-scions g c =
    let whole = ap length c.deref-m-items.ensures.value in
    have_all c.args.decision.now.homes c.args.decision.now.choice.stay.moves.items c.args.disk.now.end
    c.args.heap.now c.requires c.loop-m.m-index c.loop-m.heap
    (omega (arith, whole, c.loop-m-test.false, c.loop-m.auto.m-index-end)) c.loop-m.invariant.scions
