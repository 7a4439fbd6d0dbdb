use Rattle.std.proofs.Common.{◌≡◌, ℕ, ◌+◌, arith, refl, sym, ap, subst, ◌∙◌, List, length}
use Rattle.std.proofs.lemmas.Result.{IfOk-weaker}
use Rattle.melt_space.specs.Space.{word_at}
use Rattle.melt_copy.specs.Settling.{RisesBy}
use Rattle.melt_move.specs.KeptDisk.{KeepsDisk}
use Rattle.melt_move.specs.declared.homes.Given.{Given}
use Rattle.melt_move.specs.Plans.{home_by, need_for}
use Rattle.melt_move.specs.Bodies.{WritesBodies}
use Rattle.melt_move.specs.GivenScions.{WritesStubs}
use Rattle.melt_move.specs.Collecting.{AreShapes}
use Rattle.melt_scion.specs.Heaps.{Shows, state_of}
use Rattle.melt_move.proofs.Awaiting.{given_shapes, stays_within, await_scions, names_may_go}
use Rattle.melt_move.proofs.Nothing.{on_ok_both}
use Rattle.melt_move.proofs.CarriedOut.{carries_out}
use Rattle.melt_move.proofs.TwoCalls.{rises_both, keeps_disk_same, keeps_disk_both}
use Rattle.melt_move.proofs.collect.carry_out.Given.{Over}
use Rattle.melt_move.proofs.collect.carry_out.Goals as goal
use Rattle.melt_move.proofs.collect.carry_out.Goals.{After-write_bodies}

pub reserve_homes-requires-clause-shapes : goal.reserve_homes-requires-clause-shapes
reserve_homes-requires-clause-shapes g c = λ κs within.
    let formed = c.requires.formed in
    let decided = c.requires.decides formed.maps formed.disk (formed.end_is ∙ sym c.requires.first) formed.formed in
    subst AreShapes (sym c.deref.ensures.value)
    (given_shapes c.args.heap.now c.args.held.now formed.disk c.args.decision.now decided)

pub write_bodies-requires-clause-decided : goal.write_bodies-requires-clause-decided
write_bodies-requires-clause-decided g c = λ κs within.
    let formed = c.requires.formed in (
      state_of c.args.heap.now c.args.held.now formed.disk,
      c.requires.decides formed.maps formed.disk (formed.end_is ∙ sym c.requires.first) formed.formed,
    )

pub free_scions-requires-clause-decided : goal.free_scions-requires-clause-decided
free_scions-requires-clause-decided g c =
    let formed = c.requires.formed in (
      state_of c.args.heap.now c.args.held.now formed.disk,
      c.requires.decides formed.maps formed.disk (formed.end_is ∙ sym c.requires.first) formed.formed,
      record { is = λ k. refl },
    )

pub put_back-requires-clause-fits : goal.put_back-requires-clause-fits
put_back-requires-clause-fits g c =
    let formed = c.requires.formed in
    let end = formed.end_is ∙ sym c.requires.first in
    let decided = c.requires.decides formed.maps formed.disk end formed.formed in
    let stand = c.requires.copies.words formed.maps formed.disk end formed.formed in
    let words = stays_within c.args.heap.now c.args.held.now formed.disk c.args.decision.now decided in
    let inside = decided.seen.whole.inside in
    omega (arith, stand.size, words, inside)

pub put_back-requires-clause-names : goal.put_back-requires-clause-names
put_back-requires-clause-names g c =
    let formed = c.requires.formed in
    let decided = c.requires.decides formed.maps formed.disk (formed.end_is ∙ sym c.requires.first) formed.formed in
    names_may_go c.args.heap.now c.args.held.now formed.disk c.args.decision.now decided formed.maps formed.formed
    formed.made formed.names c.args.copied.numbers.items c.requires.numbers

pub put_back-requires-clause-room : goal.put_back-requires-clause-room
put_back-requires-clause-room g c = c.requires.small

pub give_scions-requires-after_bounds : goal.give_scions-requires-after_bounds
give_scions-requires-after_bounds g c = λ κs within.
    let formed = c.requires.formed in
    let end = formed.end_is ∙ sym c.requires.first in
    let decided = c.requires.decides formed.maps formed.disk end formed.formed in
    let stand = c.requires.copies.words formed.maps formed.disk end formed.formed in
    let first = c.requires.first in
    let grown : c.reserve_homes.new.disk.end ≡ c.args.disk.now.end + need_for c.args.decision.now.homes.given.items =
    c.reserve_homes.ensures.end ∙ ap (λ (l : List Given). c.args.disk.now.end + need_for l) c.deref.ensures.value in
    let kept = c.write_bodies.ensures.end in
    await_scions c.args.heap.now c.args.held.now formed.disk c.args.decision.now decided formed.maps formed.formed
    formed.made c.free_scions.new.scions c.free_scions.ensures.frees c.put_back.new.heap c.put_back.new.held
    c.args.copied stand
    c.put_back.ensures.put c.write_bodies.new.disk.end (omega (arith, first, grown, kept))
    (let small = c.requires.small in omega (arith, first, grown, kept, small))

pub returns-clause-carries : goal.returns-clause-carries
returns-clause-carries g c =
    on_ok_both c.give_scions.result _ _ _ c.give_scions.ensures.scions c.give_scions.ensures.written
    (λ have written maps disk end shows names formed.
    let first = c.requires.first in
    let decided = c.requires.decides maps disk (end ∙ sym first) formed in
    let stand = c.requires.copies.words maps disk (end ∙ sym first) formed in
    let stay = c.requires.copies.globals maps disk (end ∙ sym first) formed in
    let grown : c.reserve_homes.new.disk.end ≡ c.args.disk.now.end + need_for c.args.decision.now.homes.given.items =
    c.reserve_homes.ensures.end ∙ ap (λ (l : List Given). c.args.disk.now.end + need_for l) c.deref.ensures.value in
    let kept = c.write_bodies.ensures.end in
    let last = c.give_scions.ensures.end in
    let bodies = c.in_ok-write_bodies.ensures.written (state_of c.args.heap.now c.args.held.now disk) disk.image decided
    (subst (λ d. Shows (g.D.StaleDisk.image d) disk.image) (sym c.reserve_homes.ensures.disk) shows) in
    let stubs = written bodies.0 bodies.1 in
    carries_out maps c.args.heap.now c.args.held.now disk c.args.decision.now decided formed c.requires.formed.made
    c.requires.settled c.free_scions.new.scions c.free_scions.ensures.frees c.put_back.new.heap c.put_back.new.held
    c.args.copied stand stay c.put_back.ensures.put c.give_scions.new.heap have c.give_scions.new.disk.end
    (omega (arith, first, grown, kept, last))
    (let small = c.requires.small in omega (arith, first, grown, kept, last, small))
    disk.image bodies.0 stubs.0 (λ k. refl)
    (subst (λ e. WritesBodies (state_of c.args.heap.now c.args.held.now disk)
    (home_by (word_at c.args.heap.now.space) c.args.decision.now) e c.args.decision.now.choice.leaving.items
    (length c.args.decision.now.choice.leaving.items) disk.image bodies.0) (sym (last ∙ kept)) bodies.2)
    (subst (λ e. WritesStubs c.args.decision.now.homes c.args.decision.now.choice.stay.moves.items
    c.give_scions.new.heap e bodies.0 stubs.0) (sym last) stubs.2) _ stubs.1 names)

-- the disk is kept while homes are reserved and Bodies are written
kept_first : (g : Over) (c : After-write_bodies g)
    → KeepsDisk g.D.StaleDisk.image g.D.StaleDisk.faults g.D.StaleDisk.read_faults g.D.StaleDisk.lends c.args.disk.now
    c.write_bodies.new.disk
kept_first g c =
    let reserves = c.reserve_homes.ensures in
    keeps_disk_both g.D.StaleDisk.image g.D.StaleDisk.faults g.D.StaleDisk.read_faults g.D.StaleDisk.lends
    c.args.disk.now c.reserve_homes.new.disk c.write_bodies.new.disk
    (keeps_disk_same g.D.StaleDisk.image g.D.StaleDisk.faults g.D.StaleDisk.read_faults g.D.StaleDisk.lends
    c.args.disk.now
    c.reserve_homes.new.disk reserves.disk reserves.limit reserves.same_disk) c.write_bodies.ensures.keeps

pub returns-in_err-write_bodies-clause-keeps : goal.returns-in_err-write_bodies-clause-keeps
returns-in_err-write_bodies-clause-keeps g c =
    kept_first g (goal.at.returns-in_err-write_bodies-clause-keeps g c).After-write_bodies

pub returns-clause-keeps : goal.returns-clause-keeps
returns-clause-keeps g c =
    keeps_disk_both g.D.StaleDisk.image g.D.StaleDisk.faults g.D.StaleDisk.read_faults g.D.StaleDisk.lends
    c.args.disk.now
    c.write_bodies.new.disk c.give_scions.new.disk (kept_first g (goal.at.returns-clause-keeps g c).After-write_bodies)
    c.give_scions.ensures.keeps

pub returns-clause-writes : goal.returns-clause-writes
returns-clause-writes g c =
    let writes = g.D.StaleDisk.writes in
    let leaving : ℕ = length c.args.decision.now.choice.leaving.items in
    let before : ℕ = writes c.args.disk.now.disk.now in
    let now : ℕ = writes c.write_bodies.new.disk.disk.now in
    let after : ℕ = writes c.give_scions.new.disk.disk.now in
    let bodies : RisesBy leaving before now =
    subst (λ d. RisesBy leaving (writes d) now) c.reserve_homes.ensures.disk
    c.in_ok-write_bodies.ensures.one_write_each in
    IfOk-weaker c.give_scions.result (λ count. RisesBy count now after)
    (λ count. RisesBy (leaving + count) before after)
    (λ count stubs. rises_both leaving count before now after bodies stubs) c.give_scions.ensures.one_write_each
