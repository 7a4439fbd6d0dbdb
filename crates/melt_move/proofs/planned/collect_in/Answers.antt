use Rattle.std.proofs.Common.{◌≡◌, ℕ, ◌+◌, refl, sym, ap, subst, arith, rules}
use Rattle.std.specs.Prelude.{IfOk}
use Rattle.std.proofs.lemmas.Result.{IfOk-weaker}
use Rattle.melt_model.specs.declared.reports.Phase.{Phase}
use Rattle.melt_model.specs.declared.reports.Journal.{Journal}
use Rattle.melt_scion.specs.declared.heap.Heap.{Heap}
use Rattle.melt_copy.specs.Copying.{Collects, IsCopying, Journals}
use Rattle.melt_copy.specs.Settling.{RisesBy}
use Rattle.melt_move.specs.declared.collect.MoveRefusal.TheVariants.{NoMemory}
use Rattle.melt_move.specs.Collecting.{IsFormedOn, Moves}
use Rattle.melt_move.specs.Planned.{CollectsIn}
use Rattle.melt_move.proofs.Planning.{collects_copied, formed_copied, formed_moved, refuses_copied}
use Rattle.melt_move.proofs.TwoCalls.{keeps_disk_none}
use Rattle.melt_copy.specs.Visits.{VisitsAtMost}
use Rattle.melt_move.specs.Visits.{visits_in}
use Rattle.melt_move.proofs.Visited.{copying_visits}
use Rattle.melt_move.proofs.planned.collect_in.Goals as goal

pub returns-in-Move-clause-collects : goal.returns-in-Move-clause-collects
returns-in-Move-clause-collects g c =
    let image = g.D.StaleDisk.image in
    subst (λ (phase : Phase). IfOk c.collect_move.result (λ done. CollectsIn phase c.args.heap done.0 c.args.held.now
    c.collect_move.new.held c.args.disk.now.end c.collect_move.new.disk.end (image c.args.disk.now.disk.now)
    (image c.collect_move.new.disk.disk.now) done.1)) (sym c.in-Move.is) c.collect_move.ensures.moves

pub returns-in-Move-clause-formed : goal.returns-in-Move-clause-formed
returns-in-Move-clause-formed g c =
    let before = g.D.StaleDisk.image c.args.disk.now.disk.now in
    let after = g.D.StaleDisk.image c.collect_move.new.disk.disk.now in
    IfOk-weaker c.collect_move.result
    (λ (done : Heap × Journal). Moves c.args.heap done.0 c.args.held.now c.collect_move.new.held c.args.disk.now.end
    c.collect_move.new.disk.end before after done.1)
    (λ (done : Heap × Journal). IsFormedOn done.0 c.collect_move.new.held c.collect_move.new.disk.end)
    (λ done moves. formed_moved c.requires.formed moves) c.collect_move.ensures.moves

pub returns-in-Move-clause-visits : goal.returns-in-Move-clause-visits
returns-in-Move-clause-visits g c =
    subst (λ (phase : Phase). VisitsAtMost (visits_in phase) c.args.heap c.args.held.now c.args.steps.now
    c.collect_move.new.steps) (sym c.in-Move.is) c.collect_move.ensures.visits

pub returns-in-Ok : goal.returns-in-Ok
returns-in-Ok g c =
    let image = g.D.StaleDisk.image c.args.disk.now.disk.now in
    let end : ℕ = c.args.disk.now.end in
    let phase : Phase = c.args.phase in
    let journal : Journal = c.in-Ok.journal in
    let formed = c.requires.formed in
    let copying : IsCopying phase = search rules in
    let collected : Collects c.args.heap c.args.held.now c.collect_copy.new.heap c.collect_copy.new.held phase journal =
    c.in-Ok.ensures.collected in
    let told : Journals journal phase c.collect_copy.new.heap.space.used =
    (collected.each formed.maps formed.disk formed.names formed.formed).journals in
    let bodies = told.no_bodies in
    let stubs = told.no_stubs in
    let none : 0 ≡ journal.bodies + journal.stubs = omega (arith, bodies, stubs) in
    let writes : ℕ = g.D.StaleDisk.writes c.args.disk.now.disk.now in
    record {
      collects =
          collects_copied phase copying (record { collects = collected; end_stays = refl; image_stays = refl });
      formed =
          formed_copied formed collected;
      few = omega (arith, stubs);
      writes = subst (λ (n : ℕ). RisesBy n writes writes) none refl;
      fits = λ moving. absurd (subst IsCopying moving copying);
      visits = copying_visits c.args.phase c.args.heap c.args.held.now c.args.steps.now c.collect_copy.new.steps copying
          c.collect_copy.ensures.visits;
      refused = tt;
      failed = λ is. absurd (cc);
      keeps =
          keeps_disk_none g.D.StaleDisk.image g.D.StaleDisk.faults g.D.StaleDisk.read_faults g.D.StaleDisk.lends
          c.args.disk.now;
    }

pub returns-in-Err : goal.returns-in-Err
returns-in-Err g c =
    let copying : IsCopying c.args.phase = search rules in
    let stays : c.collect_copy.new.heap ≡ c.args.heap = c.in-Err.ensures.heap_stays in
    record {
      collects = tt;
      formed = tt;
      few = tt;
      writes = tt;
      fits = tt;
      visits = copying_visits c.args.phase c.args.heap c.args.held.now c.args.steps.now c.collect_copy.new.steps copying
          c.collect_copy.ensures.visits;
      refused =
          refuses_copied c.args.phase copying (record {
            no_memory = ap NoMemory stays;
            registers_stay = c.in-Err.ensures.registers_stay;
            end_stays = refl;
            disk_stays = refl;
          });
      failed = λ is. absurd (cc);
      keeps =
          keeps_disk_none g.D.StaleDisk.image g.D.StaleDisk.faults g.D.StaleDisk.read_faults g.D.StaleDisk.lends
          c.args.disk.now;
    }
