use Rattle.std.proofs.Common.{◌≡◌, ℕ, ◌+◌, ◌<◌, length, sym, ◌∙◌, ap, subst, arith, inr}
use Rattle.std.proofs.lemmas.Result.{err_from_is_err_and}
use Rattle.std.specs.Prelude.{◌^◌}
use Rattle.melt_model.specs.declared.reports.Phase.{Phase}
use Rattle.melt_model.specs.declared.reports.Journal.{Journal}
use Rattle.melt_copy.specs.Settling.{RisesBy, filled}
use Rattle.melt_copy.specs.Visits.{VisitsAtMost}
use Rattle.melt_move.specs.Visits.{visits_in}
use Rattle.melt_move.specs.Collecting.{IsFormedOn}
use Rattle.melt_move.specs.Planned.{CollectsIn, IsRefusedIn, Settles, phase_done}
use Rattle.melt_move.proofs.Planning.{few_filled, formed_settled, formed_to, refused_settled}
use Rattle.melt_move.proofs.TwoCalls.{rises_both}
use Rattle.melt_move.proofs.planned.collect_planned.Given.{Over}
use Rattle.melt_move.proofs.planned.collect_planned.Goals as goal
use Rattle.melt_move.proofs.planned.collect_planned.Goals.{In-Ok}

pub settle-requires-after_bounds : goal.settle-requires-after_bounds
settle-requires-after_bounds g c κs within =
    formed_to c.args.heap c.args.held.now c.args.disk.now.end c.requires

settled_to : (g : Over) (c : In-Ok g) → Settles c.args.heap c.settle.new.heap c.args.disk.now.end
    (g.D.StaleDisk.image c.args.disk.now.disk.now) (g.D.StaleDisk.image c.settle.new.space.disk.now)
settled_to g c = record {
  keeps = c.in-Ok.ensures.keeps;
  settled = c.in-Ok.ensures.settled;
  all = c.in-Ok.ensures.all;
}

-- the settled heap is well formed, with the registers
settled_formed : (g : Over) (c : In-Ok g) → IsFormedOn c.settle.new.heap c.args.held.now c.args.disk.now.end
settled_formed g c =
    formed_settled c.args.heap c.args.held.now c.args.disk.now.end c.requires c.settle.new.heap
    (g.D.StaleDisk.image c.args.disk.now.disk.now) (g.D.StaleDisk.image c.settle.new.space.disk.now)
    (length c.args.heap.forward) c.in-Ok.ensures.keeps c.in-Ok.ensures.all

pub collect_in-requires-clause-formed : goal.collect_in-requires-clause-formed
collect_in-requires-clause-formed g c κs within =
    subst (λ (end : ℕ). IsFormedOn c.settle.new.heap c.args.held.now end) (sym c.settle.ensures.end)
    (settled_formed g (goal.at.collect_in-requires-clause-formed g c).In-Ok)

pub returns-in_err-heap-clause-refused : goal.returns-in_err-heap-clause-refused
returns-in_err-heap-clause-refused g c =
    let ok = (goal.at.returns-in_err-heap-clause-refused g c).In-Ok in
    let image = g.D.StaleDisk.image in
    let writes = g.D.StaleDisk.writes in
    let phase : Phase = phase_done c.args.force c.args.plan.now.next in
    let refused : IsRefusedIn phase c.settle.new.heap c.args.held.now c.collect_in.new.held c.settle.new.space
    c.collect_in.new.disk c.in_err-heap.field-0.0 =
    subst (λ (p : Phase). IsRefusedIn p c.settle.new.heap c.args.held.now c.collect_in.new.held c.settle.new.space
    c.collect_in.new.disk c.in_err-heap.field-0.0) c.phase-phase.ensures c.in_err-heap.ensures.refused in
    let exit = err_from_is_err_and c.from_residual.result c.from_residual.ensures.1 in
    rw (exit.1, exit.2) (refused_settled c.in_err-heap.field-0.0 (record {
      mid = c.settle.new.heap;
      between = c.settle.new.space;
      settles = settled_to g ok;
      rises = subst (λ (n : ℕ). RisesBy n (writes c.args.disk.now.disk.now) (writes c.settle.new.space.disk.now))
          c.in-Ok.ensures.counts c.in-Ok.ensures.writes;
      end_stays = c.settle.ensures.end;
      limit_stays = c.settle.ensures.limit;
      formed = settled_formed g ok;
      refused = refused;
    }))

pub overflow_add-journal : goal.overflow_add-journal
overflow_add-journal g c =
    let formed = c.requires in
    let settled : filled c.args.heap.forward < 2 ^ 30 =
    few_filled formed.maps c.args.heap c.args.held.now formed.disk formed.formed.words in
    let counts = c.in-Ok.ensures.counts in
    let few = c.in_ok-heap.ensures.few in
    omega (arith, settled, counts, few)

pub returns-clause-collects : goal.returns-clause-collects
returns-clause-collects g c =
    let image = g.D.StaleDisk.image in
    let alone : Journal = c.in_ok-heap.alone in
    let before = image c.settle.new.space.disk.now in
    let after = image c.collect_in.new.disk.disk.now in
    record {
      mid = c.settle.new.heap;
      between = before;
      alone = alone;
      settles = settled_to g (goal.at.returns-clause-collects g c).In-Ok;
      collects =
          subst (λ (phase : Phase). CollectsIn phase c.settle.new.heap c.in_ok-heap.heap c.args.held.now
          c.collect_in.new.held c.args.disk.now.end c.collect_in.new.disk.end before after alone) c.phase-phase.ensures
          (subst (λ (end : ℕ). CollectsIn c.phase-phase.result c.settle.new.heap c.in_ok-heap.heap c.args.held.now
          c.collect_in.new.held end c.collect_in.new.disk.end before after alone) c.settle.ensures.end
          c.in_ok-heap.ensures.collects);
      journal_is = ap (λ (n : ℕ). record alone { stubs = n + alone.stubs; end = c.end.result }) c.in-Ok.ensures.counts
          ∙ ap (λ (end : ℕ). record alone { stubs = filled c.args.heap.forward + alone.stubs; end = end })
          c.end.ensures;
    }

pub returns-clause-writes : goal.returns-clause-writes
returns-clause-writes g c =
    let writes = g.D.StaleDisk.writes in
    let alone : Journal = c.in_ok-heap.alone in
    let before : ℕ = writes c.args.disk.now.disk.now in
    let after : ℕ = writes c.collect_in.new.disk.disk.now in
    let settled : ℕ = c.in-Ok.settled in
    let all : settled + (alone.bodies + alone.stubs) ≡ alone.bodies + (settled + alone.stubs) = omega arith in
    subst (λ (n : ℕ). RisesBy n before after) all (rises_both settled (alone.bodies + alone.stubs) before
    (writes c.settle.new.space.disk.now) after c.in-Ok.ensures.writes c.in_ok-heap.ensures.writes)

pub returns-in_err-heap-clause-visits : goal.returns-in_err-heap-clause-visits
returns-in_err-heap-clause-visits g c = inr (record {
  mid = c.settle.new.heap;
  settled = c.in-Ok.ensures.settled;
  all = c.in-Ok.ensures.all;
  visits =
      subst (λ (p : Phase). VisitsAtMost (visits_in p) c.settle.new.heap c.args.held.now c.args.steps.now
      c.collect_in.new.steps) c.phase-phase.ensures c.collect_in.ensures.visits;
})

pub returns-clause-visits : goal.returns-clause-visits
returns-clause-visits g c = inr (record {
  mid = c.settle.new.heap;
  settled = c.in-Ok.ensures.settled;
  all = c.in-Ok.ensures.all;
  visits =
      subst (λ (p : Phase). VisitsAtMost (visits_in p) c.settle.new.heap c.args.held.now c.args.steps.now
      c.collect_in.new.steps) c.phase-phase.ensures c.collect_in.ensures.visits;
})
