-- The run stands between the collections, so each may be made.
use Rattle.std.proofs.Common.{◌≡◌, ◌+◌, ◌<◌, List, length, refl, ◌∙◌, arith}
use Rattle.std.proofs.lemmas.Result.{err_from_is_err_and}
use Rattle.std.specs.Prelude.{Some, slice_get}
use Rattle.melt_safepoint.specs.declared.thread.ThreadState.{ThreadState}
use Rattle.melt_safepoint.proofs.Losses.{counts_same}
use Rattle.melt_safepoint.proofs.Outcomes.{state_at}
use Rattle.melt_safepoint.proofs.Passing.{CollectedBelow, collected_none, collected_more, collected_all}
use Rattle.melt_safepoint.proofs.Lends.{planned_longer}
use Rattle.melt_safepoint.proofs.Composing.{stop_counts_then, stops_there}
use Rattle.melt_safepoint.proofs.OwnCollections.{below_none, below_more, below_all}
use Rattle.melt_safepoint.specs.Rows.{Row, journal_of, row_of}
use Rattle.melt_safepoint.proofs.StopLends.{twice_stop_none}
use Rattle.melt_safepoint.proofs.Writes.{stop_wrote_then, wrote_none, wrote_then}
use Rattle.melt_safepoint.proofs.run.Run.collect_for_all.Goals as goal

pub collect_for-requires : goal.collect_for-requires
collect_for-requires g c κs = (
  (refl, tt),
  (
    c.requires.engine,
    (
      (
        c.requires.stands.0,
        c.requires.stands.1,
        c.requires.stands.2,
        (c.loop-t.invariant.keeps c.requires.stands.0 c.requires.stands.1 c.requires.stands.2 c.requires.stands.3).0,
      ),
      omega (
        arith,
        c.loop-t-test.true,
        c.len-t-end.ensures,
        c.args.self.states.ok.0,
        c.loop-t.invariant.below.count,
      ),
    ),
  ),
)

pub loop-t-init : goal.loop-t-init
loop-t-init g c =
    record {
      keeps = λ told script config rests. rests;
      below = collected_none c.args.self.states.items;
      made = below_none _ (row_of g.E.Machine.view c.args.self);
      lost = refl;
      wrote = wrote_none _ _ _ _ refl refl;
      count = omega arith;
      same_disk = refl;
      lends = refl;
      read_faults = refl;
    }

pub loop-t-preserved : goal.loop-t-preserved
loop-t-preserved g c =
    let states : List ThreadState = c.args.self.states.items in
    let below : CollectedBelow states c.loop-t.run.states.items c.loop-t.t = c.loop-t.invariant.below in
    let within : c.loop-t.t < length c.loop-t.run.states.items =
    omega (arith, c.loop-t-test.true, c.len-t-end.ensures, c.args.self.states.ok.0, below.count) in
    let state : (s : ThreadState) × (slice_get states c.loop-t.t ≡ Some s) =
    state_at states c.loop-t.t (omega (arith, within, below.count)) in
    record {
      keeps = λ told script config rests.
          c.in_ok-run.ensures.keeps told script config (c.loop-t.invariant.keeps told script config rests);
      below = collected_more states c.loop-t.run.states.items c.in_ok-run.run'.states.items c.loop-t.t below within
          c.in_ok-run.ensures.only;
      made = below_more c.loop-t.invariant.made state.1 c.loop-t.invariant.keeps
          (c.in_ok-run.ensures.made state.0 (below.rest c.loop-t.t (omega arith) ∙ state.1));
      lost = c.in_ok-run.ensures.lost ∙ c.loop-t.invariant.lost;
      wrote = wrote_then c.loop-t.invariant.wrote c.in_ok-run.ensures.wrote;
      count = omega (arith, c.in_ok-run.ensures.count, c.loop-t.invariant.count);
      same_disk = c.in_ok-run.ensures.same_disk ∙ c.loop-t.invariant.same_disk;
      lends = c.in_ok-run.ensures.lends ∙ c.loop-t.invariant.lends;
      read_faults = c.in_ok-run.ensures.read_faults ∙ c.loop-t.invariant.read_faults;
    }

pub returns-in_err-run-clause-stopped : goal.returns-in_err-run-clause-stopped
returns-in_err-run-clause-stopped g c =
    let exit = err_from_is_err_and c.from_residual.result c.from_residual.ensures.1 in
    rw (exit.1, exit.2)
    (stops_there _ _ _ (row_of g.E.Machine.view c.args.self) (row_of g.E.Machine.view c.loop-t.run) _
    c.loop-t.invariant.keeps c.in_err-run.ensures.stopped)

pub returns-in_err-run-clause-stop_counts : goal.returns-in_err-run-clause-stop_counts
returns-in_err-run-clause-stop_counts g c =
    let exit = err_from_is_err_and c.from_residual.result c.from_residual.ensures.1 in
    rw (exit.1, exit.2)
    (stop_counts_then _ _ _ _ _ c.loop-t.invariant.count c.in_err-run.ensures.count
    (counts_same c.args.self.states.items c.loop-t.run.states.items _ _
    c.loop-t.invariant.lost (omega (arith, c.loop-t.invariant.read_faults))) c.in_err-run.ensures.stop_counts)

pub returns-in_err-run-clause-stop_wrote : goal.returns-in_err-run-clause-stop_wrote
returns-in_err-run-clause-stop_wrote g c =
    let exit = err_from_is_err_and c.from_residual.result c.from_residual.ensures.1 in
    rw (exit.1, exit.2) (stop_wrote_then _ _ c.loop-t.invariant.wrote c.in_err-run.ensures.stop_wrote)

pub returns-in_err-run-clause-stop_lends : goal.returns-in_err-run-clause-stop_lends
returns-in_err-run-clause-stop_lends g c =
    let exit = err_from_is_err_and c.from_residual.result c.from_residual.ensures.1 in
    let was : Row = row_of g.E.Machine.view c.args.self in
    let now : Row = row_of g.E.Machine.view c.loop-t.run in
    let longer : length (journal_of now) ≡ length (journal_of was) + _ =
    planned_longer c.requires.stands.2 _ (journal_of was) (journal_of now)
    (c.loop-t.invariant.made.planned c.requires.stands.0 c.requires.stands.1 c.requires.stands.2 c.requires.stands.3) in
    rw (exit.1, exit.2)
    (λ n by. twice_stop_none _ _ _ (journal_of was) (journal_of now) _ (c.in_err-run.ensures.lends
    ∙ c.loop-t.invariant.lends)
    (omega (arith, longer)) c.in_err-run.ensures.stop_keeps)

pub returns-clause-all : goal.returns-clause-all
returns-clause-all g c =
    collected_all c.args.self.states.items c.loop-t.run.states.items c.loop-t.t c.loop-t.invariant.below
    (omega (arith, c.loop-t-test.false, c.len-t-end.ensures, c.args.self.states.ok.0))

pub returns-clause-made : goal.returns-clause-made
returns-clause-made g c =
    below_all _ (row_of g.E.Machine.view c.args.self) (row_of g.E.Machine.view c.loop-t.run) c.loop-t.t
    c.loop-t.invariant.made
    (omega (arith, c.loop-t-test.false, c.len-t-end.ensures, c.args.self.states.ok.0))
