-- Epoch after epoch, until all threads have ended.
use Rattle.std.proofs.Common.{refl, sym, ◌∙◌, subst, arith}
use Rattle.std.proofs.lemmas.Result.{err_from_is_err_and}
use Rattle.melt_safepoint.specs.Rows.{Row, RunStands, row_of}
use Rattle.melt_safepoint.specs.Shown.{Shown}
use Rattle.melt_safepoint.proofs.Composing.{stop_counts_then, stops_then}
use Rattle.melt_safepoint.proofs.Epochs.{goes_ended, goes_journal, goes_keeps, goes_rests}
use Rattle.melt_safepoint.proofs.Lends.{all_not_some, as_many, twice_by, twice_first, twice_then}
use Rattle.melt_safepoint.proofs.Losses.{counts_then}
use Rattle.melt_safepoint.proofs.StopLends.{twice_stop_by, twice_stop_first, twice_stop_then}
use Rattle.melt_safepoint.proofs.Writes.{stop_wrote_none, stop_wrote_then, wrote_none, wrote_then}
use Rattle.melt_safepoint.proofs.run.Run.run_all.Goals as goal

pub next_epoch-requires : goal.next_epoch-requires
next_epoch-requires g c κs = (
  (refl, tt),
  (
    c.requires.engine,
    (
      c.requires.stands,
      (
        c.requires.settled,
        c.requires.own,
      ),
    ),
  ),
)

pub returns-in_err-run-clause-stop_lends : goal.returns-in_err-run-clause-stop_lends
returns-in_err-run-clause-stop_lends g c =
    let exit = err_from_is_err_and c.from_residual.result c.from_residual.ensures.1 in
    rw (exit.1, exit.2)
    (λ n by. twice_stop_first _ _ _ _ _ (c.next_epoch.ensures.lends n by) c.in_err-run.ensures.stop_keeps)

pub returns-in_err-run-clause-stop_wrote : goal.returns-in_err-run-clause-stop_wrote
returns-in_err-run-clause-stop_wrote g c =
    let exit = err_from_is_err_and c.from_residual.result c.from_residual.ensures.1 in
    rw (exit.1, exit.2) (stop_wrote_none _ _ _ _ c.in_err-run.ensures.stop_keeps c.next_epoch.ensures.writes)

pub loop-alloc-init : goal.loop-alloc-init
loop-alloc-init g c =
    let old : Row = row_of g.E.Machine.view c.args.self in
    let new : Row = row_of g.E.Machine.view c.in_ok-run.run' in
    let goes = c.in_ok-run.ensures.goes in
    record {
      keeps = λ told script config stands.
          subst (λ (shown : Shown). RunStands told script config shown new) (sym c.next_epoch.ensures.shown)
          (goes_keeps told script config _ old new goes stands c.requires.settled c.requires.own);
      rests = goes_rests _ old new goes;
      lost = c.in_ok-run.ensures.lost;
      wrote = wrote_none _ _ _ _ (goes_journal _ old new goes) c.next_epoch.ensures.writes;
      lends = λ n by. twice_first _ _ _ _ _ (c.next_epoch.ensures.lends n by) (goes_journal _ old new goes);
      idle = λ all. (goes_ended _ old new goes all, c.next_epoch.ensures.idle all);
      count = c.next_epoch.ensures.count;
      same_disk = c.next_epoch.ensures.same_disk;
    }

pub pass_safepoint-requires : goal.pass_safepoint-requires
pass_safepoint-requires g c κs =
    let stands = c.requires.stands in (
      (refl, tt),
      (
        c.requires.engine,
        (
          (stands.0, stands.1, stands.2, c.loop-alloc.invariant.keeps stands.0 stands.1 stands.2 stands.3),
          (c.loop-alloc.invariant.rests, c.has_ended.ensures.goes c.loop-alloc-test.true),
        ),
      ),
    )

pub loop-alloc-preserved : goal.loop-alloc-preserved
loop-alloc-preserved g c = record {
  keeps = λ told script config stands.
      c.in_ok-run-2.ensures.keeps told script config (c.loop-alloc.invariant.keeps told script config stands);
  rests = c.in_ok-run-2.ensures.rests;
  lost = counts_then c.args.self.states.items c.loop-alloc.run.states.items c.in_ok-run-2.run'.states.items _ _ _
      c.loop-alloc.invariant.lost c.in_ok-run-2.ensures.lost;
  wrote = wrote_then c.loop-alloc.invariant.wrote c.in_ok-run-2.ensures.wrote;
  lends = λ readers by. twice_then (c.loop-alloc.invariant.lends readers by)
      (twice_by readers
      (as_many (g.S.DiskSpace.sees.shown c.args.space.now) _ (row_of g.E.Machine.view c.args.self)
      (row_of g.E.Machine.view c.loop-alloc.run) c.requires.stands c.loop-alloc.invariant.keeps)
      (c.in_ok-run-2.ensures.lends readers by));
  idle = λ all.
      absurd (all_not_some c.loop-alloc.run.states.items (c.has_ended.ensures.goes c.loop-alloc-test.true)
      (c.loop-alloc.invariant.idle all).0);
  count = omega (arith, c.loop-alloc.invariant.count, c.pass_safepoint.ensures.count);
  same_disk = c.pass_safepoint.ensures.same_disk ∙ c.loop-alloc.invariant.same_disk;
}

pub returns-in_err-run-2-clause-idle : goal.returns-in_err-run-2-clause-idle
returns-in_err-run-2-clause-idle g c all =
    absurd (all_not_some c.loop-alloc.run.states.items (c.has_ended.ensures.goes c.loop-alloc-test.true)
    (c.loop-alloc.invariant.idle all).0)

pub returns-in_err-run-2-clause-stopped : goal.returns-in_err-run-2-clause-stopped
returns-in_err-run-2-clause-stopped g c =
    let exit = err_from_is_err_and c.from_residual-in_err-run-2.result c.from_residual-in_err-run-2.ensures.1 in
    rw (exit.1, exit.2)
    (stops_then _ _ _ (row_of g.E.Machine.view c.args.self) (row_of g.E.Machine.view c.loop-alloc.run) _
    c.loop-alloc.invariant.keeps c.in_err-run-2.ensures.stopped)

pub returns-in_err-run-2-clause-stop_counts : goal.returns-in_err-run-2-clause-stop_counts
returns-in_err-run-2-clause-stop_counts g c =
    let exit = err_from_is_err_and c.from_residual-in_err-run-2.result c.from_residual-in_err-run-2.ensures.1 in
    rw (exit.1, exit.2)
    (stop_counts_then _ _ _ _ _ c.loop-alloc.invariant.count c.pass_safepoint.ensures.count c.loop-alloc.invariant.lost
    c.in_err-run-2.ensures.stop_counts)

pub returns-in_err-run-2-clause-stop_wrote : goal.returns-in_err-run-2-clause-stop_wrote
returns-in_err-run-2-clause-stop_wrote g c =
    let exit = err_from_is_err_and c.from_residual-in_err-run-2.result c.from_residual-in_err-run-2.ensures.1 in
    rw (exit.1, exit.2) (stop_wrote_then _ _ c.loop-alloc.invariant.wrote c.in_err-run-2.ensures.stop_wrote)

pub returns-in_err-run-2-clause-stop_lends : goal.returns-in_err-run-2-clause-stop_lends
returns-in_err-run-2-clause-stop_lends g c =
    let exit = err_from_is_err_and c.from_residual-in_err-run-2.result c.from_residual-in_err-run-2.ensures.1 in
    rw (exit.1, exit.2)
    (λ readers by. twice_stop_then 0 _ _ (c.loop-alloc.invariant.lends readers by)
    (twice_stop_by readers 0 _ _ _ _
    (as_many (g.S.DiskSpace.sees.shown c.args.space.now) _ (row_of g.E.Machine.view c.args.self)
    (row_of g.E.Machine.view c.loop-alloc.run) c.requires.stands c.loop-alloc.invariant.keeps)
    (c.in_err-run-2.ensures.stop_lends readers by)))

pub end-requires : goal.end-requires
end-requires g c =
    let stands = c.requires.stands in
    record {
      stands = (
        g.S.DiskSpace.sees.shown c.loop-alloc.space,
        (stands.0, stands.1, stands.2, c.loop-alloc.invariant.keeps stands.0 stands.1 stands.2 stands.3),
      );
      ended = c.has_ended.ensures.ended c.loop-alloc-test.false;
    }

pub returns-clause-ended : goal.returns-clause-ended
returns-clause-ended g c = λ told script config stands.
    c.end.ensures.stands told script config _ (c.loop-alloc.invariant.keeps told script config stands)

pub returns-clause-lost : goal.returns-clause-lost
returns-clause-lost g c = rw c.end.ensures.states c.loop-alloc.invariant.lost

pub returns-clause-wrote : goal.returns-clause-wrote
returns-clause-wrote g c = rw c.end.ensures.journal c.loop-alloc.invariant.wrote

pub returns-clause-lends : goal.returns-clause-lends
returns-clause-lends g c = rw c.end.ensures.journal c.loop-alloc.invariant.lends
