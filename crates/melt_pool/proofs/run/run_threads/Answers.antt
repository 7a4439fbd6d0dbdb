-- The run stands before its first event, told where the disk tells its words.
use Rattle.std.proofs.Common.{ℕ, sym, ◌∙◌, subst}
use Rattle.std.proofs.lemmas.Result.{IfOk-weaker}
use Rattle.std.specs.Prelude.{Bool, is_some}
use Rattle.melt_safepoint.specs.Rows.{RunStands, row_of}
use Rattle.melt_safepoint.specs.Run.{CountsLends}
use Rattle.melt_safepoint.specs.Shown.{shown_by}
use Rattle.melt_safepoint.proofs.Untold.{run_as_told}
use Rattle.melt_pool.specs.Machines.{parallel_view}
use Rattle.melt_pool.proofs.run.run_threads.Given.{Over}
use Rattle.melt_pool.proofs.run.run_threads.Goals as goal
use Rattle.melt_pool.proofs.run.run_threads.Goals.{In_ok-run}

pub run_epochs-requires-clause-stands : goal.run_epochs-requires-clause-stands
run_epochs-requires-clause-stands g c κs within = (
  c.tells.result,
  c.args.trace.now,
  c.args.config,
  c.in_ok-run.ensures.stands (shown_by g.D.StaleDisk.image c.args.space.now) c.requires.end c.requires.limit
      (λ is. sym c.tells.ensures ∙ is),
)

-- the run stands before its first event
begun : (g : Over) (c : In_ok-run g) → RunStands (is_some (g.D.StaleDisk.image c.args.space.now.disk.now))
    c.args.trace.now c.args.config (shown_by g.D.StaleDisk.image c.args.space.now)
    (row_of parallel_view c.in_ok-run.run')
begun g c =
    subst (λ (told : Bool). RunStands told c.args.trace.now c.args.config
    (shown_by g.D.StaleDisk.image c.args.space.now) (row_of parallel_view c.in_ok-run.run')) c.tells.ensures
    (c.in_ok-run.ensures.stands (shown_by g.D.StaleDisk.image c.args.space.now) c.requires.end c.requires.limit
    (λ is. sym c.tells.ensures ∙ is))

pub returns-clause-has_run : goal.returns-clause-has_run
returns-clause-has_run g c =
    let is_told : Bool = is_some (g.D.StaleDisk.image c.args.space.now.disk.now) in
    let at = (goal.at.returns-clause-has_run g c).In_ok-run in
    IfOk-weaker c.run_epochs.result _ _
    (λ done has told some. run_as_told (g.D.StaleDisk.image c.args.space.now.disk.now) told some
    (has is_told c.args.trace.now c.args.config (begun g at))) c.run_epochs.ensures.has_run

pub returns-clause-lends : goal.returns-clause-lends
returns-clause-lends g c =
    let at = (goal.at.returns-clause-lends g c).In_ok-run in
    IfOk-weaker c.run_epochs.result _ _
    (λ done lends. subst (λ (threads : ℕ). CountsLends threads c.args.trace.now done.0
    (g.D.StaleDisk.lends c.args.space.now.disk.now) (g.D.StaleDisk.lends c.run_epochs.new.space.disk.now))
    (begun g at).table.count (lends c.args.trace.now c.in_ok-run.ensures.idle)) c.run_epochs.ensures.lends

pub returns-clause-wrote : goal.returns-clause-wrote
returns-clause-wrote g c =
    let at = (goal.at.returns-clause-wrote g c).In_ok-run in
    IfOk-weaker c.run_epochs.result _ _ (λ done wrote. wrote _ c.args.trace.now c.args.config (begun g at))
    c.run_epochs.ensures.wrote
