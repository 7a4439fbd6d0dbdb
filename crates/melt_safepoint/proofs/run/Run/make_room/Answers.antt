-- The call is made first, or after forced Moves, or its thread ends.
use Rattle.std.proofs.Common.{◌≡◌, refl, sym, ap, subst, arith, inl, inr}
use Rattle.std.proofs.lemmas.Result.{err_from_is_err_and}
use Rattle.std.specs.Prelude.{Bool, List, Some, length}
use Rattle.melt_model.specs.declared.config.Config.{Config}
use Rattle.melt_trace.specs.Script.{Script}
use Rattle.melt_safepoint.specs.Epochs.{LacksFirst, RunsEpoch, to_do}
use Rattle.melt_safepoint.specs.Rows.{AwaitsCall, LacksWords, RunStands, journal_of, row_of}
use Rattle.melt_safepoint.specs.Shown.{Shown}
use Rattle.melt_safepoint.specs.Writes.{WroteSince}
use Rattle.melt_safepoint.specs.declared.collector.Collector.{Collector}
use Rattle.melt_safepoint.specs.declared.thread.ThreadState.{ThreadState}
use Rattle.melt_safepoint.proofs.Composing.{stop_counts_then}
use Rattle.melt_safepoint.proofs.Lends.{few_by, lends_more, lends_one, lends_then}
use Rattle.melt_safepoint.proofs.Losses.{counts_then}
use Rattle.melt_safepoint.proofs.StopLends.{stop_by, stop_more, stop_one, stop_then}
use Rattle.melt_safepoint.proofs.TwoMoves.{if_err_from, if_ok_from, stops_first}
use Rattle.melt_safepoint.proofs.Writes.{stop_wrote_none, stop_wrote_then, wrote_none, wrote_then}
use Rattle.melt_safepoint.proofs.run.Run.make_room.Given.{Over}
use Rattle.melt_safepoint.proofs.run.Run.make_room.Goals as goal
use Rattle.melt_safepoint.proofs.run.Run.make_room.Goals.{In-None, In-Some}

pub run_epoch-requires : goal.run_epoch-requires
run_epoch-requires g c κs =
    let awaits = c.requires.awaits in
    ((refl, tt), (c.requires.engine, (awaits.0, awaits.1, awaits.2, (0, awaits.3))))

pub returns-in_err-run-clause-stopped : goal.returns-in_err-run-clause-stopped
returns-in_err-run-clause-stopped g c =
    let exit = err_from_is_err_and c.from_residual.result c.from_residual.ensures.1 in
    rw (exit.1, exit.2) (stops_first _ _ (row_of g.E.Machine.view c.args.self) c.args.thread _
    c.in_err-run.ensures.stopped)

pub returns-in_err-run-clause-stop_lends : goal.returns-in_err-run-clause-stop_lends
returns-in_err-run-clause-stop_lends g c =
    let exit = err_from_is_err_and c.from_residual.result c.from_residual.ensures.1 in
    rw (exit.1, exit.2) (λ n by. stop_more _ 2 _ _ _ _ (omega arith)
    (stop_one _ _ _ _ _ (c.run_epoch.ensures.lends n by) c.in_err-run.ensures.stop_keeps))

pub returns-in_err-run-clause-stop_wrote : goal.returns-in_err-run-clause-stop_wrote
returns-in_err-run-clause-stop_wrote g c =
    let exit = err_from_is_err_and c.from_residual.result c.from_residual.ensures.1 in
    rw (exit.1, exit.2) (stop_wrote_none _ _ _ _ c.in_err-run.ensures.stop_keeps c.run_epoch.ensures.writes)

-- what was seen of the disk is seen still
seen : (g : Over) (c : In-None g) → g.S.DiskSpace.sees.shown c.run_epoch.new.space
    ≡ g.S.DiskSpace.sees.shown c.args.space.now
seen g c = c.run_epoch.ensures.shown

-- the call was made
made : (g : Over) (c : In-None g) → RunsEpoch (g.S.DiskSpace.sees.shown c.args.space.now) (Some c.args.thread)
    (row_of g.E.Machine.view c.args.self) (row_of g.E.Machine.view c.in_ok-run.run')
made g c = rw c.in-None.is at c.in_ok-run.ensures.ends

pub returns-in-None-clause-keeps : goal.returns-in-None-clause-keeps
returns-in-None-clause-keeps g c =
    let at = (goal.at.returns-in-None-clause-keeps g c).In-None in
    λ told script config awaits.
    subst (λ (shown : Shown). RunStands told script config shown (row_of g.E.Machine.view c.in_ok-run.run'))
    (sym (seen g at)) ((made g at).keeps told script config (0, awaits))

pub returns-in-None-clause-makes : goal.returns-in-None-clause-makes
returns-in-None-clause-makes g c told script config awaits =
    inl (made g (goal.at.returns-in-None-clause-makes g c).In-None)

pub returns-in-None-clause-less : goal.returns-in-None-clause-less
returns-in-None-clause-less g c = (made g (goal.at.returns-in-None-clause-less g c).In-None).first_less

pub returns-in-None-clause-rests : goal.returns-in-None-clause-rests
returns-in-None-clause-rests g c = (made g (goal.at.returns-in-None-clause-rests g c).In-None).rests

pub returns-in-None-clause-lends : goal.returns-in-None-clause-lends
returns-in-None-clause-lends g c =
    let runs = made g (goal.at.returns-in-None-clause-lends g c).In-None in
    λ n by. lends_more 2 (omega arith)
    (lends_one _ _ _ _ _ (c.run_epoch.ensures.lends n by) (ap (λ (x : Collector). x.journal.items) runs.collector))

pub returns-in-None-clause-wrote : goal.returns-in-None-clause-wrote
returns-in-None-clause-wrote g c =
    let runs = made g (goal.at.returns-in-None-clause-wrote g c).In-None in
    wrote_none _ _ _ _ (ap (λ (x : Collector). x.journal.items) runs.collector) c.run_epoch.ensures.writes

-- the call lacked words
lacked : (g : Over) (c : In-Some g) → LacksFirst (g.S.DiskSpace.sees.shown c.args.space.now) c.args.thread
    c.in-Some.need (row_of g.E.Machine.view c.args.self) (row_of g.E.Machine.view c.in_ok-run.run')
lacked g c = rw c.in-Some.is at c.in_ok-run.ensures.ends

-- and nothing was written
lacked_wrote : (g : Over) (c : In-Some g) → WroteSince (journal_of (row_of g.E.Machine.view c.args.self))
    (journal_of (row_of g.E.Machine.view c.in_ok-run.run')) (g.S.DiskSpace.sees.writes c.args.space.now)
    (g.S.DiskSpace.sees.writes c.run_epoch.new.space)
lacked_wrote g c =
    wrote_none _ _ _ _ (ap (λ (x : Collector). x.journal.items) (lacked g c).collector) c.run_epoch.ensures.writes

-- told of what is seen then
lacks : (g : Over) (c : In-Some g) (told : Bool) (script : Script) (config : Config)
    → AwaitsCall told script config (g.S.DiskSpace.sees.shown c.args.space.now) 0
    (row_of g.E.Machine.view c.args.self) c.args.thread
    → LacksWords told script config (g.S.DiskSpace.sees.shown c.run_epoch.new.space) 0
    (row_of g.E.Machine.view c.in_ok-run.run') c.args.thread c.in-Some.need
lacks g c told script config awaits =
    subst (λ (shown : Shown). LacksWords told script config shown 0 (row_of g.E.Machine.view c.in_ok-run.run')
    c.args.thread c.in-Some.need) (sym c.run_epoch.ensures.shown) ((lacked g c).keeps told script config 0 awaits)

pub move_for-requires : goal.move_for-requires
move_for-requires g c κs =
    let at = (goal.at.move_for-requires g c).In-Some in
    let awaits = c.requires.awaits in (
      (refl, tt),
      (c.requires.engine, (awaits.0, awaits.1, awaits.2, lacks g at awaits.0 awaits.1 awaits.2 awaits.3)),
    )

pub returns-in-Some-clause-keeps : goal.returns-in-Some-clause-keeps
returns-in-Some-clause-keeps g c =
    let at = (goal.at.returns-in-Some-clause-keeps g c).In-Some in
    if_ok_from c.move_for.result _ _ (λ run keeps told script config awaits.
    keeps told script config (lacks g at told script config awaits)) c.move_for.ensures.keeps

pub returns-in-Some-clause-makes : goal.returns-in-Some-clause-makes
returns-in-Some-clause-makes g c =
    let at = (goal.at.returns-in-Some-clause-makes g c).In-Some in
    if_ok_from c.move_for.result _ _ (λ run makes told script config awaits.
    inr (
      c.in-Some.need,
      (
        row_of g.E.Machine.view c.in_ok-run.run',
        lacked g at,
        makes told script config (lacks g at told script config awaits),
      ),
    )) c.move_for.ensures.makes

pub returns-in-Some-clause-less : goal.returns-in-Some-clause-less
returns-in-Some-clause-less g c =
    let at = (goal.at.returns-in-Some-clause-less g c).In-Some in
    if_ok_from c.move_for.result _ _ (λ run less. omega (arith, less, ap to_do (lacked g at).states))
    c.move_for.ensures.less

pub returns-in-Some-clause-lost : goal.returns-in-Some-clause-lost
returns-in-Some-clause-lost g c =
    if_ok_from c.move_for.result _ _ (λ run lost. counts_then c.args.self.states.items c.in_ok-run.run'.states.items
    run.states.items _ _ _ c.in_ok-run.ensures.lost lost) c.move_for.ensures.lost

pub returns-in-Some-clause-lends : goal.returns-in-Some-clause-lends
returns-in-Some-clause-lends g c =
    let lack = lacked g (goal.at.returns-in-Some-clause-lends g c).In-Some in
    if_ok_from c.move_for.result _ _ (λ run lends readers by. lends_then
    (lends_one _ _ _ _ _ (c.run_epoch.ensures.lends readers by) (ap (λ (x : Collector). x.journal.items) lack.collector))
    (few_by readers (ap (λ (states : List ThreadState). length states) lack.states) (lends readers by)))
    c.move_for.ensures.lends

pub returns-in-Some-clause-wrote : goal.returns-in-Some-clause-wrote
returns-in-Some-clause-wrote g c =
    let at = (goal.at.returns-in-Some-clause-wrote g c).In-Some in
    if_ok_from c.move_for.result _ _ (λ run wrote. wrote_then (lacked_wrote g at) wrote) c.move_for.ensures.wrote

pub returns-in-Some-clause-stop_wrote : goal.returns-in-Some-clause-stop_wrote
returns-in-Some-clause-stop_wrote g c =
    let at = (goal.at.returns-in-Some-clause-stop_wrote g c).In-Some in
    if_err_from c.move_for.result _ _ (λ stop wrote. stop_wrote_then _ stop (lacked_wrote g at) wrote)
    c.move_for.ensures.stop_wrote

pub returns-in-Some-clause-stopped : goal.returns-in-Some-clause-stopped
returns-in-Some-clause-stopped g c =
    let at = (goal.at.returns-in-Some-clause-stopped g c).In-Some in
    if_err_from c.move_for.result _ _ (λ stop stops told script config awaits.
    stops told script config (lacks g at told script config awaits)) c.move_for.ensures.stopped

pub returns-in-Some-clause-stop_counts : goal.returns-in-Some-clause-stop_counts
returns-in-Some-clause-stop_counts g c =
    if_err_from c.move_for.result _ _ (λ stop counts. stop_counts_then stop _ _ _ _ c.run_epoch.ensures.count
    c.move_for.ensures.count c.in_ok-run.ensures.lost counts) c.move_for.ensures.stop_counts

pub returns-in-Some-clause-stop_lends : goal.returns-in-Some-clause-stop_lends
returns-in-Some-clause-stop_lends g c =
    let lack = lacked g (goal.at.returns-in-Some-clause-stop_lends g c).In-Some in
    if_err_from c.move_for.result _ _ (λ stop lends readers by. stop_then 1 _ _
    (lends_one _ _ _ _ _ (c.run_epoch.ensures.lends readers by) (ap (λ (x : Collector). x.journal.items) lack.collector))
    (stop_by readers 1 _ _ _ _ (ap (λ (states : List ThreadState). length states) lack.states) (lends readers by)))
    c.move_for.ensures.stop_lends
