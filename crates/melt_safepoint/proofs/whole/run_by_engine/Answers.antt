-- What stands when the run is over is what all its threads left, or what it was stopped with.
use Rattle.std.proofs.Common.{◌≡◌, ℕ, Some, None, length, refl, sym, ◌∙◌, ap, subst}
use Rattle.std.proofs.lemmas.Result.{IfOk-weaker}
use Rattle.melt_model.specs.declared.reports.Halt.TheVariants as halt
use Rattle.melt_safepoint.specs.Lends.{LendsTwice}
use Rattle.melt_safepoint.specs.Engines.{LendsEach}
use Rattle.melt_safepoint.proofs.Lends.{counts_lends}
use Rattle.melt_safepoint.specs.Writes.{StopWrote}
use Rattle.melt_safepoint.specs.Rows.{StopCounts, StopStores, StopTwice, StopsRun, journal_of, row_of}
use Rattle.melt_safepoint.proofs.Untold.{ended_untold}
use Rattle.melt_safepoint.specs.declared.ending.Ended.{Ended}
use Rattle.melt_safepoint.specs.declared.ending.Stop.{Stop}
use Rattle.melt_safepoint.specs.declared.ending.Stop.TheVariants.{Halted}
use Rattle.melt_safepoint.proofs.Remaining.{counts_faults, both_ok}
use Rattle.melt_safepoint.proofs.Writes.{counts_writes, wrote_all}
use Rattle.melt_safepoint.proofs.whole.run_by_engine.Given.{Over}
use Rattle.melt_safepoint.proofs.whole.run_by_engine.Goals as goal
use Rattle.melt_safepoint.proofs.whole.run_by_engine.Goals.{in-Ok, in-Err-Halted, Joined-run_all}

-- what is left of the run stands, over what is shown then
left : (g : Over) (c : Joined-run_all g)
    → StopsRun (g.S.DiskSpace.sees.shown c.args.space.now) (g.S.DiskSpace.sees.shown c.run_all.new.space)
    (row_of g.E.Machine.view c.args.run) (Halted c.match-run_all.ended)
left g c =
    let Stops : Stop → Type 0 = StopsRun (g.S.DiskSpace.sees.shown c.args.space.now)
    (g.S.DiskSpace.sees.shown c.run_all.new.space) (row_of g.E.Machine.view c.args.run) in
    elim c.match-run_all.branch [
      | in-Ok w ↦ subst (λ (e : Ended). Stops (Halted e)) (sym w.ended-is) w.in-Ok.ensures.ended
      | in-Err-Halted w ↦ subst (λ (e : Ended). Stops (Halted e)) (sym w.ended-is)
          (subst Stops w.in-Err-Halted.field-0-is w.in-Err-Halted.ensures.stopped)
    ]

-- with its counts
counted : (g : Over) (c : Joined-run_all g)
    → StopCounts (Halted c.match-run_all.ended) c.args.run.states.items
    (g.S.DiskSpace.sees.faults c.args.space.now) (g.S.DiskSpace.sees.faults c.run_all.new.space)
    (g.S.DiskSpace.sees.read_faults c.args.space.now) (g.S.DiskSpace.sees.read_faults c.run_all.new.space)
counted g c =
    let Counts : Stop → Type 0 = λ stop. StopCounts stop c.args.run.states.items
    (g.S.DiskSpace.sees.faults c.args.space.now) (g.S.DiskSpace.sees.faults c.run_all.new.space)
    (g.S.DiskSpace.sees.read_faults c.args.space.now)
    (g.S.DiskSpace.sees.read_faults c.run_all.new.space) in
    elim c.match-run_all.branch [
      | in-Ok w ↦ subst (λ (e : Ended). Counts (Halted e)) (sym w.ended-is) (
        λ is. absurd (let none : None ≡ Some halt.DiskFault = sym w.in-Ok.ensures.done ∙ is in cc),
        w.in-Ok.ensures.lost,
      )
      | in-Err-Halted w ↦ subst (λ (e : Ended). Counts (Halted e)) (sym w.ended-is)
          (subst Counts w.in-Err-Halted.field-0-is w.in-Err-Halted.ensures.stop_counts)
    ]

pub run_all-requires : goal.run_all-requires
run_all-requires g c κs =
    let begins = c.requires.begins in
    ((refl, tt), (begins.engine, (begins.stands, (begins.settled, begins.own))))

pub report-requires : goal.report-requires
report-requires g c =
    let stands = c.requires.begins.stands in (
      g.S.DiskSpace.sees.shown c.run_all.new.space,
      (stands.1, stands.2, ended_untold (left g c stands.0 stands.1 stands.2 stands.3)),
    )

pub returns-clause-has_run : goal.returns-clause-has_run
returns-clause-has_run g c =
    let at = (goal.at.returns-clause-has_run g c).Joined-run_all in
    IfOk-weaker c.report.result _ _
    (λ done has told script config stands. has told script config (g.S.DiskSpace.sees.shown c.run_all.new.space)
    (left g at told script config stands)) c.report.ensures.has_run

pub returns-clause-counts : goal.returns-clause-counts
returns-clause-counts g c =
    let at = (goal.at.returns-clause-counts g c).Joined-run_all in
    both_ok c.report.result _ _ _
    (λ done lost halts. counts_faults c.args.run.states.items c.match-run_all.ended done.0 _ _ _
    c.requires.begins.none_lost c.run_all.ensures.count (counted g at) lost halts)
    c.report.ensures.lost c.report.ensures.halt

-- what was written
wrote : (g : Over) (c : Joined-run_all g) → StopWrote (journal_of (row_of g.E.Machine.view c.args.run))
    (g.S.DiskSpace.sees.writes c.args.space.now) (g.S.DiskSpace.sees.writes c.run_all.new.space)
    (Halted c.match-run_all.ended)
wrote g c =
    let js = journal_of (row_of g.E.Machine.view c.args.run) in
    let Wrote : Stop → Type 0 = StopWrote js (g.S.DiskSpace.sees.writes c.args.space.now)
    (g.S.DiskSpace.sees.writes c.run_all.new.space) in
    elim c.match-run_all.branch [
      | in-Ok w ↦ subst (λ (e : Ended). Wrote (Halted e)) (sym w.ended-is)
          (wrote_all js _ _ w.in-Ok.ended w.in-Ok.ensures.done w.in-Ok.ensures.wrote)
      | in-Err-Halted w ↦ subst (λ (e : Ended). Wrote (Halted e)) (sym w.ended-is)
          (subst Wrote w.in-Err-Halted.field-0-is w.in-Err-Halted.ensures.stop_wrote)
    ]

pub returns-clause-wrote : goal.returns-clause-wrote
returns-clause-wrote g c =
    let at = (goal.at.returns-clause-wrote g c).Joined-run_all in
    both_ok c.report.result _ _ _
    (λ done halts journal told script config stands. counts_writes _ _ c.requires.begins.none_made
    (left g at told script config stands) (wrote g at) halts journal)
    c.report.ensures.halt c.report.ensures.journal

-- how often readers were lent
lent : (g : Over) (c : Joined-run_all g) (readers : ℕ → ℕ)
    → LendsEach g.C.Fn g.F.Fn g.E.Machine.view g.E.Machine.stored g.S.DiskSpace.sees c.args.engine.now readers
    → LendsTwice (readers (length c.args.run.states.items)) 1 (g.S.DiskSpace.sees.lends c.args.space.now)
    (g.S.DiskSpace.sees.lends c.run_all.new.space)
    (journal_of (row_of g.E.Machine.view c.args.run)) c.match-run_all.ended.journal.items
lent g c readers each =
    let Lends : Stop → Type 0 =
    StopTwice (readers (length c.args.run.states.items)) 1 (g.S.DiskSpace.sees.lends c.args.space.now)
    (g.S.DiskSpace.sees.lends c.run_all.new.space) (journal_of (row_of g.E.Machine.view c.args.run)) in
    elim c.match-run_all.branch [
      | in-Ok w ↦ subst (λ (e : Ended). Lends (Halted e)) (sym w.ended-is) (w.in-Ok.ensures.lends readers each)
      | in-Err-Halted w ↦ subst (λ (e : Ended). Lends (Halted e)) (sym w.ended-is)
          (subst Lends w.in-Err-Halted.field-0-is (w.in-Err-Halted.ensures.stop_lends readers each))
    ]

pub returns-clause-lends : goal.returns-clause-lends
returns-clause-lends g c =
    let at = (goal.at.returns-clause-lends g c).Joined-run_all in
    IfOk-weaker c.report.result _ _
    (λ done journal readers each script ends. counts_lends script done.0 c.requires.begins.none_made journal
    (lent g at readers each) (λ none. c.run_all.ensures.idle (ends none))) c.report.ensures.journal

-- what was stored of the history
stored : (g : Over) (c : Joined-run_all g)
    → c.match-run_all.ended.left.log ≡ g.E.Machine.stored c.match-run_all.ended.left.history
stored g c =
    let Stores : Stop → Type 0 = StopStores g.E.Machine.stored in
    elim c.match-run_all.branch [
      | in-Ok w ↦ subst (λ (e : Ended). e.left.log ≡ g.E.Machine.stored e.left.history) (sym w.ended-is)
          w.in-Ok.ensures.kept
      | in-Err-Halted w ↦ subst (λ (e : Ended). e.left.log ≡ g.E.Machine.stored e.left.history) (sym w.ended-is)
          (subst Stores w.in-Err-Halted.field-0-is w.in-Err-Halted.ensures.stores)
    ]

pub returns-clause-log : goal.returns-clause-log
returns-clause-log g c =
    let at = (goal.at.returns-clause-log g c).Joined-run_all in
    both_ok c.report.result _ _ _
    (λ done log history. log ∙ (stored g at ∙ ap g.E.Machine.stored (sym history))) c.report.ensures.log
    c.report.ensures.history
