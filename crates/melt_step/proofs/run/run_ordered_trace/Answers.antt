-- The run stands before its first event, told where the disk tells its words.
use Rattle.std.proofs.Common.{rules, ◌≡◌, refl, sym, ◌∙◌, subst}
use Rattle.std.proofs.lemmas.Result.{IfOk-weaker}
use Rattle.std.specs.Prelude.{◌==◌, Bool}
use Rattle.melt_core.specs.Views.{View, view}
use Rattle.melt_safepoint.specs.Collections.{NoneForwarded}
use Rattle.melt_safepoint.specs.Rows.{RunStands, row_of}
use Rattle.melt_safepoint.specs.Run.{HasRun}
use Rattle.melt_safepoint.specs.Shown.{shown_by}
use Rattle.melt_safepoint.proofs.Untold.{run_as_told}
use Rattle.melt_step.specs.Going.{core_view, kept_view}
use Rattle.melt_step.specs.Stored.{stored_view}
use Rattle.melt_step.proofs.Stored.{stored_same}
use Rattle.melt_step.proofs.run.run_ordered_trace.Given.{Over}
use Rattle.melt_step.proofs.run.run_ordered_trace.Goals as goal
use Rattle.melt_step.proofs.run.run_ordered_trace.Goals.{In_ok-run}

-- the run shows to the engine what it shows
same : (g : Over) (c : In_ok-run g) → stored_view (g.row.STORED == 1) (view c.in_ok-run.run'.machine.core)
    ≡ view c.in_ok-run.run'.machine.core
same g c =
    stored_same (g.row.STORED == 1) (view c.in_ok-run.run'.machine.core) c.in_ok-run.ensures.stored

-- and stands so before its first event
stands : (g : Over) (c : In_ok-run g) → RunStands c.tells.result c.args.trace.now c.args.config
    (shown_by g.D.StaleDisk.image c.args.space.now) (row_of kept_view c.in_ok-run.run')
stands g c =
    subst (λ (v : View). RunStands c.tells.result c.args.trace.now c.args.config
    (shown_by g.D.StaleDisk.image c.args.space.now) (record (row_of core_view c.in_ok-run.run') { view = v }))
    (sym (same g c))
    (c.in_ok-run.ensures.stands (shown_by g.D.StaleDisk.image c.args.space.now) c.requires.end c.requires.limit
    (λ is. sym c.tells.ensures ∙ is))

pub run_by_engine-requires : goal.run_by_engine-requires
run_by_engine-requires g c κs = (
  (refl, tt),
  record {
    engine = record {
      may_collect = λ machine alloc collector space force may. search rules;
      collects = λ machine alloc collector d space later force result made. search rules;
      may_run = λ run alloc space first may. search rules;
      runs = λ run alloc space later first result made. search rules;
    };
    stands = (
      c.tells.result,
      c.args.trace.now,
      c.args.config,
      stands g (goal.at.run_by_engine-requires g c).In_ok-run,
    );
    settled = subst NoneForwarded (sym (same g (goal.at.run_by_engine-requires g c).In_ok-run))
        c.in_ok-run.ensures.settled;
    own = c.in_ok-run.ensures.own;
    none_lost = c.in_ok-run.ensures.none_lost;
    none_made = c.in_ok-run.ensures.none_made;
  },
)

pub returns-clause-has_run : goal.returns-clause-has_run
returns-clause-has_run g c =
    IfOk-weaker c.run_by_engine.result _ _
    (λ done has told some. run_as_told (g.D.StaleDisk.image c.args.space.now.disk.now) told some
    (subst (λ (told : Bool). HasRun told c.args.trace.now c.args.config
    (shown_by g.D.StaleDisk.image c.run_by_engine.new.space) done.0 done.1) c.tells.ensures
    (has c.tells.result c.args.trace.now c.args.config
    (stands g (goal.at.returns-clause-has_run g c).In_ok-run)))) c.run_by_engine.ensures.has_run

pub returns-clause-lends : goal.returns-clause-lends
returns-clause-lends g c =
    IfOk-weaker c.run_by_engine.result _ _
    (λ done lends. lends (λ threads. 1) (record { each = λ run alloc space later first result made. search rules })
    c.args.trace.now c.in_ok-run.ensures.idle) c.run_by_engine.ensures.lends

pub returns-clause-wrote : goal.returns-clause-wrote
returns-clause-wrote g c =
    IfOk-weaker c.run_by_engine.result _ _
    (λ done wrote. wrote c.tells.result c.args.trace.now c.args.config
    (stands g (goal.at.returns-clause-wrote g c).In_ok-run)) c.run_by_engine.ensures.wrote
