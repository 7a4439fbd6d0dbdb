-- What the run left of the disk is what the disk has once the space has handed it back.
use Rattle.std.proofs.Common.{rules, true}
use Rattle.melt_top.proofs.top.run_answer.Goals as goal
use Rattle.melt_safepoint.specs.Shown.{shown_by}
use Rattle.melt_top.proofs.Completing.{all_end_well}

pub returns : goal.returns
returns g c = record {
  report = c.in_ok-report.report;
  heap = c.in_ok-report._heap;
  shown = shown_by g.D.StaleDisk.image c.run_by.new.space;
  has_run = λ told some. c.in_ok-report.ensures.has_run told (λ yes. rw c.new-space.ensures.disk (some yes));
  logged = c.in_ok-report.ensures.stored;
  shows = search rules;
  counts = search rules;
  lends = search rules;
  writes = search rules;
  complete = λ served. all_end_well _ _ _ c.in_ok-report.report _
      (c.in_ok-report.ensures.has_run true (λ yes. rw c.new-space.ensures.disk served.tells)).reported.ends (search rules)
      served;
  status = c.status_for.ensures;
  written = c.in_ok-text.ensures;
}
