-- The report is that of the run, over the disk that the space was made of.
use Rattle.melt_bench.proofs.run.timed.time_run.Goals as goal

pub returns : goal.returns
returns g c = λ told some.
    (c.in_ok-report.ensures.has_run told (λ yes. rw c.new-space.ensures.disk (some yes))).reported
