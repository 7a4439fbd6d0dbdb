-- What threads that have ended lost in an epoch.
use Rattle.std.proofs.Common.{ℕ, ◌≤◌, arith}
use Rattle.std.specs.Prelude.{Bool}
use Rattle.melt_model.specs.declared.reports.ThreadEnd.TheVariants as end
use Rattle.melt_trace.specs.Script.{Script}
use Rattle.melt_safepoint.specs.Modes.{lost}
use Rattle.melt_safepoint.specs.declared.thread.Mode.{Mode}
use Rattle.melt_safepoint.specs.declared.thread.Mode.TheVariants.{Running, Due, Silent, Collecting, Asked, Lacking}
use Rattle.melt_safepoint.specs.declared.thread.Mode.TheVariants.{Ended}
use Rattle.melt_pool.specs.Programs.{EndsWell}

-- a thread that is lost had a fault
pub lost_counted : (told : Bool) (finish : ℕ) (script : Script) (t count : ℕ) {faults : ℕ} (mode : Mode)
    → EndsWell told finish script t count faults mode → lost mode ≤ faults
lost_counted told finish script t count Running ends = omega arith
lost_counted told finish script t count Due ends = omega arith
lost_counted told finish script t count Silent ends = omega arith
lost_counted told finish script t count Collecting ends = omega arith
lost_counted told finish script t count Asked ends = omega arith
lost_counted told finish script t count Lacking ends = omega arith
lost_counted told finish script t count (Ended end.Done) ends = omega arith
lost_counted told finish script t count (Ended (end.OutOfHeap held need)) ends = omega arith
lost_counted told finish script t count (Ended end.DiskFault) ends = ends.1
lost_counted told finish script t count (Ended (end.Damaged home at word)) ends = omega arith
lost_counted told finish script t count (Ended end.Halted) ends = omega arith
