-- What is said of a run that is told holds of it untold too.
use Rattle.std.proofs.Common.{◌≡◌, ℕ, true, false, refl}
use Rattle.std.specs.Prelude.{Bool, List, Option, None, Some, IsSome, is_some}
use Rattle.melt_model.specs.declared.config.Config.{Config}
use Rattle.melt_model.specs.declared.reports.Halt.{Halt}
use Rattle.melt_model.specs.declared.reports.Halt.TheVariants as halt
use Rattle.melt_model.specs.declared.reports.Report.{Report}
use Rattle.melt_model.specs.declared.reports.ThreadEnd.{ThreadEnd}
use Rattle.melt_model.specs.declared.reports.ThreadEnd.TheVariants as end
use Rattle.melt_trace.specs.Script.{Script}
use Rattle.melt_scion.specs.Heaps.{OnDisk}
use Rattle.melt_scion.specs.declared.heap.Heap.{Heap}
use Rattle.melt_safepoint.specs.Ended.{EndedStands, EndsBy}
use Rattle.melt_safepoint.specs.Run.{HasRun, IsLeft, IsStepReport, HasLeft, MayEnd}
use Rattle.melt_safepoint.specs.Cuts.{Moment}
use Rattle.melt_safepoint.specs.Shown.{Shown, Underlies}
use Rattle.melt_safepoint.specs.declared.ending.Ended.{Ended}
use Rattle.melt_safepoint.proofs.Tables.{Table_untold}

-- why a thread may end
end_untold : (script : Script) (config : Config) (moments : List Moment) (report : Report) (t : ℕ) (e : ThreadEnd)
    → MayEnd true script config moments report t e → MayEnd false script config moments report t e
end_untold script config moments report t end.Done may = may
end_untold script config moments report t (end.OutOfHeap held_words need) may = λ (is : false ≡ true). absurd (cc)
end_untold script config moments report t end.DiskFault may = may
end_untold script config moments report t (end.Damaged home at word) may = absurd (may.0 refl)
end_untold script config moments report t end.Halted may = may

-- what is reported
report_untold : {script : Script} {config : Config} {report : Report} → IsStepReport true script config report
    → IsStepReport false script config report
report_untold {script} {config} {report} is = record {
  history = λ (told : false ≡ true). absurd (cc);
  threads = is.threads;
  ends = λ t r at. end_untold script config is.moments report t r.end (is.ends t r at);
  halt = is.halt;
  journal = is.journal;
  moments = is.moments;
  are_moments = λ (told : false ≡ true). absurd (cc);
  lacked = λ (told : false ≡ true). absurd (cc);
  collected = is.collected;
  made = λ (told : false ≡ true). absurd (cc);
  asked = is.asked;
  bounded = is.bounded;
}

-- a heap that is left
left_untold : {script : Script} {config : Config} {shown : Shown} {report : Report} {heap : Heap}
    → IsLeft true script config shown report heap → IsLeft false script config shown report heap
left_untold {script} {config} {shown} {report} {heap} is = record {
  globals = is.globals;
  words = is.words;
  forward_words = is.forward_words;
  placed = λ (told : false ≡ true). absurd (cc);
}

leaves_untold : (script : Script) (config : Config) (shown : Shown) (report : Report) (h : Option Halt)
    (heap : Option Heap) → HasLeft true script config shown report h heap
    → HasLeft false script config shown report h heap
leaves_untold script config shown report None (Some heap) leaves = left_untold leaves
leaves_untold script config shown report (Some (halt.DiskFull end need limit)) (Some heap) leaves =
    (left_untold leaves.0, λ (told : false ≡ true). absurd (cc))
leaves_untold script config shown report (Some halt.DiskFault) None leaves = leaves
leaves_untold script config shown report None None leaves = leaves
leaves_untold script config shown report (Some (halt.DiskFull end need limit)) None leaves = leaves
leaves_untold script config shown report (Some halt.DiskFault) (Some heap) leaves = leaves

-- a whole run
run_untold : {script : Script} {config : Config} {shown : Shown} {report : Report} {heap : Option Heap}
    → HasRun true script config shown report heap → HasRun false script config shown report heap
run_untold {script} {config} {shown} {report} {heap} has = record {
  reported = report_untold has.reported;
  left = leaves_untold script config shown report report.halt heap has.left;
}

-- a run that is told where the disk tells its words
pub run_as_told : (image : Option (List ℕ)) (told : Bool) {script : Script} {config : Config} {shown : Shown}
    {report : Report} {heap : Option Heap} → (told ≡ true → IsSome image)
    → HasRun (is_some image) script config shown report heap → HasRun told script config shown report heap
run_as_told None true some has = absurd (let wrong : false ≡ true = some refl in cc)
run_as_told None false some has = has
run_as_told (Some words) true some has = has
run_as_told (Some words) false some has = run_untold has

-- the disk under a run
under_untold : {told : Bool} {finish : ℕ} {image : Option (List ℕ)} {disk : OnDisk} → Underlies told finish image disk
    → Underlies false finish image disk
under_untold {told} {finish} {image} {disk} under =
    record { ends = under.ends; tells = λ (is : false ≡ true). absurd (cc) }

-- what has ended
pub ended_untold : {told : Bool} {script : Script} {config : Config} {shown : Shown} {ended : Ended}
    → EndedStands told script config shown ended → EndedStands false script config shown ended
ended_untold {told} {script} {config} {shown} {ended} stands = record {
  disk = stands.disk;
  v = stands.v;
  states = stands.states;
  table = Table_untold told script config stands.disk stands.v stands.states stands.table;
  moments = λ (is : false ≡ true). absurd (cc);
  journal = stands.journal;
  made = λ (is : false ≡ true). absurd (cc);
  unpaid = stands.unpaid;
  counts = stands.counts;
  log = stands.log;
  halts = stands.halts;
  cause = by_untold ended.halt ended.left.heap stands.cause;
}
  where
    by_untold : (h : Option Halt) (heap : Option Heap)
        → EndsBy told config shown stands.disk stands.v stands.states ended h heap
        → EndsBy false config shown stands.disk stands.v stands.states ended h heap
    by_untold None (Some heap) by = (by.0, by.1, by.2, under_untold by.3)
    by_untold (Some (halt.DiskFull end need limit)) (Some heap) by = (
      by.0,
      by.1,
      under_untold by.2,
      record {
        end_is = by.3.end_is;
        end_last = by.3.end_last;
        limit_is = by.3.limit_is;
        above = by.3.above;
        may_move = by.3.may_move;
        needs = λ (is : false ≡ true). absurd (cc);
      },
      by.4,
    )
    by_untold (Some halt.DiskFault) None by = by
    by_untold None None by = by
    by_untold (Some (halt.DiskFull end need limit)) None by = by
    by_untold (Some halt.DiskFault) (Some heap) by = by
