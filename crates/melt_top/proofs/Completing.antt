-- Where nothing failed that was handed in, each thread ends by what it did itself, or by a disk that was full.
use Rattle.std.proofs.Common.{◌≡◌, ◌≢◌, ℕ, zero, suc, ◌+◌, ◌<◌, ◌≤◌, Bool, true, List, [], ◌++◌, length}
use Rattle.std.proofs.Common.{refl, sym, ◌∙◌, ap, subst, arith, inl, inr}
use Rattle.std.proofs.lemmas.Bool.{cases_lt}
use Rattle.std.proofs.lemmas.List.{length-append, append-nil}
use Rattle.std.specs.Prelude.{Option, None, Some, IsSome, IfSome, slice_get, Ok, Err, ◌⊎◌}
use Rattle.melt_model.specs.declared.config.Config.{Config}
use Rattle.melt_model.specs.declared.reports.Halt.{Halt}
use Rattle.melt_model.specs.declared.reports.Halt.TheVariants as halt
use Rattle.melt_model.specs.declared.reports.Report.{Report}
use Rattle.melt_model.specs.declared.reports.ThreadEnd.{ThreadEnd}
use Rattle.melt_model.specs.declared.reports.ThreadEnd.TheVariants as end
use Rattle.melt_model.specs.declared.reports.ThreadReport.{ThreadReport}
use Rattle.melt_io.specs.Outside.{Rose, TakesFront}
use Rattle.melt_trace.specs.Script.{Script}
use Rattle.melt_trace.specs.Language.{max_bytes, script_of}
use Rattle.melt_safepoint.specs.Cuts.{Moment}
use Rattle.melt_safepoint.specs.Run.{CountsFaults, CountsLost, MayEnd, is_lost, lost_in}
use Rattle.melt_top.specs.Command.{halted_by_full, status_of}
use Rattle.melt_top.specs.Headline.{CanBeDone, Change, DiskChange, Due, EndsARun, IsServedEnd, InputDue, IsComplete}
use Rattle.melt_top.specs.Headline.{IsTrace, ServedWell, WasRead}
use Rattle.melt_top.specs.declared.command.Command.{Command}
use Rattle.melt_top.specs.declared.command.Command.TheVariants.{Gen, Step, Threads}
use Rattle.melt_top.specs.declared.command.RunOptions.{RunOptions}
use Rattle.melt_top.specs.declared.status.Status.{Status}
use Rattle.melt_top.specs.declared.status.Status.TheVariants as status
use Rattle.melt_top.specs.declared.top.Way.{Way}
use Rattle.melt_top.specs.declared.top.Way.TheVariants as way
use Rattle.melt_top.proofs.TopLaws.{counted_one, long_refused, report_so, rose_lost, run_fault_rose, run_undamaged}

-- no thread was lost where the count did not rise
none_lost : (lost before after : ℕ) → CountsLost lost before after → (Rose before after → ⊥) → lost ≡ 0
none_lost zero before after counts stays = refl
none_lost (suc lost) before after counts stays =
    absurd (stays (rose_lost (suc lost) before after (omega arith) counts))

-- a run was halted by nothing but a full disk where no fault was counted
halted_full : (report : Report) (h : Option Halt) → report.halt ≡ h → IsSome h
    → (report.halt ≡ Some halt.DiskFault → ⊥) → halted_by_full h ≡ true
halted_full report None is some no_fault = absurd (cc)
halted_full report (Some (halt.DiskFull at need limit)) is some no_fault = refl
halted_full report (Some halt.DiskFault) is some no_fault = absurd (no_fault is)

-- how a thread ended
ends_well : (script : Script) (config : Config) (moments : List Moment) (report : Report) (disk : DiskChange) (t : ℕ)
    (r : ThreadReport)
    → slice_get report.threads t ≡ Some r
    → CountsFaults report disk.faults_before disk.faults_after disk.read_faults_before disk.read_faults_after
    → ServedWell disk → (e : ThreadEnd) → r.end ≡ e → MayEnd true script config moments report t e
    → IsServedEnd report.halt e
ends_well script config moments report disk t r at counts served end.Done is may = tt
ends_well script config moments report disk t r at counts served (end.OutOfHeap held need) is may = tt
ends_well script config moments report disk t r at counts served end.DiskFault is may =
    let one = counted_one (λ (x : ThreadReport). is_lost x.end) report.threads t r at
    (ap is_lost is) in
    omega (
      arith,
      one,
      none_lost (lost_in report) disk.read_faults_before disk.read_faults_after counts.lost
          served.read_faults,
    )
ends_well script config moments report disk t r at counts served (end.Damaged home at_word word) is may = may.0 refl
ends_well script config moments report disk t r at counts served end.Halted is may =
    halted_full report report.halt refl may (λ fault. served.faults (counts.halted fault))

-- how each did
pub all_end_well : (script : Script) (config : Config) (moments : List Moment) (report : Report) (disk : DiskChange)
    → ((t : ℕ) (r : ThreadReport) → slice_get report.threads t ≡ Some r → MayEnd true script config moments report t r.end)
    → CountsFaults report disk.faults_before disk.faults_after disk.read_faults_before disk.read_faults_after
    → ServedWell disk → (t : ℕ) (r : ThreadReport) → slice_get report.threads t ≡ Some r
    → IsServedEnd report.halt r.end
all_end_well script config moments report disk ends counts served t r at =
    ends_well script config moments report disk t r at counts served r.end refl (ends t r at)

-- ---- a trace is not refused

-- what was read of bytes that are a trace is all of them
read_whole : (old bytes : List ℕ) (after : Option (List ℕ)) (script : Script) → script_of old ≡ Ok script
    → TakesFront (Some old) bytes after → (length bytes ≤ max_bytes → IfSome after (λ left. left ≡ [])) → old ≡ bytes
read_whole old bytes None script is front whole = absurd front
read_whole old bytes (Some new) script is front whole = elim (cases_lt max_bytes (length bytes)) [
  | inr short ↦ front ∙ ap (λ (rest : List ℕ). bytes ++ rest) (whole short) ∙ append-nil bytes
  | inl long ↦
      let more = ap length front ∙ length-append bytes new in
      let refused = long_refused old (omega (arith, more, long)) in
      absurd (let e : Ok script ≡ Err (0, 1) = sym is ∙ refused in cc)
]

never_refused : (before : Option (List ℕ)) (bytes : List ℕ) (after : Option (List ℕ)) (line reason : ℕ)
    → IsTrace before → TakesFront before bytes after → (length bytes ≤ max_bytes → IfSome after (λ left. left ≡ []))
    → script_of bytes ≡ Err (line, reason) → ⊥
never_refused None bytes after line reason good front whole bad = good
never_refused (Some old) bytes after line reason (script, is) front whole bad =
    let same = read_whole old bytes after script is front whole in
    let e : Ok script ≡ Err (line, reason) = sym is ∙ ap script_of same ∙ bad in cc

-- ---- what is answered

abbrev Else : Status → Type 0
Else due = due ≢ status.DiskFault → due ≢ status.Damaged → EndsARun due

report_ends : (report : Report) → Else (status_of report)
report_ends report = report_so Else (λ no_fault no_damage. absurd (no_fault refl))
    (λ no_fault no_damage. absurd (no_damage refl)) (λ no_fault no_damage. inr (inr refl))
    (λ no_fault no_damage. inr (inl refl)) (λ no_fault no_damage. inl refl) report

run_complete : (way : Way) (run : RunOptions) (input : Change) (disk : DiskChange) (due : Status) (output : List ℕ)
    → InputDue way run input disk due output → IsTrace input.before
    → (Rose input.faults_before input.faults_after → ⊥) → ServedWell disk → EndsARun due
run_complete way run input disk due output (inl failed) good reading served = absurd (reading failed.fault)
run_complete way run input disk due output (inr read) good reading served =
    let is : InputDue way run input disk due output = inr read in
    elim read.trace [
      | inl refused ↦ absurd (never_refused input.before read.bytes input.after refused.line refused.reason good
          read.read.front read.read.whole refused.first_bad)
      | inr ran ↦ subst Else (sym ran.ran.status) (report_ends ran.ran.report)
          (λ e. elim (run_fault_rose way run input disk due output is e) [
            | inl rose ↦ served.faults rose
            | inr rose ↦ served.read_faults rose
          ])
          (λ e. run_undamaged way run input disk due output is e served.tells)
    ]

-- what is due for what can be done, where nothing failed
pub is_complete : (command : Option Command) (input : Change) (disk : DiskChange) (due : Status) (output : List ℕ)
    → Due command input disk due output → CanBeDone command input
    → (Rose input.faults_before input.faults_after → ⊥) → ServedWell disk → IsComplete command due
is_complete None input disk due output is good reading served = good
is_complete (Some (Step run)) input disk due output is good reading served =
    run_complete way.Written run input disk due output is good reading served
is_complete (Some (Threads run)) input disk due output is good reading served =
    run_complete way.Running run input disk due output is good reading served
is_complete (Some (Gen recipe)) input disk due output is good reading served = elim is.done [
  | inl none ↦ absurd (good none.many)
  | inr trace ↦ trace.status
]
