-- Laws of what is due, and of what was written.
use Rattle.std.proofs.Common.{◌≡◌, ℕ, zero, suc, ◌+◌, ◌<◌, ◌≤◌, Bool, true, false, List, [], ◌∷◌, ◌++◌, length, take}
use Rattle.std.proofs.Common.{refl, sym, ◌∙◌, ap, subst, arith, inl, inr}
use Rattle.std.proofs.lemmas.Bool.{cases_Bool, cond-false, lt-leb}
use Rattle.std.proofs.lemmas.List.Sums.{sum_by-cons}
use Rattle.std.proofs.lemmas.Option.{same_Some}
use Rattle.std.proofs.lemmas.List.{length-take-le, take-append-drop, length-replicate}
use Rattle.std.specs.Prelude.{Option, None, Some, IsSome, slice_get, replicate, nat_le, Err, ◌||◌, ◌⊎◌, if◌then◌else◌}
use Rattle.std.specs.List.{count_by, sum_by}
use Rattle.melt_model.specs.declared.reports.Halt.{Halt}
use Rattle.melt_model.specs.declared.reports.Halt.TheVariants as halt
use Rattle.std.specs.List.{list_any}
use Rattle.melt_io.specs.Outside.{Rose, TakesFront, Appends}
use Rattle.melt_io.specs.Whole.{TakesCount}
use Rattle.melt_model.specs.declared.config.Config.{Config}
use Rattle.melt_model.specs.declared.reports.Report.{Report}
use Rattle.melt_model.specs.declared.reports.ThreadReport.{ThreadReport}
use Rattle.melt_model.specs.declared.reports.ThreadEnd.{ThreadEnd}
use Rattle.melt_model.specs.declared.reports.ThreadEnd.TheVariants as end
use Rattle.melt_trace.specs.Script.{Script}
use Rattle.melt_trace.specs.Language.{max_bytes, script_of}
use Rattle.melt_top.specs.Text.{read_fault_text, refused_text}
use Rattle.melt_top.specs.Command.{exit_number, status_of, ended, is_disk_fault, is_damaged, is_out_of_heap}
use Rattle.melt_top.specs.Command.{halted_by_fault, halted_by_full}
use Rattle.melt_top.specs.Headline.{Change, IsUntouched, ReadAFront, ReadAtMost, InputDue, Due, IsUsage, WroteAll}
use Rattle.melt_top.specs.Headline.{Outcome, IsBuilt, DiskChange, IsUnused, TraceDue}
use Rattle.melt_top.specs.declared.command.Command.{Command}
use Rattle.melt_top.specs.declared.command.RunOptions.{RunOptions}
use Rattle.melt_top.specs.declared.command.Command.TheVariants.{Gen, Step, Threads}
use Rattle.melt_top.specs.declared.status.Status.{Status}
use Rattle.melt_top.specs.declared.status.Status.TheVariants as status
use Rattle.melt_top.specs.declared.top.Way.{Way}
use Rattle.melt_top.specs.declared.top.Way.TheVariants as way
use Rattle.melt_safepoint.specs.Cuts.{Moment}
use Rattle.melt_safepoint.specs.Run.{MayEnd, CountsLost, is_lost, lost_in}

-- the bytes that were taken, by their number
taken : (old new : Option (List ℕ)) (n : ℕ) → TakesCount old n new
    → (bytes : List ℕ) × (length bytes ≡ n) × TakesFront old bytes new
taken None None n count = (replicate n 0, length-replicate n 0, tt)
taken (Some old) (Some new) n count =
    let whole = ap (λ (rest : List ℕ). take n old ++ rest) count.1 ∙ take-append-drop n old in
    (take n old, length-take-le n old count.0, sym whole)
taken None (Some new) n count = absurd count
taken (Some old) None n count = absurd count

pub read_a_front : (input : Change) (n : ℕ) → n ≤ max_bytes + 1 → TakesCount input.before n input.after
    → ReadAFront input
read_a_front input n few count =
    let t = taken input.before input.after n count in
    record { bytes = t.0; front = t.2; no_more = omega (arith, t.1) }

-- the reading failed
pub read_failed : (way : Way) (run : RunOptions) (input : Change) {disk : DiskChange} (n : ℕ) {due : Status} {output :
    List ℕ}
    → n ≤ max_bytes + 1 → TakesCount input.before n input.after → Rose input.faults_before input.faults_after
    → IsUnused disk → due ≡ status.ReadFault → output ≡ read_fault_text → InputDue way run input disk due output
read_failed way run input n few count rose unused is told =
    let t = taken input.before input.after n count in
    inl (record {
      bytes = t.0;
      front = t.2;
      no_more = omega (arith, t.1);
      fault = rose;
      disk_stays = unused;
      status = is;
      written = told;
    })

-- more bytes than a trace may have
pub long_refused : (bytes : List ℕ) → max_bytes < length bytes → script_of bytes ≡ Err (0, 1)
long_refused bytes long = cond-false (nat_le (length bytes) max_bytes) _ _ (lt-leb (length bytes) max_bytes long)

pub too_long : (way : Way) (run : RunOptions) (input : Change) {disk : DiskChange} {n : ℕ} {due : Status} {output : List
    ℕ}
    → n ≡ max_bytes + 1 → TakesCount input.before n input.after → IsUnused disk → due ≡ status.Trace
    → output ≡ refused_text 0 1 → InputDue way run input disk due output
too_long way run input {n} long count unused is told =
    let t = taken input.before input.after n count in
    inr (record {
      bytes = t.0;
      read = record {
        front = t.2;
        whole = λ short. absurd (omega (arith, t.1, long));
        no_more = omega (arith, t.1, long);
      };
      trace = inl (record {
        line = 0;
        reason = 1;
        first_bad = long_refused t.0 (omega (arith, t.1, long));
        disk_stays = unused;
        status = is;
        written = told;
      });
    })

-- ---- statuses of a report

-- the status of a report by what decides it
abbrev first_of : (a b c d : Bool) → Status
first_of a b c d =
    if a then status.DiskFault
    else if b then status.Damaged
    else if c then status.DiskFull
    else if d then status.OutOfHeap
    else status.Done

-- what holds of each of these five holds of the one that applies
first_so : (P : Status → Type 0) → P status.DiskFault → P status.Damaged → P status.DiskFull → P status.OutOfHeap
    → P status.Done → (a b c d : Bool) → P (first_of a b c d)
first_so P fault damage full room done true b c d = fault
first_so P fault damage full room done false true c d = damage
first_so P fault damage full room done false false true d = full
first_so P fault damage full room done false false false true = room
first_so P fault damage full room done false false false false = done

pub report_so : (P : Status → Type 0) → P status.DiskFault → P status.Damaged → P status.DiskFull → P status.OutOfHeap
    → P status.Done → (report : Report) → P (status_of report)
report_so P fault damage full room done report =
    first_so P fault damage full room done (ended is_disk_fault report || halted_by_fault report.halt)
    (ended is_damaged report) (halted_by_full report.halt) (ended is_out_of_heap report)

-- the statuses that reports have
abbrev IsOfReport : Status → Type 0
IsOfReport status.Done = Unit {0}
IsOfReport status.Usage = ⊥
IsOfReport status.Trace = ⊥
IsOfReport status.ReadFault = ⊥
IsOfReport status.DiskFault = Unit {0}
IsOfReport status.OutOfHeap = Unit {0}
IsOfReport status.DiskFull = Unit {0}
IsOfReport status.WriteFault = ⊥
IsOfReport status.NoMemory = ⊥
IsOfReport status.Damaged = Unit {0}
IsOfReport status.BadDump = ⊥
IsOfReport status.Illegal = ⊥

of_report : (report : Report) → IsOfReport (status_of report)
of_report report = report_so IsOfReport tt tt tt tt tt report

-- ---- statuses that are due

-- the statuses that may be due
abbrev MayBeDue : Status → Type 0
MayBeDue status.Done = Unit {0}
MayBeDue status.Usage = Unit {0}
MayBeDue status.Trace = Unit {0}
MayBeDue status.ReadFault = Unit {0}
MayBeDue status.DiskFault = Unit {0}
MayBeDue status.OutOfHeap = Unit {0}
MayBeDue status.DiskFull = Unit {0}
MayBeDue status.WriteFault = ⊥
MayBeDue status.NoMemory = ⊥
MayBeDue status.Damaged = Unit {0}
MayBeDue status.BadDump = ⊥
MayBeDue status.Illegal = ⊥

input_due : (way : Way) (run : RunOptions) (input : Change) (disk : DiskChange) (due : Status) (output : List ℕ)
    → InputDue way run input disk due output → MayBeDue due
input_due way run input disk due output (inl failed) = subst MayBeDue (sym failed.status) tt
input_due way run input disk due output (inr read) = elim read.trace [
  | inl refused ↦ subst MayBeDue (sym refused.status) tt
  | inr ran ↦ subst MayBeDue (sym ran.ran.status) (report_so MayBeDue tt tt tt tt tt ran.ran.report)
]

is_due : (command : Option Command) (input : Change) (disk : DiskChange) (due : Status) (output : List ℕ)
    → Due command input disk due output → MayBeDue due
is_due None input disk due output is = subst MayBeDue (sym is.status) tt
is_due (Some (Step run)) input disk due output is = input_due way.Written run input disk due output is
is_due (Some (Threads run)) input disk due output is = input_due way.Running run input disk due output is
is_due (Some (Gen recipe)) input disk due output is = elim is.done [
  | inl none ↦ subst MayBeDue (sym none.status) tt
  | inr trace ↦ subst MayBeDue (sym trace.status) tt
]

built : (due : Status) → MayBeDue due → IsBuilt due
built status.Done may = tt
built status.Usage may = tt
built status.Trace may = tt
built status.ReadFault may = tt
built status.DiskFault may = tt
built status.OutOfHeap may = tt
built status.DiskFull may = tt
built status.WriteFault may = tt
built status.NoMemory may = tt
built status.Damaged may = tt
built status.BadDump may = may
built status.Illegal may = may

-- what is due has a status of today
pub due_built : (command : Option Command) (input : Change) (disk : DiskChange) (due : Status) (output : List ℕ)
    → Due command input disk due output → IsBuilt due
due_built command input disk due output is = built due (is_due command input disk due output is)

-- what was done, where all was written that may be due
outcome : (command : Option Command) (input : Change) (disk : DiskChange) (out : Change) (due : Status)
    → MayBeDue due → WroteAll command input disk out due → Outcome command input disk out due
outcome command input disk out status.Done may wrote = wrote
outcome command input disk out status.Usage may wrote = wrote
outcome command input disk out status.Trace may wrote = wrote
outcome command input disk out status.ReadFault may wrote = wrote
outcome command input disk out status.DiskFault may wrote = wrote
outcome command input disk out status.OutOfHeap may wrote = wrote
outcome command input disk out status.DiskFull may wrote = wrote
outcome command input disk out status.WriteFault may wrote = absurd may
outcome command input disk out status.NoMemory may wrote = absurd may
outcome command input disk out status.Damaged may wrote = wrote
outcome command input disk out status.BadDump may wrote = wrote
outcome command input disk out status.Illegal may wrote = wrote

-- everything that was due was written
pub wrote_all : (command : Option Command) (input : Change) (disk : DiskChange) (out : Change) (due : Status)
    {output bytes : List ℕ} → Due command input disk due output → bytes ≡ output → Appends out.before bytes out.after
    → Outcome command input disk out due
wrote_all command input disk out due {output} is same written =
    let appended = subst (λ (xs : List ℕ). Appends out.before xs out.after) same written in
    outcome command input disk out due (is_due command input disk due output is)
    (record { output = output; due = is; written = appended })

-- ---- words that are refused

no_usage : (way : Way) (run : RunOptions) (input : Change) (disk : DiskChange) (due : Status) (output : List ℕ)
    → InputDue way run input disk due output → due ≡ status.Usage → ⊥
no_usage way run input disk due output (inl failed) e = omega (arith, ap exit_number failed.status, ap exit_number e)
no_usage way run input disk due output (inr read) e = elim read.trace [
  | inl refused ↦ omega (arith, ap exit_number refused.status, ap exit_number e)
  | inr ran ↦ subst IsOfReport (sym ran.ran.status ∙ e) (of_report ran.ran.report)
]

-- Usage is due only where the words are refused
pub refused_words : (command : Option Command) (input : Change) (disk : DiskChange) (due : Status) (output : List ℕ)
    → Due command input disk due output → due ≡ status.Usage → IsUsage command
refused_words None input disk due output is e = tt
refused_words (Some (Step run)) input disk due output is e = no_usage way.Written run input disk due output is e
refused_words (Some (Threads run)) input disk due output is e = no_usage way.Running run input disk due output is e
refused_words (Some (Gen recipe)) input disk due output is e = elim is.done [
  | inl none ↦ none.many
  | inr trace ↦ absurd (omega (arith, ap exit_number trace.status, ap exit_number e))
]

-- and nothing else is due there
pub usage_due : (command : Option Command) (input : Change) (disk : DiskChange) (due : Status) (output : List ℕ)
    → Due command input disk due output → IsUsage command → due ≡ status.Usage
usage_due None input disk due output is refused = is.status
usage_due (Some (Step run)) input disk due output is refused = absurd refused
usage_due (Some (Threads run)) input disk due output is refused = absurd refused
usage_due (Some (Gen recipe)) input disk due output is long = elim is.done [
  | inl none ↦ none.status
  | inr trace ↦ absurd (trace.few long)
]

-- ---- nothing was read

nothing_taken : (bytes : Option (List ℕ)) → TakesFront bytes [] bytes
nothing_taken None = tt
nothing_taken (Some bytes) = refl

front_of_nothing : (input : Change) → IsUntouched input → ReadAFront input
front_of_nothing input is = record {
  bytes = [];
  front = subst (TakesFront input.before []) (sym is.bytes) (nothing_taken input.before);
  no_more = omega arith;
}

-- a call that read nothing read as little as any
pub read_nothing : (command : Option Command) (input : Change) → IsUntouched input → ReadAtMost command input
read_nothing None input is = is
read_nothing (Some (Step run)) input is = front_of_nothing input is
read_nothing (Some (Threads run)) input is = front_of_nothing input is
read_nothing (Some (Gen recipe)) input is = is

-- ---- causes

input_fault_rose : (way : Way) (run : RunOptions) (input : Change) (disk : DiskChange) (due : Status) (output : List ℕ)
    → InputDue way run input disk due output → due ≡ status.ReadFault → Rose input.faults_before input.faults_after
input_fault_rose way run input disk due output (inl failed) e = failed.fault
input_fault_rose way run input disk due output (inr read) e = elim read.trace [
  | inl refused ↦ absurd (omega (arith, ap exit_number refused.status, ap exit_number e))
  | inr ran ↦ absurd (subst IsOfReport (sym ran.ran.status ∙ e) (of_report ran.ran.report))
]

-- a reading fault is due only where the source's count of faults rose
pub read_fault_rose : (command : Option Command) (input : Change) (disk : DiskChange) (due : Status) (output : List ℕ)
    → Due command input disk due output → due ≡ status.ReadFault
    → Rose input.faults_before input.faults_after
read_fault_rose None input disk due output is e = absurd (omega (arith, ap exit_number is.status, ap exit_number e))
read_fault_rose (Some (Step run)) input disk due output is e =
    input_fault_rose way.Written run input disk due output is e
read_fault_rose (Some (Threads run)) input disk due output is e =
    input_fault_rose way.Running run input disk due output is e
read_fault_rose (Some (Gen recipe)) input disk due output is e = elim is.done [
  | inl none ↦ absurd (omega (arith, ap exit_number none.status, ap exit_number e))
  | inr trace ↦ absurd (omega (arith, ap exit_number trace.status, ap exit_number e))
]

-- a failed write is never due
pub no_write_fault : (command : Option Command) (input : Change) (disk : DiskChange) (due : Status) (output : List ℕ)
    → Due command input disk due output → due ≡ status.WriteFault → ⊥
no_write_fault command input disk due output is e = subst MayBeDue e (is_due command input disk due output is)

-- ---- the disk

-- a refused trace does not use it
pub refused_trace : (way : Way) (run : RunOptions) (bytes : List ℕ) {disk : DiskChange} {due : Status} {output : List ℕ}
    {line reason : ℕ} → script_of bytes ≡ Err (line, reason) → IsUnused disk → due ≡ status.Trace
    → output ≡ refused_text line reason → TraceDue way run bytes disk due output
refused_trace way run bytes {line} {reason} bad unused is told = inl (record {
  line = line;
  reason = reason;
  first_bad = bad;
  disk_stays = unused;
  status = is;
  written = told;
})

-- what decides the status of a report, where it is that of a fault of the disk
fault_cases : (a b c d e : Bool) → first_of (a || b) c d e ≡ status.DiskFault → (a ≡ true) ⊎ (b ≡ true)
fault_cases true b c d e is = inl refl
fault_cases false true c d e is = inr refl
fault_cases false false true d e is = absurd (omega (arith, ap exit_number is))
fault_cases false false false true e is = absurd (omega (arith, ap exit_number is))
fault_cases false false false false true is = absurd (omega (arith, ap exit_number is))
fault_cases false false false false false is = absurd (omega (arith, ap exit_number is))

-- and where it is that of damage
damage_case : (a b c d : Bool) → first_of a b c d ≡ status.Damaged → b ≡ true
damage_case true b c d is = absurd (omega (arith, ap exit_number is))
damage_case false true c d is = refl
damage_case false false true d is = absurd (omega (arith, ap exit_number is))
damage_case false false false true is = absurd (omega (arith, ap exit_number is))
damage_case false false false false is = absurd (omega (arith, ap exit_number is))

-- a thread that could not read the disk is counted
lost_counts : (e : ThreadEnd) → is_disk_fault e ≡ true → is_lost e ≡ true
lost_counts end.DiskFault is = refl
lost_counts end.Done is = absurd (cc)
lost_counts (end.OutOfHeap held need) is = absurd (cc)
lost_counts (end.Damaged home at word) is = absurd (cc)
lost_counts end.Halted is = absurd (cc)

-- some thread has an end for which the test holds
some_ended : (test : ThreadEnd → Bool) (threads : List ThreadReport)
    → list_any (λ (r : ThreadReport). test r.end) threads ≡ true
    → (t : ℕ) × ((r : ThreadReport) × (slice_get threads t ≡ Some r) × (test r.end ≡ true))
some_ended test [] any = absurd (cc)
some_ended test (r ∷ threads) any = elim (cases_Bool (test r.end)) [
  | inl here ↦ (0, (r, refl, here))
  | inr not_here ↦
      let rest : list_any (λ (x : ThreadReport). test x.end) threads ≡ true =
      sym (ap (λ (b : Bool). b || list_any (λ (x : ThreadReport). test x.end) threads) not_here) ∙ any in
      let found = some_ended test threads rest in (suc found.0, found.1)
]

-- and is counted then
pub counted_one : (test : ThreadReport → Bool) (threads : List ThreadReport) (t : ℕ) (r : ThreadReport)
    → slice_get threads t ≡ Some r → test r ≡ true → 1 ≤ count_by test threads
counted_one test [] t r at is = absurd (cc)
counted_one test (x ∷ threads) zero r at is =
    let f : ThreadReport → ℕ = λ (y : ThreadReport). if test y then 1 else 0 in
    let one : f x ≡ 1 = ap (λ (b : Bool). if b then 1 else 0) (ap test (same_Some x r at) ∙ is) in
    omega (arith, one, sum_by-cons f x threads)
counted_one test (x ∷ threads) (suc t) r at is =
    let f : ThreadReport → ℕ = λ (y : ThreadReport). if test y then 1 else 0 in
    let rest : 1 ≤ sum_by f threads = counted_one test threads t r at is in
    omega (arith, rest, sum_by-cons f x threads)

-- the count rose where some thread was lost
pub rose_lost : (lost before after : ℕ) → 1 ≤ lost → CountsLost lost before after → Rose before after
rose_lost lost before after some (inl counted) = λ below. omega (arith, some, counted, below)
rose_lost lost before after some (inr full) = λ below. omega (arith, full, below)

halted_so : (h : Option Halt) → halted_by_fault h ≡ true → h ≡ Some halt.DiskFault
halted_so None is = absurd (cc)
halted_so (Some (halt.DiskFull at need limit)) is = absurd (cc)
halted_so (Some halt.DiskFault) is = refl

pub run_fault_rose : (way : Way) (run : RunOptions) (input : Change) (disk : DiskChange) (due : Status) (output : List
    ℕ)
    → InputDue way run input disk due output → due ≡ status.DiskFault
    → Rose disk.faults_before disk.faults_after ⊎ Rose disk.read_faults_before disk.read_faults_after
run_fault_rose way run input disk due output (inl failed) e =
    absurd (omega (arith, ap exit_number failed.status, ap exit_number e))
run_fault_rose way run input disk due output (inr read) e = elim read.trace [
  | inl refused ↦ absurd (omega (arith, ap exit_number refused.status, ap exit_number e))
  | inr ran ↦
      let report = ran.ran.report in
      elim (fault_cases (ended is_disk_fault report) (halted_by_fault report.halt) (ended is_damaged report)
      (halted_by_full report.halt) (ended is_out_of_heap report) (sym ran.ran.status ∙ e)) [
        | inl ended_so ↦
            let found = some_ended is_disk_fault report.threads ended_so in
            inr (rose_lost (lost_in report) disk.read_faults_before disk.read_faults_after
            (counted_one (λ (r : ThreadReport). is_lost r.end) report.threads found.0 found.1.0 found.1.1
            (lost_counts found.1.0.end found.1.2)) ran.ran.counts.lost)
        | inr halted ↦ inl (ran.ran.counts.halted (halted_so report.halt halted))
      ]
]

-- a fault of the disk is due only where one of its counts rose
pub disk_fault_rose : (command : Option Command) (input : Change) (disk : DiskChange) (due : Status) (output : List ℕ)
    → Due command input disk due output → due ≡ status.DiskFault
    → Rose disk.faults_before disk.faults_after ⊎ Rose disk.read_faults_before disk.read_faults_after
disk_fault_rose None input disk due output is e = absurd (omega (arith, ap exit_number is.status, ap exit_number e))
disk_fault_rose (Some (Step run)) input disk due output is e = run_fault_rose way.Written run input disk due output is e
disk_fault_rose (Some (Threads run)) input disk due output is e =
    run_fault_rose way.Running run input disk due output is e
disk_fault_rose (Some (Gen recipe)) input disk due output is e = elim is.done [
  | inl none ↦ absurd (omega (arith, ap exit_number none.status, ap exit_number e))
  | inr trace ↦ absurd (omega (arith, ap exit_number trace.status, ap exit_number e))
]

-- a thread that ended by damage did not read a disk that tells its words
damaged_untold : (script : Script) (config : Config) (moments : List Moment) (report : Report) (t : ℕ) (e : ThreadEnd)
    → MayEnd true script config moments report t e → is_damaged e ≡ true → ⊥
damaged_untold script config moments report t end.Done may is = absurd (cc)
damaged_untold script config moments report t (end.OutOfHeap held need) may is = absurd (cc)
damaged_untold script config moments report t end.DiskFault may is = absurd (cc)
damaged_untold script config moments report t (end.Damaged home at word) may is = may.0 refl
damaged_untold script config moments report t end.Halted may is = absurd (cc)

pub run_undamaged : (way : Way) (run : RunOptions) (input : Change) (disk : DiskChange) (due : Status) (output : List ℕ)
    → InputDue way run input disk due output → due ≡ status.Damaged → IsSome disk.before → ⊥
run_undamaged way run input disk due output (inl failed) e tells =
    omega (arith, ap exit_number failed.status, ap exit_number e)
run_undamaged way run input disk due output (inr read) e tells = elim read.trace [
  | inl refused ↦ omega (arith, ap exit_number refused.status, ap exit_number e)
  | inr ran ↦
      let report = ran.ran.report in
      let found = some_ended is_damaged report.threads
      (damage_case (ended is_disk_fault report || halted_by_fault report.halt) (ended is_damaged report)
      (halted_by_full report.halt) (ended is_out_of_heap report) (sym ran.ran.status ∙ e)) in
      let reported = (ran.ran.has_run true (λ told. tells)).reported in
      damaged_untold ran.script run.config reported.moments report found.0 found.1.0.end (reported.ends found.0 found.1.0 found.1.1)
      found.1.2
]

-- damage is never due where the disk tells its words
pub never_damaged : (command : Option Command) (input : Change) (disk : DiskChange) (due : Status) (output : List ℕ)
    → Due command input disk due output → due ≡ status.Damaged → IsSome disk.before → ⊥
never_damaged None input disk due output is e tells = omega (arith, ap exit_number is.status, ap exit_number e)
never_damaged (Some (Step run)) input disk due output is e tells =
    run_undamaged way.Written run input disk due output is e tells
never_damaged (Some (Threads run)) input disk due output is e tells =
    run_undamaged way.Running run input disk due output is e tells
never_damaged (Some (Gen recipe)) input disk due output is e tells = elim is.done [
  | inl none ↦ omega (arith, ap exit_number none.status, ap exit_number e)
  | inr trace ↦ omega (arith, ap exit_number trace.status, ap exit_number e)
]
