-- What a call of the program does, from the words and the bytes read to the bytes written.
use Rattle.std.specs.Prelude.{◌≡◌, ℕ, ◌+◌, ◌<◌, ◌≤◌, Bool, true, List, [], length, take, Option, None, Some, IfSome}
use Rattle.std.specs.Prelude.{IsSome, ◌⊎◌, Ok, Err, if◌then◌else◌, slice_get}
use Rattle.melt_io.specs.Outside.{Rose, TakesFront, Appends}
use Rattle.melt_model.specs.declared.history.Entry.{Entry}
use Rattle.melt_model.specs.declared.reports.Halt.{Halt}
use Rattle.melt_model.specs.declared.reports.Report.{Report}
use Rattle.melt_model.specs.declared.reports.ThreadEnd.{ThreadEnd}
use Rattle.melt_model.specs.declared.reports.ThreadEnd.TheVariants as end
use Rattle.melt_model.specs.declared.reports.ThreadReport.{ThreadReport}
use Rattle.melt_scion.specs.declared.heap.Heap.{Heap}
use Rattle.melt_trace.specs.Script.{Script}
use Rattle.melt_trace.specs.Language.{max_bytes, operation_count, script_of}
use Rattle.melt_top.specs.Text.{text, usage_text, read_fault_text, refused_text}
use Rattle.melt_top.specs.Command.{halted_by_full, status_of}
use Rattle.melt_top.specs.declared.command.Command.{Command}
use Rattle.melt_top.specs.declared.command.Command.TheVariants.{Gen, Step, Threads}
use Rattle.melt_top.specs.declared.command.Recipe.{Recipe}
use Rattle.melt_top.specs.declared.command.RunOptions.{RunOptions}
use Rattle.melt_gen.specs.Workloads.{generated}
use Rattle.melt_trace.specs.Grammar.{canonical}
use Rattle.melt_top.specs.declared.status.Status.{Status}
use Rattle.melt_top.specs.declared.text.Texts.{Texts}
use Rattle.melt_top.specs.declared.top.Way.{Way}
use Rattle.melt_top.specs.declared.top.Way.TheVariants as way
use Rattle.melt_top.specs.declared.status.Status.TheVariants as status
use Rattle.melt_safepoint.specs.Run.{HasRun, CountsFaults, CountsLends}
use Rattle.melt_safepoint.specs.Shown.{Shown}
use Rattle.melt_safepoint.specs.Writes.{CountsWrites}

-- What a source or a sink had before a call and after it: its bytes, where it tells them, and its faults.
pub record Change : Type 0 where
  pub before : Option (List ℕ)
  pub after : Option (List ℕ)
  pub faults_before : ℕ
  pub faults_after : ℕ

-- what happened to a source or a sink, of which these say its bytes and its faults
abbrev pub change : {Outside : Type 0} → (Outside → Option (List ℕ)) → (faults : Outside → ℕ) → (old new : Outside)
    → Change
change bytes faults old new = record {
  before = bytes old;
  after = bytes new;
  faults_before = faults old;
  faults_after = faults new;
}

-- What the disk had before a call and after it: its words, where it tells them, the failures of its writes and lends,
-- and those of the reads of readers that were given back; how many readers it lent, and how many records were written.
pub record DiskChange : Type 0 where
  pub before : Option (List ℕ)
  pub after : Option (List ℕ)
  pub faults_before : ℕ
  pub faults_after : ℕ
  pub read_faults_before : ℕ
  pub read_faults_after : ℕ
  pub lends_before : ℕ
  pub lends_after : ℕ
  pub writes_before : ℕ
  pub writes_after : ℕ

-- what happened to a disk, of which these say its words and its counts
abbrev pub disk_change : {Disk : Type 0} → (Disk → Option (List ℕ)) → (faults read_faults lends writes : Disk → ℕ)
    → (old new : Disk) → DiskChange
disk_change image faults read_faults lends writes old new = record {
  before = image old;
  after = image new;
  faults_before = faults old;
  faults_after = faults new;
  read_faults_before = read_faults old;
  read_faults_after = read_faults new;
  lends_before = lends old;
  lends_after = lends new;
  writes_before = writes old;
  writes_after = writes new;
}

-- The disk tells its words, and none of its calls failed.
pub record ServedWell (disk : DiskChange) : Type 0 where
  pub tells : IsSome disk.before
  pub faults : Rose disk.faults_before disk.faults_after → ⊥
  pub read_faults : Rose disk.read_faults_before disk.read_faults_after → ⊥

-- how a thread ends over such a disk: done, out of heap, or halted with all others by a disk that is full
abbrev pub IsServedEnd : Option Halt → ThreadEnd → Type 0
IsServedEnd halted end.Done = Unit {0}
IsServedEnd halted (end.OutOfHeap held need) = Unit {0}
IsServedEnd halted end.DiskFault = ⊥
IsServedEnd halted (end.Damaged home at word) = ⊥
IsServedEnd halted end.Halted = halted_by_full halted ≡ true

-- the disk was not used
pub record IsUnused (disk : DiskChange) : Type 0 where
  pub words : disk.after ≡ disk.before
  pub faults : disk.faults_after ≡ disk.faults_before
  pub read_faults : disk.read_faults_after ≡ disk.read_faults_before
  pub lends : disk.lends_after ≡ disk.lends_before
  pub writes : disk.writes_after ≡ disk.writes_before

-- nothing was read
pub record IsUntouched (input : Change) : Type 0 where
  pub bytes : input.after ≡ input.before
  pub faults : input.faults_after ≡ input.faults_before

-- These bytes were read: all that there were, or one more than a trace may have.
pub record WasRead (input : Change) (bytes : List ℕ) : Type 0 where
  pub front : TakesFront input.before bytes input.after
  pub whole : length bytes ≤ max_bytes → IfSome input.after (λ left. left ≡ [])
  pub no_more : length bytes ≤ max_bytes + 1

-- No more was read than a front of the input, of at most one byte more than a trace may have.
pub record ReadAFront (input : Change) : Type 0 where
  pub bytes : List ℕ
  pub front : TakesFront input.before bytes input.after
  pub no_more : length bytes ≤ max_bytes + 1

-- The bytes are no trace, and the output has the first bad line and why it is bad.
pub record TraceRefused (bytes : List ℕ) (disk : DiskChange) (due : Status) (output : List ℕ) : Type 0 where
  pub line : ℕ
  pub reason : ℕ
  pub first_bad : script_of bytes ≡ Err (line, reason)
  pub disk_stays : IsUnused disk
  pub status : due ≡ status.Trace
  pub written : output ≡ refused_text line reason

-- what a run stores of its history: all, if it is by the written order and that is to be written; else nothing
abbrev pub stored_by : Way → Texts → List Entry → List Entry
stored_by way.Written texts h = if texts.log then h else []
stored_by way.Running texts h = []

-- how many readers an epoch of a script lends at most: one by the written order, and else one for each thread
abbrev pub readers_of : Way → Script → ℕ
readers_of way.Written script = 1
readers_of way.Running script = length script.programs

-- The output is the text of a report of a run of the script. Where the disk tells its words, the replies are those of
-- one legal history, which is a value of the report: where the run is by the written order and that is asked, its log
-- has each entry of it, and is written; and what the run left of its heap stands for this history, over the words that
-- the disk has then. The disk's counts tell of each thread that could not read it, and of a run that it halted by a
-- fault; so where none of them rose, no thread ended by the disk, but for one that was full. And they tell of how many
-- records the collections wrote, and how many readers epochs were lent.
pub record RunDue (way : Way) (script : Script) (run : RunOptions) (disk : DiskChange) (due : Status) (output : List ℕ)
    : Type 0 where
  pub report : Report
  pub heap : Option Heap
  pub shown : Shown
  pub has_run : (told : Bool) → (told ≡ true → IsSome disk.before)
      → HasRun told script run.config shown report heap
  pub logged : report.log ≡ stored_by way run.texts report.history
  pub shows : shown.image ≡ disk.after
  pub counts : CountsFaults report disk.faults_before disk.faults_after disk.read_faults_before disk.read_faults_after
  pub lends : CountsLends (readers_of way script) script report disk.lends_before disk.lends_after
  pub writes : CountsWrites run.config report.halt report.journal disk.writes_before disk.writes_after
  pub complete : ServedWell disk
      → (t : ℕ) (r : ThreadReport) → slice_get report.threads t ≡ Some r → IsServedEnd report.halt r.end
  pub status : due ≡ status_of report
  pub written : output ≡ text (record { report = report; texts = run.texts })

-- the bytes are a trace, and it was run
pub record TraceRan (way : Way) (run : RunOptions) (bytes : List ℕ) (disk : DiskChange) (due : Status) (output : List ℕ)
    : Type 0 where
  pub script : Script
  pub says : script_of bytes ≡ Ok script
  pub ran : RunDue way script run disk due output

-- what is due for the bytes of a trace
abbrev pub TraceDue : Way → RunOptions → List ℕ → DiskChange → Status → List ℕ → Type 0
TraceDue way run bytes disk due output = TraceRefused bytes disk due output ⊎ TraceRan way run bytes disk due output

-- the reading failed, after these bytes
pub record CouldNotRead (input : Change) (disk : DiskChange) (due : Status) (output : List ℕ) : Type 0 where
  pub bytes : List ℕ
  pub front : TakesFront input.before bytes input.after
  pub no_more : length bytes ≤ max_bytes + 1
  pub fault : Rose input.faults_before input.faults_after
  pub disk_stays : IsUnused disk
  pub status : due ≡ status.ReadFault
  pub written : output ≡ read_fault_text

-- the input was read
pub record CouldRead (way : Way) (run : RunOptions) (input : Change) (disk : DiskChange) (due : Status) (output : List
    ℕ)
    : Type 0 where
  pub bytes : List ℕ
  pub read : WasRead input bytes
  pub trace : TraceDue way run bytes disk due output

-- what `step` and `run` have to write and to answer
abbrev pub InputDue : Way → RunOptions → Change → DiskChange → Status → List ℕ → Type 0
InputDue way run input disk due output = CouldNotRead input disk due output ⊎ CouldRead way run input disk due output

-- the words mean nothing: nothing is read
pub record NotUnderstood (input : Change) (disk : DiskChange) (due : Status) (output : List ℕ) : Type 0 where
  pub untouched : IsUntouched input
  pub disk_stays : IsUnused disk
  pub status : due ≡ status.Usage
  pub written : output ≡ usage_text

-- the script that is made
abbrev pub script_made : Recipe → Script
script_made recipe = generated recipe.kind recipe.seed recipe.size recipe.threads

-- it would have more operations than a trace may have
abbrev pub IsTooLong : Recipe → Type 0
IsTooLong recipe = 1048576 < operation_count (script_made recipe).programs

-- a trace that would be too long is refused as words that mean nothing are
pub record MadeNone (recipe : Recipe) (due : Status) (output : List ℕ) : Type 0 where
  pub many : IsTooLong recipe
  pub status : due ≡ status.Usage
  pub written : output ≡ usage_text

-- any other trace is written
pub record MadeTrace (recipe : Recipe) (due : Status) (output : List ℕ) : Type 0 where
  pub few : IsTooLong recipe → ⊥
  pub status : due ≡ status.Done
  pub written : output ≡ canonical (script_made recipe)

-- what `gen` has to write and to answer, and it reads nothing
pub record GenDue (recipe : Recipe) (input : Change) (disk : DiskChange) (due : Status) (output : List ℕ)
    : Type 0 where
  pub untouched : IsUntouched input
  pub disk_stays : IsUnused disk
  pub done : MadeNone recipe due output ⊎ MadeTrace recipe due output

-- What a command has to write and to answer.
abbrev pub Due : Option Command → Change → DiskChange → Status → List ℕ → Type 0
Due None input disk due output = NotUnderstood input disk due output
Due (Some (Step run)) input disk due output = InputDue way.Written run input disk due output
Due (Some (Threads run)) input disk due output = InputDue way.Running run input disk due output
Due (Some (Gen recipe)) input disk due output = GenDue recipe input disk due output

-- the words mean nothing, or a trace that would be too long
abbrev pub IsUsage : Option Command → Type 0
IsUsage None = Unit {0}
IsUsage (Some (Step run)) = ⊥
IsUsage (Some (Threads run)) = ⊥
IsUsage (Some (Gen recipe)) = IsTooLong recipe

-- what was read at most: only `step` and `run` read
abbrev pub ReadAtMost : Option Command → Change → Type 0
ReadAtMost None input = IsUntouched input
ReadAtMost (Some (Step run)) input = ReadAFront input
ReadAtMost (Some (Threads run)) input = ReadAFront input
ReadAtMost (Some (Gen recipe)) input = IsUntouched input

-- everything that was due was written
pub record WroteAll (command : Option Command) (input : Change) (disk : DiskChange) (out : Change)
    (answered : Status) : Type 0 where
  pub output : List ℕ
  pub due : Due command input disk answered output
  pub written : Appends out.before output out.after

-- the writing failed, when a proper front of what was due had been written
pub record WrotePart (command : Option Command) (input : Change) (disk : DiskChange) (out : Change) : Type 0 where
  pub status : Status
  pub output : List ℕ
  pub due : Due command input disk status output
  pub count : ℕ
  pub proper : count < length output
  pub written : Appends out.before (take count output) out.after
  pub fault : Rose out.faults_before out.faults_after

-- Memory was wanted: nothing was written. `step` and `run` read a front of the input, and others read nothing.
pub record GaveUp (command : Option Command) (input out : Change) : Type 0 where
  pub written : Appends out.before [] out.after
  pub read : ReadAtMost command input

-- What a call did, by the status that it answered.
abbrev pub Outcome : Option Command → Change → DiskChange → Change → Status → Type 0
Outcome command input disk out status.NoMemory = GaveUp command input out
Outcome command input disk out status.WriteFault = WrotePart command input disk out
Outcome command input disk out answered = WroteAll command input disk out answered

-- ---- that what can be done is done

-- these bytes are a trace
abbrev pub IsTrace : Option (List ℕ) → Type 0
IsTrace None = ⊥
IsTrace (Some bytes) = (script : Script) × (script_of bytes ≡ Ok script)

-- What the words ask for can be done: the input is a trace, or the trace to be made is not too long.
abbrev pub CanBeDone : Option Command → Change → Type 0
CanBeDone None input = ⊥
CanBeDone (Some (Step run)) input = IsTrace input.before
CanBeDone (Some (Threads run)) input = IsTrace input.before
CanBeDone (Some (Gen recipe)) input = IsTooLong recipe → ⊥

-- nothing that was handed in failed
pub record NothingFailed (input : Change) (disk : DiskChange) (out : Change) : Type 0 where
  pub reading : Rose input.faults_before input.faults_after → ⊥
  pub disk_serves : ServedWell disk
  pub writing : Rose out.faults_before out.faults_after → ⊥

-- the answers to a run over such a disk: that of threads which are all done, else that of one for which the heap has no
-- room, or of a disk that is full
abbrev pub EndsARun : Status → Type 0
EndsARun answered = (answered ≡ status.Done) ⊎ (answered ≡ status.OutOfHeap) ⊎ (answered ≡ status.DiskFull)

-- what is answered then, unless memory is wanted
abbrev pub IsComplete : Option Command → Status → Type 0
IsComplete None answered = ⊥
IsComplete (Some (Step run)) answered = EndsARun answered
IsComplete (Some (Threads run)) answered = EndsARun answered
IsComplete (Some (Gen recipe)) answered = answered ≡ status.Done

-- the statuses that a command has today
abbrev pub IsBuilt : Status → Type 0
IsBuilt status.Done = Unit {0}
IsBuilt status.Usage = Unit {0}
IsBuilt status.Trace = Unit {0}
IsBuilt status.ReadFault = Unit {0}
IsBuilt status.DiskFault = Unit {0}
IsBuilt status.OutOfHeap = Unit {0}
IsBuilt status.DiskFull = Unit {0}
IsBuilt status.WriteFault = Unit {0}
IsBuilt status.NoMemory = Unit {0}
IsBuilt status.Damaged = Unit {0}
IsBuilt status.BadDump = ⊥
IsBuilt status.Illegal = ⊥
