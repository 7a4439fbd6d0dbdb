-- What the report of a run says of a trace, and which heap is left.
use Rattle.std.specs.Prelude.{◌≡◌, ℕ, ◌+◌, ◌*◌, ◌-◌, ◌^◌, ◌<◌, ◌≤◌, ◌⊎◌, Bool, true, false}
use Rattle.std.specs.Prelude.{if◌then◌else◌, List, [], length, map, sum, All, slice_get, Option, None, Some}
use Rattle.std.specs.Prelude.{IsSome}
use Rattle.std.specs.List.{count_by}
use Rattle.std.specs.Option.{option_map_or}
use Rattle.melt_model.specs.History.{Legal}
use Rattle.melt_model.specs.Thread.{Transcript, registers_after, value_in}
use Rattle.melt_model.specs.declared.config.Config.{Config}
use Rattle.melt_model.specs.declared.history.Entry.{Entry}
use Rattle.melt_model.specs.declared.history.Value.{Value}
use Rattle.melt_model.specs.declared.history.Value.TheVariants.{Nil}
use Rattle.melt_model.specs.declared.operations.Op.{Op}
use Rattle.melt_model.specs.declared.operations.Op.TheVariants.{Collect}
use Rattle.melt_model.specs.declared.operations.Reply.{Reply}
use Rattle.melt_model.specs.declared.reports.Halt.{Halt}
use Rattle.melt_model.specs.declared.reports.Halt.TheVariants as halt
use Rattle.melt_model.specs.declared.reports.ThreadEnd.{ThreadEnd}
use Rattle.melt_model.specs.declared.reports.ThreadEnd.TheVariants as end
use Rattle.melt_model.specs.declared.reports.ThreadReport.{ThreadReport}
use Rattle.melt_model.specs.declared.reports.Report.{Report}
use Rattle.melt_trace.specs.Script.{Script, operations}
use Rattle.melt_io.specs.Outside.{Rose}
use Rattle.melt_scion.specs.Collected.{CountsWords}
use Rattle.melt_scion.specs.Placed.{Maps, Placed}
use Rattle.melt_scion.specs.Heaps.{OnDisk, state_of, HasMaps}
use Rattle.melt_scion.specs.Scions.{Scions}
use Rattle.melt_scion.specs.declared.heap.Heap.{Heap}
use Rattle.melt_scion.specs.declared.registers.Registers.{Registers}
use Rattle.melt_move.specs.Plans.{WantsHome}
use Rattle.melt_core.specs.Advances.{Breaks}
use Rattle.melt_core.specs.declared.call.Stage.{Stage}
use Rattle.melt_safepoint.specs.Journals.{IsJournalOf, MayMove, before, end_of}
use Rattle.melt_safepoint.specs.Made.{MakesWithin}
use Rattle.melt_safepoint.specs.Needs.{CanLackRoom, IsLoad}
use Rattle.melt_safepoint.specs.Shown.{Shown, Underlies}
use Rattle.melt_safepoint.specs.Asked.{collects, collections}
use Rattle.melt_safepoint.specs.Cuts.{Occasion, AreMoments, IsAmong, IsDue, Moment}

-- The threads' replies are those of one legal history of a heap that never collects, which holds the calls
-- of each thread once and in order, and no others.
pub record HasHistory (script : Script) (history : List Entry) (report : Report) : Type 0 where
  pub legal : Legal history script.globals
  pub threads : length report.threads ≡ length script.programs
  pub transcripts : (t : ℕ) (r : ThreadReport) → slice_get report.threads t ≡ Some r
      → Transcript history t (operations script t) r.replies
  pub own_threads : All (λ e. e.thread < length script.programs) history

-- the replies of a thread
abbrev pub replies_in : Report → ℕ → List Reply
replies_in report t = option_map_or (λ (r : ThreadReport). r.replies) (slice_get report.threads t) []

-- how many replies a thread got
abbrev pub answered : Report → ℕ → ℕ
answered report t = length (replies_in report t)

-- the next operation of a thread that got so many replies loads a reference
pub record LoadsNext (script : Script) (t count : ℕ) : Type 0 where
  pub op : Op
  pub next : slice_get (operations script t) count ≡ Some op
  pub loads : IsLoad op

-- A record was read at a home before the end of a disk within its limit. It breaks the form of records at this word, or
-- names a scion there that is not live or is of another home.
pub record WasRead (config : Config) (home at word : ℕ) : Type 0 where
  pub end : ℕ
  pub within : end ≤ config.disk
  pub below : home < end
  pub scions : Scions
  pub stage : Option Stage
  pub words : List ℕ
  pub breaks : Breaks scions end stage words (record { home = home; at = at; word = word })

-- Why a thread may end so, where these are the moments of the run. Where the disk tells its words, none is damaged; what
-- is said of room is told there alone: that one of these moments is that of the thread.
abbrev pub MayEnd : Bool → Script → Config → List Moment → Report → ℕ → ThreadEnd → Type 0
MayEnd told script config moments report t end.Done = answered report t ≡ length (operations script t)
MayEnd told script config moments report t (end.OutOfHeap held_words need) =
    told ≡ true → IsAmong moments (Occasion.no_room t held_words need)
MayEnd told script config moments report t end.DiskFault = LoadsNext script t (answered report t)
MayEnd told script config moments report t (end.Damaged home at word) =
    (told ≡ true → ⊥) × LoadsNext script t (answered report t) × WasRead config home at word
MayEnd told script config moments report t end.Halted = IsSome report.halt

-- the replies of all threads
abbrev pub replies_told : Report → ℕ
replies_told report = sum (map (λ (r : ThreadReport). length r.replies) report.threads)

-- whether a thread was halted, and how many of a report were
abbrev pub is_halted : ThreadEnd → Bool
is_halted end.Halted = true
is_halted e = false

abbrev pub halted_in : Report → ℕ
halted_in report = count_by (λ (r : ThreadReport). is_halted r.end) report.threads

-- how many threads could not read the disk
abbrev pub is_lost : ThreadEnd → Bool
is_lost end.DiskFault = true
is_lost e = false

abbrev pub lost_in : Report → ℕ
lost_in report = count_by (λ (r : ThreadReport). is_lost r.end) report.threads

-- some thread was halted
abbrev pub SomeHalted : Report → Type 0
SomeHalted report = (t : ℕ) × ((r : ThreadReport) × (slice_get report.threads t ≡ Some r) × (r.end ≡ end.Halted))

-- A thread with so many replies can have waited for a collection: a silent one was due, or its next operation is one, or
-- can lack room.
abbrev pub CanWait : Script → Config → ℕ → ℕ → Type 0
CanWait script config t count = IsDue config count
    ⊎ ((op : Op) × (slice_get (operations script t) count ≡ Some op) × ((op ≡ Collect) ⊎ CanLackRoom op))

-- such a thread was halted
abbrev pub OneWaited : Script → Config → Report → Type 0
OneWaited script config report = (t : ℕ) × ((r : ThreadReport) × (slice_get report.threads t ≡ Some r)
    × (r.end ≡ end.Halted) × CanWait script config t (length r.replies))

-- Why a run may have been halted: by a disk that was full for a Move, which was planned or forced, where a thread waited
-- for a collection; or by one that failed, where some thread had not ended.
abbrev pub MayHalt : Script → Config → Report → Option Halt → Type 0
MayHalt script config report None = Unit {0}
MayHalt script config report (Some (halt.DiskFull end need limit)) = (limit ≡ config.disk) × (limit < end + need)
    × (end ≡ end_of (before report.journal (length report.journal)))
    × MayMove config (before report.journal (length report.journal)) × OneWaited script config report
MayHalt script config report (Some halt.DiskFault) = SomeHalted report

-- What a run reports of a trace, over a disk that tells its words or not. Its history is a value of the report. The
-- journal has the collections, each of its phase: those that threads asked for, the silent ones, but for one of each
-- thread that was halted, and those that were made for room, which are three at most for each reply and each thread.
-- There is a bound of the words that were made by it.
pub record IsStepReport (told : Bool) (script : Script) (config : Config) (report : Report) : Type 0 where
  pub history : told ≡ true → HasHistory script report.history report
  pub threads : length report.threads ≡ length script.programs
  pub moments : List Moment
  pub ends : (t : ℕ) (r : ThreadReport) → slice_get report.threads t ≡ Some r
      → MayEnd told script config moments report t r.end
  pub halt : MayHalt script config report report.halt
  pub journal : IsJournalOf config report.journal
  pub are_moments : told ≡ true
      → AreMoments script report.history (replies_in report) config report.journal moments
  pub lacked : told ≡ true → (t held_words need : ℕ) → IsAmong moments (Occasion.no_room t held_words need)
      → (r : ThreadReport) × (slice_get report.threads t ≡ Some r) × (r.end ≡ end.OutOfHeap held_words need)
  pub collected : collections script config (replies_in report) (length report.threads)
      ≤ length report.journal + halted_in report
  pub made : told ≡ true → MakesWithin config report.history report.journal
  pub asked : collects script (replies_in report) (length report.threads) ≤ length report.journal
  pub bounded : length report.journal ≤ collections script config (replies_in report) (length report.threads)
      + 3 * (replies_told report + length report.threads)

-- the value of a register of a thread after all its replies, if it was halted; else it holds nothing
abbrev pub register_left : Script → Report → ℕ → ℕ → Value
register_left script report t r =
    if option_map_or (λ (x : ThreadReport). is_halted x.end) (slice_get report.threads t) false
    then value_in (registers_after report.history t (operations script t) (answered report t)) r else Nil

-- The heap that is left has the globals of the script, and the words and forwarding words of the configuration. Where the run is told, it
-- stands for the history when all threads have ended, over the disk.
pub record IsLeft (told : Bool) (script : Script) (config : Config) (shown : Shown) (report : Report) (heap : Heap)
    : Type 0 where
  pub globals : length heap.globals ≡ script.globals
  pub words : length heap.space.list ≡ config.heap
  pub forward_words : length heap.forward ≡ config.forward
  pub placed : told ≡ true → (maps : Maps) × ((disk : OnDisk) × Underlies told shown.end shown.image disk
      × HasMaps heap maps × Placed report.history (λ t r. Nil) maps (state_of heap [] disk))

-- The disk had no room for the new homes of a Move collection of the heap that is left, by its own maps, with what the
-- halted threads hold: they need so many words from the end on.
pub record IsFull (script : Script) (shown : Shown) (report : Report) (heap : Heap) (end need : ℕ) : Type 0 where
  pub end_is : end ≡ shown.end
  pub maps : Maps
  pub has : HasMaps heap maps
  pub disk : OnDisk
  pub under : Underlies true shown.end shown.image disk
  pub registers : List Registers
  pub placed : Placed report.history (register_left script report) maps (state_of heap registers disk)
  pub needs : CountsWords (state_of heap registers disk) (WantsHome (state_of heap registers disk)) need

-- the heap that is left: none where a fault of the disk halted the run, and else one, which is the one for which a full
-- disk was refused
abbrev pub HasLeft : Bool → Script → Config → Shown → Report → Option Halt → Option Heap → Type 0
HasLeft told script config shown report None (Some heap) = IsLeft told script config shown report heap
HasLeft told script config shown report (Some (halt.DiskFull end need limit)) (Some heap) =
    IsLeft told script config shown report heap × (told ≡ true → IsFull script shown report heap end need)
HasLeft told script config shown report (Some halt.DiskFault) None = Unit {0}
HasLeft told script config shown report None None = ⊥
HasLeft told script config shown report (Some (halt.DiskFull end need limit)) None = ⊥
HasLeft told script config shown report (Some halt.DiskFault) (Some heap) = ⊥

-- a report, and the heap that is left over what the disk shows in the end
pub record HasRun (told : Bool) (script : Script) (config : Config) (shown : Shown) (report : Report)
    (heap : Option Heap) : Type 0 where
  pub reported : IsStepReport told script config report
  pub left : HasLeft told script config shown report report.halt heap

-- so many were lost of those that a count of faults counted, or the count stands at its end
abbrev pub CountsLost : (lost before after : ℕ) → Type 0
CountsLost lost before after = (before + lost ≤ after) ⊎ (2 ^ 64 - 1 ≤ after)

-- a count is no less than before, or stands at its end
abbrev pub HasRisen : (before after : ℕ) → Type 0
HasRisen before after = (before ≤ after) ⊎ (2 ^ 64 - 1 ≤ after)

-- What a run leaves of the counts of a disk: there are not more threads that could not read it than failed reads, and
-- it was halted by a fault only where a write or a lend failed.
pub record CountsFaults (report : Report) (faults faults_after read_faults read_faults_after : ℕ) : Type 0 where
  pub lost : CountsLost (lost_in report) read_faults read_faults_after
  pub halted : report.halt ≡ Some halt.DiskFault → Rose faults faults_after
  pub faults_rise : faults ≤ faults_after
  pub reads_rise : HasRisen read_faults read_faults_after

-- no thread has an operation
abbrev pub HasNoOperations : Script → Type 0
HasNoOperations script = (t : ℕ) → operations script t ≡ []

-- What a run leaves of the count of lends, which lends so many readers at most in an epoch: it begins two epochs at
-- most for each collection, and one more; and it lends none where no thread has an operation.
pub record CountsLends (readers : ℕ) (script : Script) (report : Report) (lends lends_after : ℕ) : Type 0 where
  pub epochs : ℕ
  pub lent : lends_after ≤ lends + readers * epochs
  pub few : epochs ≤ 2 * length report.journal + 1
  pub rises : HasRisen lends lends_after
  pub none : HasNoOperations script → lends_after ≡ lends
