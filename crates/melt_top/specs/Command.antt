-- What the words after the program's name mean, and the status of a report.
use Rattle.std.specs.Prelude.{ℕ, nat_le, ◌≤◌, Bool, true, false, ◌||◌, ◌&&◌, if◌then◌else◌, List, [], ◌∷◌}
use Rattle.std.specs.Prelude.{Option, None, Some, option_and_then, codes}
use Rattle.std.specs.Option.{option_map}
use Rattle.std.specs.List.{list_any}
use Rattle.std.specs.Str.{bytes_eq}
use Rattle.melt_model.specs.Config.{InRanges}
use Rattle.melt_model.specs.declared.config.Config.{Config}
use Rattle.melt_text.specs.Numbers.{number_of}
use Rattle.melt_model.specs.declared.reports.ThreadEnd.{ThreadEnd}
use Rattle.melt_model.specs.declared.reports.ThreadEnd.TheVariants as end
use Rattle.melt_model.specs.declared.reports.Halt.{Halt}
use Rattle.melt_model.specs.declared.reports.Halt.TheVariants as halt
use Rattle.melt_model.specs.declared.reports.ThreadReport.{ThreadReport}
use Rattle.melt_model.specs.declared.reports.Report.{Report}
use Rattle.melt_top.specs.declared.command.Command.{Command}
use Rattle.melt_top.specs.declared.command.Command.TheVariants.{Gen, Step, Threads}
use Rattle.melt_top.specs.declared.command.Recipe.{Recipe}
use Rattle.melt_top.specs.declared.command.RunOptions.{RunOptions}
use Rattle.melt_gen.specs.declared.workload.Workload.{Workload}
use Rattle.melt_gen.specs.declared.workload.Workload.TheVariants as workload
use Rattle.melt_top.specs.Parses.{gen_names, run_names, step_names}
use Rattle.melt_top.specs.Words.{Given, given_of, is_given, value_given}
use Rattle.melt_top.specs.declared.status.Status.{Status}
use Rattle.melt_top.specs.declared.text.Texts.{Texts}
use Rattle.melt_top.specs.declared.status.Status.TheVariants as status

-- a number within these bounds
abbrev pub between : ℕ → ℕ → Option ℕ → Option ℕ
between low high None = None
between low high (Some n) = if nat_le low n && nat_le n high then Some n else None

-- the number that an option gives, or another where it was not given
abbrev pub number_or : (low : ℕ) → (high : ℕ) → (otherwise : ℕ) → Option (List ℕ) → Option ℕ
number_or low high otherwise None = Some otherwise
number_or low high otherwise (Some value) = between low high (number_of value)

infixl 10 ◌>>=◌
abbrev pub ◌>>=◌ : {A B : Type 0} → Option A → (A → Option B) → Option B
o >>= f = option_and_then f o

-- These numbers go together: the part from which objects are marked is not above that from which they are moved.
abbrev pub configured : Config → Option Config
configured config = if nat_le config.mark config.move_ then Some config else None

-- what a run is given
abbrev pub config_of : Given → Option Config
config_of given = do
  heap ← number_or 16 4194304 65536 (value_given given (codes "heap"))
  forward ← number_or 1 65536 1024 (value_given given (codes "forward"))
  disk ← number_or 2 268435456 16777216 (value_given given (codes "disk"))
  mark ← number_or 0 100 50 (value_given given (codes "mark"))
  move_ ← number_or 0 100 80 (value_given given (codes "move"))
  every ← number_or 1 1048576 0 (value_given given (codes "every"))
  configured
      (record { heap = heap; forward = forward; disk = disk; mark = mark; move_ = move_; every = every })

-- which texts of a run are written
abbrev pub texts_of : Given → Texts
texts_of given = record {
  quiet = is_given given (codes "quiet");
  table = is_given given (codes "table");
  log = is_given given (codes "log");
}

abbrev pub run_of : Given → Option RunOptions
run_of given = option_map (λ config. record { config = config; texts = texts_of given }) (config_of given)

-- a run by real threads stores no history that could be written
abbrev pub plain_texts_of : Given → Texts
plain_texts_of given = record {
  quiet = is_given given (codes "quiet");
  table = is_given given (codes "table");
  log = false;
}

abbrev pub threads_run : Given → Option RunOptions
threads_run given = option_map (λ config. record { config = config; texts = plain_texts_of given }) (config_of given)

-- the number that an option has to give
abbrev pub number_given : (low : ℕ) → (high : ℕ) → Option (List ℕ) → Option ℕ
number_given low high None = None
number_given low high (Some value) = between low high (number_of value)

-- the kind of work of this name
abbrev pub kind_named : List ℕ → Option Workload
kind_named name =
    if bytes_eq name (codes "list") then Some workload.List
    else if bytes_eq name (codes "queue") then Some workload.Queue
    else if bytes_eq name (codes "table") then Some workload.Table
    else if bytes_eq name (codes "tree") then Some workload.Tree
    else None

-- what a trace is made of, which each option has to say
abbrev pub recipe_of : Given → Option Recipe
recipe_of given = do
  kind ← option_and_then kind_named (value_given given (codes "kind"))
  seed ← option_and_then number_of (value_given given (codes "seed"))
  size ← number_given 1 100000 (value_given given (codes "size"))
  threads ← number_given 1 8 (value_given given (codes "threads"))
  Some (record { kind = kind; seed = seed; size = size; threads = threads })

-- the command that the words mean, or none
abbrev pub meant : List (List ℕ) → Option Command
meant [] = None
meant (word ∷ words) =
    if bytes_eq word (codes "step") then option_map Step (option_and_then run_of (given_of step_names words))
    else if bytes_eq word (codes "run") then option_map Threads (option_and_then threads_run (given_of run_names words))
    else if bytes_eq word (codes "gen") then option_map Gen (option_and_then recipe_of (given_of gen_names words))
    else None

-- the numbers of a command are in their ranges
abbrev pub HasRanges : Command → Type 0
HasRanges (Step run) = InRanges run.config
HasRanges (Threads run) = InRanges run.config
HasRanges (Gen recipe) = (1 ≤ recipe.size) × (recipe.size ≤ 100000) × (1 ≤ recipe.threads) × (recipe.threads ≤ 8)

abbrev pub is_disk_fault : ThreadEnd → Bool
is_disk_fault end.DiskFault = true
is_disk_fault end.Done = false
is_disk_fault (end.OutOfHeap held need) = false
is_disk_fault (end.Damaged home at word) = false
is_disk_fault end.Halted = false

abbrev pub is_damaged : ThreadEnd → Bool
is_damaged (end.Damaged home at word) = true
is_damaged end.Done = false
is_damaged (end.OutOfHeap held need) = false
is_damaged end.DiskFault = false
is_damaged end.Halted = false

abbrev pub is_out_of_heap : ThreadEnd → Bool
is_out_of_heap (end.OutOfHeap held need) = true
is_out_of_heap end.Done = false
is_out_of_heap end.DiskFault = false
is_out_of_heap (end.Damaged home at word) = false
is_out_of_heap end.Halted = false

abbrev pub halted_by_fault : Option Halt → Bool
halted_by_fault None = false
halted_by_fault (Some (halt.DiskFull at need limit)) = false
halted_by_fault (Some halt.DiskFault) = true

abbrev pub halted_by_full : Option Halt → Bool
halted_by_full None = false
halted_by_full (Some (halt.DiskFull at need limit)) = true
halted_by_full (Some halt.DiskFault) = false

-- some thread ended so
abbrev pub ended : (ThreadEnd → Bool) → Report → Bool
ended test report = list_any (λ (r : ThreadReport). test r.end) report.threads

-- what the process answers for a status
abbrev pub exit_number : Status → ℕ
exit_number status.Done = 0
exit_number status.Usage = 1
exit_number status.Trace = 2
exit_number status.ReadFault = 3
exit_number status.DiskFault = 4
exit_number status.OutOfHeap = 5
exit_number status.DiskFull = 6
exit_number status.WriteFault = 7
exit_number status.NoMemory = 8
exit_number status.Damaged = 9
exit_number status.BadDump = 10
exit_number status.Illegal = 11

-- the status of a report: the first of these that applies
abbrev pub status_of : Report → Status
status_of report =
    if ended is_disk_fault report || halted_by_fault report.halt then status.DiskFault
    else if ended is_damaged report then status.Damaged
    else if halted_by_full report.halt then status.DiskFull
    else if ended is_out_of_heap report then status.OutOfHeap
    else status.Done
