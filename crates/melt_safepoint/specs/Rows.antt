-- A run between two epochs, and what the parts of a safepoint do to it.
use Rattle.std.specs.Prelude.{◌≡◌, ◌≢◌, ℕ, zero, suc, ◌+◌, ◌<◌, ◌≤◌, Bool, true, List, [], ◌∷◌, ◌++◌}
use Rattle.std.specs.Prelude.{length, slice_get, Option, Some}
use Rattle.melt_model.specs.Alive.{Held, words_of, CostsSum}
use Rattle.melt_model.specs.declared.config.Config.{Config}
use Rattle.melt_model.specs.declared.history.Entry.{Entry}
use Rattle.melt_model.specs.declared.operations.Op.{Op}
use Rattle.melt_model.specs.declared.reports.Halt.TheVariants as halt
use Rattle.melt_model.specs.declared.reports.Journal.{Journal}
use Rattle.melt_io.specs.Outside.{Rose}
use Rattle.melt_trace.specs.Script.{Script}
use Rattle.melt_move.specs.Planned.{phase_done}
use Rattle.melt_scion.specs.Heaps.{OnDisk}
use Rattle.melt_core.specs.StaleBits.{sight}
use Rattle.melt_core.specs.Views.{View, value, IsQuiet}
use Rattle.melt_safepoint.specs.declared.thread.ThreadState.{ThreadState}
use Rattle.melt_safepoint.specs.Collections.{CollectsCore, AllMarked, MadeSoFar, NoneForwarded}
use Rattle.melt_safepoint.specs.Counts.{CountsCollections}
use Rattle.melt_safepoint.specs.Ended.{StopsSo}
use Rattle.melt_safepoint.specs.Endings.{RestMoments, TiedMoments}
use Rattle.melt_safepoint.specs.Journals.{IsJournalOf, IsTight, Planned, before, end_of, next_of}
use Rattle.melt_safepoint.specs.Lends.{LendsFew, LendsTwice}
use Rattle.melt_safepoint.specs.Losses.{CountsLosses}
use Rattle.melt_safepoint.specs.Modes.{ForCollection, collections_for}
use Rattle.melt_safepoint.specs.Needs.{NeedsWords}
use Rattle.melt_safepoint.specs.Passing.{NoneOwn, WaitsForRoom, OneWaits}
use Rattle.melt_safepoint.specs.Shown.{Shown, Underlies}
use Rattle.melt_safepoint.specs.Tables.{TableStands}
use Rattle.melt_safepoint.specs.Threads.{OweAfterCollects, collections_due, SomeGoesOn}
use Rattle.melt_safepoint.specs.declared.collector.Collector.{Collector}
use Rattle.melt_safepoint.specs.declared.collector.CollectRefusal.{CollectRefusal}
use Rattle.melt_safepoint.specs.declared.collector.CollectRefusal.TheVariants as refused
use Rattle.melt_safepoint.specs.declared.ending.Stop.{Stop}
use Rattle.melt_safepoint.specs.declared.ending.Stop.TheVariants.{NoMemory, Halted}
use Rattle.melt_safepoint.specs.declared.run.Run.{Run}

-- What is seen of a run between two epochs: what its machine shows, its threads, its collections, how many words its
-- heap has, how often a silent collection is due, and whether it is told.
pub record Row : Type 0 where
  pub view : View
  pub states : List ThreadState
  pub collector : Collector
  pub words : ℕ
  pub every : ℕ
  pub told : Bool

abbrev pub row_of : {E : Type 0} → (E → View) → Run E → Row
row_of sees run = record {
  view = sees run.machine;
  states = run.states.items;
  collector = run.collector;
  words = run.words;
  every = run.every;
  told = run.told;
}

-- the last collection, if there was one
abbrev pub last_of : Collector → Option Journal
last_of c = before c.journal.items (length c.journal.items)

-- the collections of a run so far
abbrev pub journal_of : Row → List Journal
journal_of run = run.collector.journal.items

-- What a collector knows, over what is seen of the disk: the collections so far, and of which phase the next one is.
pub record CollectorStands (config : Config) (shown : Shown) (c : Collector) : Type 0 where
  pub plan : c.plan ≡ record { next = next_of config (last_of c); mark = config.mark; move_ = config.move_ }
  pub journal : IsJournalOf config c.journal.items
  pub end : shown.end ≡ end_of (last_of c)
  pub within : shown.end ≤ config.disk
  pub limit : shown.limit ≡ config.disk

-- A run between two epochs, for a script, told or not, as the run is, over a disk that is seen so and has no free
-- homes, where so many collections are unpaid.
pub record StandsBut (unpaid : ℕ) (told : Bool) (script : Script) (config : Config) (shown : Shown) (run : Row)
    : Type 0 where
  pub disk : OnDisk
  pub under : Underlies told shown.end shown.image disk
  pub none_free : disk.free_homes ≡ []
  pub table : TableStands told script config disk run.view run.states
  pub quiet : IsQuiet run.view
  pub words : run.words ≡ config.heap
  pub every : run.every ≡ config.every
  pub told_is : run.told ≡ told
  pub collector : CollectorStands config shown run.collector
  pub moments : told ≡ true → TiedMoments script (sight run.view) run.states config run.collector.journal.items
  pub made : told ≡ true → MadeSoFar config run.view run.collector.journal.items
  pub counts : CountsCollections script config unpaid run.states (length run.collector.journal.items)

-- and where none is
abbrev pub RunStands : Bool → Script → Config → Shown → Row → Type 0
RunStands told script config shown run = StandsBut 0 told script config shown run

-- for some script
abbrev pub SomeStands : Shown → Row → Type 0
SomeStands shown run = (told : Bool) × (script : Script) × (config : Config) × RunStands told script config shown run

-- for each script for which the run stood, told or not, it stands
abbrev pub KeepsRun : Shown → Shown → Row → Row → Type 0
KeepsRun shown later old new = (told : Bool) (script : Script) (config : Config)
    → RunStands told script config shown old → RunStands told script config later new

-- a run that is told has its moments, and is at a safepoint
abbrev pub RestsSo : Bool → Script → Config → Row → Type 0
RestsSo told script config run =
    told ≡ true → RestMoments script (sight run.view) run.states config run.collector.journal.items

-- And it stands. So it does between the collections of a safepoint.
abbrev pub RunRests : Bool → Script → Config → Shown → Row → Type 0
RunRests told script config shown run = RunStands told script config shown run × RestsSo told script config run

abbrev pub SomeRests : Shown → Row → Type 0
SomeRests shown run = (told : Bool) × (script : Script) × (config : Config) × RunRests told script config shown run

abbrev pub KeepsRest : Shown → Shown → Row → Row → Type 0
KeepsRest shown later old new = (told : Bool) (script : Script) (config : Config)
    → RunRests told script config shown old → RunRests told script config later new

-- what stands before a part of a safepoint, told or not, for a script
abbrev pub Standpoint : Type 1
Standpoint = Bool → Script → Config → Type 0

-- and where it was stopped, that is for its cause
abbrev pub StopsFrom : Standpoint → Shown → Stop → Type 0
StopsFrom Before later stop = (told : Bool) (script : Script) (config : Config) → Before told script config
    → StopsSo told script config later stop

abbrev pub StopsRun : Shown → Shown → Row → Stop → Type 0
StopsRun shown later old stop =
    StopsFrom (λ told script config. RunStands told script config shown old) later stop

-- and so at a safepoint
abbrev pub StopsRest : Shown → Shown → Row → Stop → Type 0
StopsRest shown later old stop =
    StopsFrom (λ told script config. RunRests told script config shown old) later stop

-- and so whatever is unpaid, where some thread has not ended
abbrev pub StopsBut : Shown → Shown → Row → Stop → Type 0
StopsBut shown later old stop =
    StopsFrom (λ told script config. ((unpaid : ℕ) × StandsBut unpaid told script config shown old)
    × SomeGoesOn old.states) later stop

-- and so where a collection was to be made, for which some thread waits, and which may be forced only where an object
-- might have no room
abbrev pub StopsForced : Bool → Shown → Shown → Row → Stop → Type 0
StopsForced force shown later old stop =
    StopsFrom (λ told script config. ((unpaid : ℕ) × StandsBut unpaid told script config shown old)
    × (force ≡ true → IsTight config (last_of old.collector)) × OneWaits old.states) later stop

-- and so where a run was stopped
abbrev pub StopLends : (readers more lends lends_after : ℕ) → List Journal → Stop → Type 0
StopLends readers more lends lends_after js NoMemory = Unit {0}
StopLends readers more lends lends_after js (Halted ended) =
    LendsFew readers more lends lends_after js ended.journal.items

abbrev pub StopTwice : (readers more lends lends_after : ℕ) → List Journal → Stop → Type 0
StopTwice readers more lends lends_after js NoMemory = Unit {0}
StopTwice readers more lends lends_after js (Halted ended) =
    LendsTwice readers more lends lends_after js ended.journal.items

-- where a run was halted by a fault of the disk, so many writes and lends had failed before and after; and no thread
-- more was lost than reads failed
abbrev pub StopCounts : Stop → List ThreadState → (faults faults_after lost lost_after : ℕ) → Type 0
StopCounts NoMemory states faults faults_after lost lost_after = Unit {0}
StopCounts (Halted ended) states faults faults_after lost lost_after =
    (ended.halt ≡ Some halt.DiskFault → Rose faults faults_after)
    × CountsLosses states ended.states.items lost lost_after

-- A collection was made, and all else of the run is as before.
pub record MakesCollection (force : Bool) (shown later : Shown) (old new : Row) : Type 0 where
  pub collects : CollectsCore (phase_done force old.collector.plan.next) shown later old.view new.view old.collector
      new.collector
  pub states : new.states ≡ old.states
  pub words : new.words ≡ old.words
  pub every : new.every ≡ old.every
  pub told : new.told ≡ old.told

-- Nothing was done since the last collection but to take replies to it: no forwarding word is filled, and the words in
-- use are those that the collection left.
pub record JustCollected (run : Row) : Type 0 where
  pub none_forwarded : NoneForwarded run.view
  pub prefix : List Journal
  pub last : Journal
  pub journal : run.collector.journal.items ≡ prefix ++ last ∷ []
  pub free : run.view.free ≡ last.live + 1

-- the words in use are those of the objects that registers hold
pub record OnlyHeld (v : View) : Type 0 where
  pub words : ℕ
  pub holds : CostsSum (words_of v.log) (Held (value v)) words
  pub free : v.free ≡ words + 1

-- What so many forced Moves in a row have left: after the first each object that no register holds is stale, and after
-- the second there is none.
abbrev pub LeftBy : ℕ → View → Type 0
LeftBy zero v = Unit {0}
LeftBy (suc zero) v = AllMarked v
LeftBy (suc (suc k)) v = OnlyHeld v

-- A run at a safepoint, after a collection, and after so many that were forced in a row: a thread that lacked room is
-- to make its call first, which pays for these collections. No thread waits for one of its own.
pub record AwaitsCall (told : Bool) (script : Script) (config : Config) (shown : Shown) (forced : ℕ) (run : Row)
    (t : ℕ) : Type 0 where
  pub stands : StandsBut (suc forced) told script config shown run
  pub safe : RestsSo told script config run
  pub few : forced ≤ 2
  pub owed : OweAfterCollects script run.states
  pub collected : JustCollected run
  pub own : NoneOwn run.states
  pub waits : WaitsForRoom run.states t
  pub left : told ≡ true → LeftBy forced run.view

abbrev pub SomeAwaits : Shown → ℕ → Row → ℕ → Type 0
SomeAwaits shown forced run t = (told : Bool) × (script : Script) × (config : Config)
    × AwaitsCall told script config shown forced run t

-- so many words more have no room beside those of the objects that registers hold
abbrev pub NoRoom : Config → View → ℕ → Type 0
NoRoom config v need = (held : ℕ) → CostsSum (words_of v.log) (Held (value v)) held → config.heap < held + need

-- what so many forced Moves in a row tell of a call that lacked words after them
abbrev pub LacksBy : Config → ℕ → View → ℕ → Type 0
LacksBy config zero v need = Unit {0}
LacksBy config (suc zero) v need = AllMarked v
LacksBy config (suc (suc k)) v need = NoRoom config v need

-- The thread made its call, after so many forced Moves in a row, and lacked so many words.
pub record LacksWords (told : Bool) (script : Script) (config : Config) (shown : Shown) (forced : ℕ) (run : Row)
    (t need : ℕ) : Type 0 where
  pub stands : StandsBut (suc forced) told script config shown run
  pub safe : RestsSo told script config run
  pub few : forced ≤ 2
  pub owed : OweAfterCollects script run.states
  pub own : NoneOwn run.states
  pub none_forwarded : NoneForwarded run.view
  pub waits : WaitsForRoom run.states t
  pub tight : IsTight config (last_of run.collector)
  pub op : Op
  pub next : (s : ThreadState) → slice_get run.states t ≡ Some s → s.op ≡ Some op
  pub needs : told ≡ true → NeedsWords run.view.log (value run.view) t op need
  pub left : told ≡ true → LacksBy config forced run.view need

abbrev pub SomeLacksWords : Shown → ℕ → Row → ℕ → ℕ → Type 0
SomeLacksWords shown forced run t need = (told : Bool) × (script : Script) × (config : Config)
    × LacksWords told script config shown forced run t need

-- So many collections were made of a run at a safepoint, each as it was planned.
abbrev pub MakesPlanned : ℕ → Shown → Row → Row → Type 0
MakesPlanned n shown old new = (told : Bool) (script : Script) (config : Config)
    → RunRests told script config shown old → Planned config n (journal_of old) (journal_of new)

-- What was collected for a thread: one collection as it was planned, if it waited for one. Else all is as before.
pub record MakesFor (s : ThreadState) (shown : Shown) (old new : Row) : Type 0 where
  pub made : ForCollection s.mode → JustCollected new
  pub none : (ForCollection s.mode → ⊥) → new ≡ old
  pub planned : MakesPlanned (collections_for s.mode) shown old new

-- What was collected for all threads: one collection as it was planned for each that waited for one, and no other.
pub record MakesForAll (shown : Shown) (old new : Row) : Type 0 where
  pub made : collections_due old.states ≢ 0 → JustCollected new
  pub none : collections_due old.states ≡ 0 → new ≡ old
  pub planned : MakesPlanned (collections_due old.states) shown old new

-- a run that was stopped, or that was not collected, stored so much of its history
abbrev pub StopStores : (List Entry → List Entry) → Stop → Type 0
StopStores stored NoMemory = Unit {0}
StopStores stored (Halted ended) = ended.left.log ≡ stored ended.left.history

abbrev pub RefusalStores : (List Entry → List Entry) → CollectRefusal → Type 0
RefusalStores stored refused.NoMemory = Unit {0}
RefusalStores stored (refused.DiskFull left full) = left.log ≡ stored left.history
RefusalStores stored (refused.DiskFault left) = left.log ≡ stored left.history

-- a run that was stopped has the collections that it had
abbrev pub StopKeeps : List Journal → Stop → Type 0
StopKeeps js NoMemory = Unit {0}
StopKeeps js (Halted ended) = ended.journal.items ≡ js
