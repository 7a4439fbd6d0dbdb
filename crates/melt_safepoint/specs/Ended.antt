-- What is left of a run that has ended, or was halted.
use Rattle.std.specs.Prelude.{◌≡◌, ℕ, ◌+◌, ◌<◌, Bool, true, List, length, Option, None, Some, IsSome, false}
use Rattle.melt_model.specs.declared.config.Config.{Config}
use Rattle.melt_model.specs.declared.reports.Halt.{Halt}
use Rattle.melt_model.specs.declared.reports.Halt.TheVariants as halt
use Rattle.melt_trace.specs.Script.{Script}
use Rattle.melt_scion.specs.Collected.{CountsWords}
use Rattle.melt_scion.specs.Heaps.{OnDisk}
use Rattle.melt_scion.specs.declared.heap.Heap.{Heap}
use Rattle.melt_move.specs.Plans.{WantsHome}
use Rattle.melt_core.specs.Views.{View, state}
use Rattle.melt_safepoint.specs.declared.thread.ThreadState.{ThreadState}
use Rattle.melt_safepoint.specs.Collections.{ShowsHeap}
use Rattle.melt_safepoint.specs.Journals.{IsJournalOf, MayMove, before, end_of}
use Rattle.melt_safepoint.specs.Counts.{CountsCollections}
use Rattle.melt_safepoint.specs.Made.{MakesWithin}
use Rattle.melt_safepoint.specs.Passing.{OneWaits}
use Rattle.melt_safepoint.specs.Shown.{Shown, Underlies}
use Rattle.melt_safepoint.specs.Endings.{SomeMoments}
use Rattle.melt_safepoint.specs.Tables.{TableStands}
use Rattle.melt_safepoint.specs.Threads.{AreHalted, AllEnded, SomeGoesOn}
use Rattle.melt_safepoint.specs.declared.ending.Ended.{Ended}
use Rattle.melt_safepoint.specs.declared.ending.Stop.{Stop}
use Rattle.melt_safepoint.specs.declared.ending.Stop.TheVariants.{NoMemory, Halted}

-- The disk had no room for the new homes of a Move of this heap, which was planned or forced.
pub record EndsFull (told : Bool) (config : Config) (shown : Shown) (disk : OnDisk) (v : View) (ended : Ended)
    (finish need limit : ℕ) : Type 0 where
  pub end_is : finish ≡ shown.end
  pub end_last : finish ≡ end_of (before ended.journal.items (length ended.journal.items))
  pub limit_is : limit ≡ config.disk
  pub above : limit < finish + need
  pub may_move : MayMove config (before ended.journal.items (length ended.journal.items))
  pub needs : told ≡ true → CountsWords (state disk v) (WantsHome (state disk v)) need

-- Why a run has ended, and what is left of it then: all threads have ended; or the disk was full, and they are halted;
-- or the disk failed, and they are halted and no heap is left.
abbrev pub EndsBy : Bool → Config → Shown → OnDisk → View → List ThreadState → Ended → Option Halt → Option Heap
    → Type 0
EndsBy told config shown disk v states ended None (Some heap) =
    AllEnded states × (ended.states.items ≡ states) × ShowsHeap heap v × Underlies told shown.end shown.image disk
EndsBy told config shown disk v states ended (Some (halt.DiskFull finish need limit)) (Some heap) =
    AreHalted states ended.states.items × ShowsHeap heap v × Underlies told shown.end shown.image disk
    × EndsFull told config shown disk v ended finish need limit × OneWaits states
EndsBy told config shown disk v states ended (Some halt.DiskFault) None = AreHalted states ended.states.items
EndsBy told config shown disk v states ended None None = ⊥
EndsBy told config shown disk v states ended (Some (halt.DiskFull finish need limit)) None = ⊥
EndsBy told config shown disk v states ended (Some halt.DiskFault) (Some heap) = ⊥

-- A run that has ended, for the script, told or not: when it ended its threads stood so, over a disk. It is seen so,
-- but where it failed.
pub record EndedStands (told : Bool) (script : Script) (config : Config) (shown : Shown) (ended : Ended) : Type 0 where
  pub disk : OnDisk
  pub v : View
  pub states : List ThreadState
  pub table : TableStands told script config disk v states
  pub moments : told ≡ true → SomeMoments script v.log states config ended.journal.items
  pub journal : IsJournalOf config ended.journal.items
  pub made : told ≡ true → MakesWithin config v.log ended.journal.items
  pub unpaid : ℕ
  pub counts : CountsCollections script config unpaid states (length ended.journal.items)
  pub log : ended.left.history ≡ v.log
  pub halts : IsSome ended.halt → SomeGoesOn states
  pub cause : EndsBy told config shown disk v states ended ended.halt ended.left.heap

abbrev pub SomeEnded : Shown → Ended → Type 0
SomeEnded shown ended = (script : Script) × (config : Config) × EndedStands false script config shown ended

-- what stands where a run was stopped
abbrev pub StopsSo : Bool → Script → Config → Shown → Stop → Type 0
StopsSo told script config shown NoMemory = Unit {0}
StopsSo told script config shown (Halted ended) = EndedStands told script config shown ended
