-- How many records a run writes to its disk, by the collections that it makes.
use Rattle.std.specs.Prelude.{◌≡◌, ℕ, ◌+◌, ◌≤◌, List, ◌++◌, length, Option, None, Some}
use Rattle.std.specs.List.{sum_by}
use Rattle.melt_model.specs.declared.config.Config.{Config}
use Rattle.melt_model.specs.declared.reports.Halt.{Halt}
use Rattle.melt_model.specs.declared.reports.Halt.TheVariants as halt
use Rattle.melt_model.specs.declared.reports.Journal.{Journal}
use Rattle.melt_scion.specs.declared.heap.Heap.{Heap}
use Rattle.melt_copy.specs.Settling.{RisesBy}
use Rattle.melt_safepoint.specs.declared.collector.CollectRefusal.{CollectRefusal}
use Rattle.melt_safepoint.specs.declared.collector.CollectRefusal.TheVariants as refused
use Rattle.melt_safepoint.specs.declared.collector.HeapRefusal.{HeapRefusal}
use Rattle.melt_safepoint.specs.declared.collector.HeapRefusal.TheVariants as heap
use Rattle.melt_safepoint.specs.declared.ending.Left.{Left}
use Rattle.melt_safepoint.specs.declared.ending.Stop.{Stop}
use Rattle.melt_safepoint.specs.declared.ending.Stop.TheVariants.{NoMemory, Halted}

-- how many Bodies and Stubs collections wrote
abbrev pub written : List Journal → ℕ
written js = sum_by (λ (j : Journal). j.bodies + j.stubs) js

-- The count of writes rose by one for each record of the collections that were made meanwhile.
pub record WroteSince (js later : List Journal) (before after : ℕ) : Type 0 where
  pub more : List Journal
  pub journal : later ≡ js ++ more
  pub rises : RisesBy (written more) before after

-- Objects that had come back were settled by one write each. There are no more of them than forwarding words.
pub record SettledAtMost (words before after : ℕ) : Type 0 where
  pub settled : ℕ
  pub few : settled ≤ words
  pub rises : RisesBy settled before after

-- and so in the heap that is left
abbrev pub SettledIn : Left → (before after : ℕ) → Type 0
SettledIn left before after = (h : Heap) → left.heap ≡ Some h → SettledAtMost (length h.forward) before after

-- what was written where a collection was refused, but for one that failed to write, of which nothing is said
abbrev pub HeapWrote : (before after : ℕ) → HeapRefusal → Type 0
HeapWrote before after heap.NoMemory = Unit {0}
HeapWrote before after (heap.DiskFull back full) = SettledAtMost (length back.forward) before after
HeapWrote before after heap.DiskFault = Unit {0}

abbrev pub RefusalWrote : (before after : ℕ) → CollectRefusal → Type 0
RefusalWrote before after refused.NoMemory = Unit {0}
RefusalWrote before after (refused.DiskFull left full) = SettledIn left before after
RefusalWrote before after (refused.DiskFault left) = Unit {0}

-- The collections that were made wrote their records, and objects that had come back were settled after them.
pub record WroteBefore (left : Left) (js later : List Journal) (before after : ℕ) : Type 0 where
  pub mid : ℕ
  pub wrote : WroteSince js later before mid
  pub settled : SettledIn left mid after

-- What a run wrote that ended so. Where a full disk halted it, the collection that was refused had settled the heap. Of
-- one that was halted by a fault nothing is said.
abbrev pub WroteBy : Option Halt → Left → (js later : List Journal) → (before after : ℕ) → Type 0
WroteBy None left js later before after = WroteSince js later before after
WroteBy (Some (halt.DiskFull end need limit)) left js later before after = WroteBefore left js later before after
WroteBy (Some halt.DiskFault) left js later before after = Unit {0}

abbrev pub StopWrote : List Journal → (before after : ℕ) → Stop → Type 0
StopWrote js before after NoMemory = Unit {0}
StopWrote js before after (Halted ended) = WroteBy ended.halt ended.left js ended.journal.items before after

-- so many records of a journal were written, and so many Stubs beside, of no more objects than forwarding words
pub record WritesBeside (words records before after : ℕ) : Type 0 where
  pub settled : ℕ
  pub few : settled ≤ words
  pub rises : RisesBy (records + settled) before after

-- What a run leaves of the count of writes: one for each Body and each Stub of its journal. Where a full disk halted it,
-- objects that had come back were settled before, which has no line there. Of a fault nothing is said.
abbrev pub CountsWrites : Config → Option Halt → List Journal → (writes writes_after : ℕ) → Type 0
CountsWrites config None js writes writes_after = RisesBy (written js) writes writes_after
CountsWrites config (Some (halt.DiskFull end need limit)) js writes writes_after =
    WritesBeside config.forward (written js) writes writes_after
CountsWrites config (Some halt.DiskFault) js writes writes_after = Unit {0}
