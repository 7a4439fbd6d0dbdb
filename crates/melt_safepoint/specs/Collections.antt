-- What a collection between two epochs does, over what is seen of the disk.
use Rattle.std.specs.Prelude.{◌≡◌, ◌≢◌, ℕ, ◌+◌, ◌*◌, ◌<◌, ◌≤◌, Bool, true, false, List, [], ◌∷◌, ◌++◌, length}
use Rattle.std.specs.Prelude.{None, Some, slice_index}
use Rattle.melt_model.specs.Alive.{Alive, Held, words_of, CostsSum}
use Rattle.melt_model.specs.declared.config.Config.{Config}
use Rattle.melt_model.specs.declared.reports.Journal.{Journal}
use Rattle.melt_model.specs.declared.reports.Phase.{Phase}
use Rattle.melt_model.specs.declared.reports.Phase.TheVariants.{Move}
use Rattle.melt_word.specs.declared.header.Header.{Header}
use Rattle.melt_disk.specs.declared.space.DiskFull as disk
use Rattle.melt_scion.specs.Collected.{CountsWords}
use Rattle.melt_scion.specs.Heaps.{HasMaps, OnDisk, no_homes_on}
use Rattle.melt_scion.specs.Placed.{IsNamed}
use Rattle.melt_scion.specs.State.{HeaderAt, HoldsAt}
use Rattle.melt_scion.specs.declared.heap.Heap.{Heap}
use Rattle.melt_move.specs.Planned.{plan_after}
use Rattle.melt_move.specs.Plans.{WantsHome}
use Rattle.melt_core.specs.Made.{HasMade}
use Rattle.melt_core.specs.Views.{View, maps, state, value, Standing, IsQuiet}
use Rattle.melt_safepoint.specs.Bits.{BitsAfter, TakesAway}
use Rattle.melt_safepoint.specs.Shown.{Shown, Underlies}
use Rattle.melt_safepoint.specs.Tables.{Renewed}
use Rattle.melt_safepoint.specs.declared.collector.Collector.{Collector}
use Rattle.melt_safepoint.specs.declared.collector.CollectRefusal.{CollectRefusal}
use Rattle.melt_safepoint.specs.declared.collector.CollectRefusal.TheVariants.{NoMemory, DiskFull, DiskFault}
use Rattle.melt_safepoint.specs.declared.ending.Left.{Left}

-- no forwarding word is filled
abbrev pub NoneForwarded : View → Type 0
NoneForwarded v = (p : ℕ) → slice_index v.forward p ≡ 0

-- Each object in use that no register holds has the stale bit. What stands on disk says nothing of that.
abbrev pub AllMarked : View → Type 0
AllMarked v = (a : ℕ) (header : Header) → IsNamed (maps v) a → HeaderAt (state no_homes_on v) a header
    → (HoldsAt (state no_homes_on v) a → ⊥) → header.stale ≡ true

-- of the words that were made after the last collection, all are in use
abbrev pub MadeSoFar : Config → View → List Journal → Type 0
MadeSoFar config v journal = HasMade (config.heap * length journal) v

-- A core may be collected: no call is in flight, and over some disk with this end its words are well formed.
pub record MayCollect (finish : ℕ) (v : View) : Type 0 where
  pub disk : OnDisk
  pub ends : disk.end ≡ finish
  pub stands : Standing false disk v
  pub quiet : IsQuiet v

-- The words that a journal has of a collection are those of the history: what registers hold; and what registers and
-- globals reach has room in what is in use and in the homes on disk.
pub record Gathers (v : View) (entry : Journal) : Type 0 where
  pub holds : CostsSum (words_of v.log) (Held (value v)) entry.held
  pub alive : ℕ
  pub reach : CostsSum (words_of v.log) (Alive v.log (value v)) alive
  pub fits : alive + 1 ≤ entry.live + entry.end

-- What a collection of the phase did, over a disk that is seen as it was left: all stands as before, and the same homes
-- are free. Stale bits are as the phase leaves them, and which objects were taken away is told. A Move leaves each
-- object stale that no register holds; and it leaves nothing but held objects, where all others were stale.
pub record CollectedOver (told : Bool) (phase : Phase) (later : Shown) (free : List ℕ) (v w : View) (entry : Journal)
    : Type 0 where
  pub disk : OnDisk
  pub under : Underlies told later.end later.image disk
  pub same_free : disk.free_homes ≡ free
  pub renewed : Renewed told disk v w
  pub gathers : told ≡ true → Gathers v entry
  pub bits : told ≡ true → BitsAfter phase v w
  pub takes : told ≡ true → TakesAway phase v w entry
  pub marked : told ≡ true → phase ≡ Move → AllMarked w
  pub tight : told ≡ true → phase ≡ Move → AllMarked v → entry.live ≡ entry.held

-- A collection of the phase was made and written down, and the next one planned by that. A new epoch has begun, after
-- the words in use. The disk ends where it ended, or further on after a Move, within its limit.
pub record CollectsCore (phase : Phase) (shown later : Shown) (v w : View) (old new : Collector) : Type 0 where
  pub entry : Journal
  pub journal : new.journal.items ≡ old.journal.items ++ entry ∷ []
  pub plan : new.plan ≡ plan_after old.plan phase entry.live (length v.space.list)
  pub of_phase : entry.phase ≡ phase
  pub held_within : entry.held ≤ entry.live
  pub live : w.free ≡ entry.live + 1
  pub within : entry.live ≤ length v.space.list
  pub stop : w.stop ≡ false
  pub none_forwarded : NoneForwarded w
  pub quiet : IsQuiet w
  pub end : entry.end ≡ later.end
  pub grows : shown.end ≤ later.end
  pub fits : phase ≡ Move → later.end ≤ shown.limit
  pub stays : phase ≢ Move → later.end ≡ shown.end
  pub limit : later.limit ≡ shown.limit
  pub each : (told : Bool) (disk : OnDisk) → Underlies told shown.end shown.image disk → Standing told disk v
      → CollectedOver told phase later disk.free_homes v w entry

-- The heap is that which the view shows, between two epochs.
pub record ShowsHeap (heap : Heap) (v : View) : Type 0 where
  pub space : v.space ≡ heap.space
  pub scions : v.scions ≡ heap.scions
  pub globals : v.globals ≡ heap.globals
  pub forward : v.forward ≡ heap.forward
  pub free : v.free ≡ heap.space.used + 1
  pub has_maps : HasMaps heap (maps v)

-- What a machine leaves that is at rest: its heap, in which all stands as before, and its history.
pub record LeavesAll (v : View) (left : Left) : Type 0 where
  pub heap : Heap
  pub there : left.heap ≡ Some heap
  pub w : View
  pub log : left.history ≡ w.log
  pub stands : (told : Bool) (disk : OnDisk) → Standing told disk v → Renewed told disk v w × ShowsHeap heap w

-- What a Move that the disk had no room for left, over a disk that is seen so: all stands as before, and the new homes
-- need so many words.
pub record FullOver (told : Bool) (later : Shown) (v w : View) (heap : Heap) (need : ℕ) : Type 0 where
  pub disk : OnDisk
  pub under : Underlies told later.end later.image disk
  pub renewed : Renewed told disk v w
  pub shows : ShowsHeap heap w
  pub needs : CountsWords (state disk w) (WantsHome (state disk w)) need

-- The disk had no room for the new homes of a Move. The heap is left, and what it shows.
pub record IsFullCore (phase : Phase) (shown later : Shown) (v : View) (left : Left) (full : disk.DiskFull) : Type 0
  where
    pub of_phase : phase ≡ Move
    pub end_is : full.end ≡ shown.end
    pub limit_is : full.limit ≡ shown.limit
    pub above : shown.limit < shown.end + full.need
    pub end_stays : later.end ≡ shown.end
    pub limit_stays : later.limit ≡ shown.limit
    pub heap : Heap
    pub there : left.heap ≡ Some heap
    pub w : View
    pub log : left.history ≡ w.log
    pub each : (told : Bool) (disk : OnDisk) → Underlies told shown.end shown.image disk → Standing told disk v
        → FullOver told later v w heap full.need

-- Why a collection was not made. Where a write failed, the history is left.
abbrev pub IsRefusedCore : Phase → (shown later : Shown) → View → CollectRefusal → Type 0
IsRefusedCore phase shown later v NoMemory = Unit {0}
IsRefusedCore phase shown later v (DiskFull left full) = IsFullCore phase shown later v left full
IsRefusedCore phase shown later v (DiskFault left) = (left.heap ≡ None) × (left.history ≡ v.log)
