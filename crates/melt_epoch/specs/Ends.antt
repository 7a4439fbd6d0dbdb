-- What has to hold where mutators begin an epoch, and what is so where it has ended.
use Rattle.std.specs.Prelude.{◌≡◌, ◌≢◌, ◌⊎◌, ℕ, ◌+◌, ◌-◌, ◌^◌, ◌<◌, ◌≤◌, true, false, List, [], length, map, min}
use Rattle.std.specs.Prelude.{Option, None, Some, slice_index, All, Contains, sum_by}
use mathlib.Core.Option.{some}
use lib.ListN.{get_elem?}
use Rattle.atomic_table.specs.declared.shared.Seat.{Seat}
use Rattle.melt_model.specs.History.{Legal, made}
use Rattle.melt_model.specs.Thread.{own, value_in}
use Rattle.melt_model.specs.declared.history.Entry.{Entry}
use Rattle.melt_scion.specs.GhostMaps.{named}
use Rattle.melt_scion.specs.Heaps.{HasMaps, IsSettled, OnDisk, state_of}
use Rattle.melt_scion.specs.Placed.{Holds, Maps, MayHold, value_at}
use Rattle.melt_scion.specs.Scions.{EachOnce}
use Rattle.melt_scion.specs.State.{IsFresh, State}
use Rattle.melt_scion.specs.declared.heap.Heap.{Heap}
use Rattle.melt_core.specs.StaleBits.{BitsTold}
use Rattle.melt_rule.specs.Giving.{spent_view}
use Rattle.melt_rule.specs.Rule.{Begins, Has, Saw, filled_count, has_cause}
use Rattle.melt_rule.specs.Seats.{EpochWords, knows_of}
use Rattle.melt_rule.specs.Shown.{globals_from, home_of, maps_at}
use Rattle.melt_rule.specs.Sights.{first_sight, last_sight}
use Rattle.melt_rule.specs.declared.began.Began.{Began}
use Rattle.melt_rule.specs.declared.began.Start.{Start}
use Rattle.melt_rule.specs.declared.view.View.{View}
use Rattle.melt_epoch.specs.Mutators.{IsSeated, StandFor}
use Rattle.melt_epoch.specs.declared.mutator.Mutator.{Mutator}

-- what a seat knows, where there is one
abbrev pub view_in : Option (Seat ℕ View) → View
view_in None = spent_view
view_in (Some seat) = knows_of seat

abbrev pub view_of : {R : Type 0} → Mutator R → View
view_of m = view_in m.seat

-- the mutator without its seat
abbrev pub unseated : {R : Type 0} → Mutator R → Mutator R
unseated m = record m { seat = None }

-- the disk under the heap, as the epoch began with it
abbrev pub disk_of : Began → OnDisk
disk_of b = record { end = b.end; homes = map home_of b.homes; free_homes = b.free_homes; image = slice_index b.image }

-- The epoch begins with this heap and its words. The heap keeps no names, and no forwarding word is filled. It is small
-- enough for the words of an epoch, and each scion names one of its addresses.
pub record HeapBegins (b : Began) (heap : Heap) (end : ℕ) : Type 0 where
  pub size : length heap.space.list ≡ b.size
  pub globals : length heap.globals ≡ b.globals
  pub forwards : length heap.forward ≡ b.forwards
  pub scions : heap.scions ≡ b.scions
  pub ends : end ≡ b.end
  pub free : heap.space.used + 1 ≡ b.free
  pub words : heap.space.list ≡ b.words
  pub maps : heap.maps ≡ b.maps
  pub nameless : heap.names ≡ None
  pub settled : IsSettled heap
  pub few_globals : b.globals ≤ 255
  pub few_words : globals_from + b.globals + b.forwards + b.size ≤ 2 ^ 32

-- The heap stands for the history, which is legal, by the maps. What registers hold are objects without the stale bit.
pub record HistoryBegins (start : Start) (heap : Heap) (history : List Entry) : Type 0 where
  pub history_is : history ≡ start.began.history
  pub legal : start.began.told ≡ true → Legal history start.began.globals
  pub holds : Holds start.began.told history (maps_at start.began) (state_of heap [] (disk_of start.began))
  pub held : (address n : ℕ) → Has start.held address n → named start.began.maps.addresses address ≡ Some n
  pub fresh : (address n : ℕ) → Has start.held address n → IsFresh (state_of heap [] (disk_of start.began)) address

-- The mutator has no seat yet. Its registers stand for their values, and its reader reads the words on disk.
pub record MutatorBegins {R : Type 0} (image : R → Option (List ℕ)) (start : Start) (m : Mutator R) : Type 0 where
  pub unseated_yet : m.seat ≡ None
  pub reader : R
  pub there : m.reader ≡ Some reader
  pub tells : start.began.told ≡ true → image reader ≡ Some start.began.image
  pub size : length m.values ≡ 16
  pub registers : StandFor start.held m.registers.regs m.values

-- One mutator takes part, or several up to 8, each thread once.
pub record MutatorsBegin {R : Type 0} (image : R → Option (List ℕ)) (start : Start) (ms : List (Mutator R))
    : Type 0 where
  pub some_thread : 1 ≤ length ms
  pub few : length ms ≤ 8
  pub threads : map (λ (m : Mutator R). m.thread) ms ≡ start.began.threads
  pub each_once : EachOnce start.began.threads
  pub each : All (MutatorBegins image start) ms

-- A mutator has a seat in an epoch that has just begun: nothing was done by it.
pub record HasJoined {R : Type 0} (words : EpochWords) (m : Mutator R) : Type 0 where
  pub seated : IsSeated words m
  pub known : (view_of m).known ≡ words.start.held
  pub seen : (view_of m).seen ≡ words.start.began.history
  pub claimed : (view_of m).claimed ≡ 0
  pub over : (view_of m).over ≡ 0
  pub won : (view_of m).won ≡ 0
  pub steps : (view_of m).steps ≡ 0
  pub stopped : (view_of m).stopped ≡ false
  pub asked : (view_of m).asked ≡ false
  pub spaced : (view_of m).spaced ≡ false
  pub forwarded : (view_of m).forwarded ≡ false

-- All mutators of the epoch come back with their seats.
pub record MayEnd {R : Type 0} (words : EpochWords) (ms : List (Mutator R)) : Type 0 where
  pub some_thread : 1 ≤ length ms
  pub all : length ms ≡ length words.start.began.threads
  pub seated : All (IsSeated words) ms

-- The history after the epoch: it is legal and begins with that before the epoch. Each thread had seen a beginning of
-- it with all its own entries, and other threads have no entry since.
pub record HistoryEnds {R : Type 0} (b : Began) (ms : List (Mutator R)) (h : List Entry) : Type 0 where
  pub legal : b.told ≡ true → Legal h b.globals
  pub since : Begins b.history h
  pub saw : All (λ (m : Mutator R). Saw h m.thread (view_of m).seen) ms
  pub strangers : (t : ℕ) → (Contains (map (λ (m : Mutator R). m.thread) ms) t → ⊥) → own h t ≡ own b.history t

-- the view of some mutator is so
pub record SomeView {R : Type 0} (ms : List (Mutator R)) (Is : View → Type 0) : Type 0 where
  pub place : ℕ
  pub mutator : Mutator R
  pub at : get_elem? ms place ≡ some mutator
  pub is : Is (view_of mutator)

-- some mutator knows the pair
abbrev pub SomeKnows : {R : Type 0} → List (Mutator R) → ℕ → ℕ → Type 0
SomeKnows ms address n = SomeView ms (λ (v : View). Has v.known address n)

-- some mutator has a cause to stop
abbrev pub SomeCause : {R : Type 0} → List (Mutator R) → Type 0
SomeCause ms = SomeView ms (λ (v : View). has_cause v ≡ true)

-- The maps have what they had at the beginning and what some mutator knows, and no more.
pub record MapsEnd {R : Type 0} (b : Began) (ms : List (Mutator R)) (maps : Maps) : Type 0 where
  pub homes : (home : ℕ) → maps.home home ≡ named b.maps.homes home
  pub begun : (address n : ℕ) → named b.maps.addresses address ≡ Some n → maps.address address ≡ Some n
  pub known : (address n : ℕ) → SomeKnows ms address n → maps.address address ≡ Some n
  pub only : (address n : ℕ) → maps.address address ≡ Some n
      → (named b.maps.addresses address ≡ Some n) ⊎ SomeKnows ms address n

-- the first free place after what all mutators claimed
abbrev pub free_after : {R : Type 0} → Began → List (Mutator R) → ℕ
free_after {R} b ms = b.free + sum_by (λ (m : Mutator R). (view_of m).claimed) ms

-- The heap has the sizes and the scions with which the epoch began, and no names. In use are the words before the first
-- free place, or all, where a claim ended past the last one. What mutators have counted and found is so; and where one
-- found the stop word set, one had a cause: it asked all to stop, or lacked words in the space or a forwarding word.
pub record HeapEnds {R : Type 0} (b : Began) (ms : List (Mutator R)) (heap : Heap) : Type 0 where
  pub size : length heap.space.list ≡ b.size
  pub globals : length heap.globals ≡ b.globals
  pub forwards : length heap.forward ≡ b.forwards
  pub scions : heap.scions ≡ b.scions
  pub nameless : heap.names ≡ None
  pub used : heap.space.used ≡ min (free_after b ms - 1) b.size
  pub won : filled_count (slice_index heap.forward) b.forwards ≡ sum_by (λ (m : Mutator R). (view_of m).won) ms
  pub spaced : All (λ (m : Mutator R). (view_of m).spaced ≡ true → b.size + 1 < free_after b ms) ms
  pub forwarded : All (λ (m : Mutator R). (view_of m).forwarded ≡ true → (p : ℕ) → p < b.forwards
      → slice_index heap.forward p ≢ 0) ms
  pub stops : All (λ (m : Mutator R). (view_of m).stopped ≡ true → SomeCause ms) ms

-- The registers stand for their values by these maps, and what they hold are objects without the stale bit.
pub record HoldsValues {R : Type 0} (maps : Maps) (s : State) (m : Mutator R) : Type 0 where
  pub stand : (r : ℕ) → value_at maps (slice_index m.registers.regs r) ≡ Some (value_in m.values r)
  pub hold : (r : ℕ) → MayHold maps s (slice_index m.registers.regs r)

-- The epoch has ended, with these mutators: the heap stands for the history, by its own maps. Where it is told, each
-- object that was made since the beginning has an address; and an object has the stale bit only if it had it at the
-- beginning, and one that has it no more was used or looked at since.
pub record HasEnded {R : Type 0} (b : Began) (ms : List (Mutator R)) (heap : Heap) (h : List Entry) : Type 0 where
  pub history : HistoryEnds b ms h
  pub heap_ends : HeapEnds b ms heap
  pub maps : Maps
  pub has_maps : HasMaps heap maps
  pub named : MapsEnd b ms maps
  pub holds : Holds b.told h maps (state_of heap [] (disk_of b))
  pub registers : All (HoldsValues maps (state_of heap [] (disk_of b))) ms
  pub stay : b.told ≡ true → (n : ℕ) → made b.history ≤ n → n < made h → (a : ℕ) × (maps.address a ≡ Some n)
  pub bits : b.told ≡ true → BitsTold (first_sight b) (last_sight h maps (state_of heap [] (disk_of b)))
