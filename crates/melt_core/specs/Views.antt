-- What a core shows, and when it stands for its history.
use Rattle.std.specs.Prelude.{◌≡◌, ◌≢◌, ◌⊎◌, ℕ, zero, suc, ◌+◌, ◌*◌, ◌^◌, ◌<◌, ◌≤◌, Bool, true, List, [], ◌∷◌}
use Rattle.std.specs.Prelude.{length, map, nat_lt}
use Rattle.std.specs.Prelude.{sum, slice_index, slice_index_or, vec_capacity}
use Rattle.std.specs.Prelude.{Option, None, Some, IsSome, unwrap_or, if◌then◌else◌}
use Rattle.std.specs.FinMap.{empty, from_entries}
use Rattle.std.specs.Option.{is_some}
use Rattle.melt_model.specs.History.{made as makes, Legal}
use Rattle.melt_model.specs.Thread.{value_in}
use Rattle.melt_model.specs.Alive.{words_of, CostsSum}
use Rattle.melt_model.specs.declared.history.Value.{Value}
use Rattle.melt_model.specs.declared.history.Value.TheVariants.{Nil}
use Rattle.melt_model.specs.declared.history.Entry.{Entry}
use Rattle.melt_space.specs.Space.{SpaceWords, word_at}
use Rattle.melt_scion.specs.State.{Base, State}
use Rattle.melt_scion.specs.Placed.{Maps, MayHold, value_at, Holds}
use Rattle.melt_scion.specs.Regions.{Apart}
use Rattle.melt_scion.specs.Names.{name_at}
use Rattle.melt_scion.specs.HomeNames.{NamedHomes, home_name}
use Rattle.melt_scion.specs.GhostMaps.{NamePairs, named}
use Rattle.melt_scion.specs.Scions.{Scions}
use Rattle.melt_scion.specs.Heaps.{AreScionsFor, OnDisk, scion_in, register_in}
use Rattle.melt_scion.specs.declared.registers.Registers.{Registers}
use Rattle.melt_scion.specs.declared.heap.Names as heap
use Rattle.melt_scion.specs.declared.heap.Heap.{Heap}
use Rattle.melt_core.specs.declared.call.Stage.{Stage}
use Rattle.melt_core.specs.declared.call.Stage.TheVariants.{Polled, Headed, Lacking, Searching, Missed, HeadRead}
use Rattle.melt_core.specs.declared.call.Stage.TheVariants.{BodyRead, LackingCopy}
use Rattle.melt_core.specs.declared.call.Call.{Call}
use Rattle.melt_core.specs.declared.machine.Core.{Core}
use Rattle.melt_core.specs.declared.machine.Rest.{Rest}
use Rattle.melt_core.specs.Known.{Known, region_of}
use Rattle.melt_core.specs.Stages.{Fits}

-- The words of the space, the scions, the globals, the forwarding words, the names of objects, the registers and the
-- call in flight of each thread, the words that each read after the head of a record, the history, how many entries it
-- has room for and how many objects were made in it, the first free place, and whether the stop word is set.
pub record View : Type 0 where
  pub space : SpaceWords
  pub scions : Scions
  pub globals : List ℕ
  pub forward : List ℕ
  pub names : Option heap.Names
  pub held : List Registers
  pub calls : List (Option Call)
  pub records : List (List ℕ)
  pub log : List Entry
  pub capacity : ℕ
  pub made : ℕ
  pub free : ℕ
  pub stop : Bool

-- the names that pairs give to so many addresses from this one on
abbrev pub names_along : List (ℕ × ℕ) → (most from : ℕ) → List (Option ℕ)
names_along pairs zero from = []
names_along pairs (suc most) from = named pairs from ∷ names_along pairs most (suc from)

-- the names that a heap of so many words would keep
abbrev pub names_for : ℕ → NamePairs → heap.Names
names_for words pairs = record {
  addresses = names_along pairs.addresses words 1;
  homes = record { names = from_entries pairs.homes; spare = 0 };
}

-- the names of a heap: those that it keeps, and where it keeps none those of its maps
abbrev pub names_in : Heap → heap.Names
names_in h = unwrap_or h.names (names_for (length h.space.list) h.maps)

-- A history that is not stored has room for more entries than any vector.
abbrev pub unbounded : ℕ
unbounded = 2 ^ 64

-- the history, which is stored or not, and how many entries it has room for
abbrev pub history_in : Bool → Rest → List Entry
history_in stored rest = if stored then rest.log.items else rest.shadow_log

abbrev pub room_in : Bool → Rest → ℕ
room_in stored rest = if stored then vec_capacity rest.log else unbounded

-- The history is stored where the heap keeps names.
abbrev pub view : Core → View
view core = record {
  space = core.heap.space;
  scions = core.heap.scions;
  globals = core.heap.globals;
  forward = core.heap.forward;
  names = Some (names_in core.heap);
  held = core.rest.held.items;
  calls = core.rest.calls.items;
  records = core.rest.records.items;
  log = history_in (is_some core.heap.names) core.rest;
  capacity = room_in (is_some core.heap.names) core.rest;
  made = core.rest.made;
  free = core.free;
  stop = core.stop;
}

-- the numbers of objects by their addresses, and by their homes
abbrev pub numbers_of : Option heap.Names → List (Option ℕ)
numbers_of None = []
numbers_of (Some names) = names.addresses

abbrev pub homes_of : Option heap.Names → NamedHomes
homes_of None = record { names = empty; spare = 0 }
homes_of (Some names) = names.homes

abbrev pub maps_of : Option heap.Names → Maps
maps_of names = record { address = name_at (numbers_of names); home = home_name (homes_of names) }

-- the value that an address in a register stands for
abbrev pub held_value : Option heap.Names → ℕ → Value
held_value names address = unwrap_or (value_at (maps_of names) address) Nil

-- the addresses in the registers of a thread
abbrev pub registers_in : List Registers → ℕ → List ℕ
registers_in held t = slice_index_or (map (λ (x : Registers). x.regs) held) t []

abbrev pub held_values : Option heap.Names → List ℕ → List Value
held_values names regs = map (held_value names) regs

-- the values in the registers of a thread
abbrev pub values_of : View → ℕ → List Value
values_of v t = held_values v.names (registers_in v.held t)

abbrev pub value : View → ℕ → ℕ → Value
value v t r = value_in (values_of v t) r

abbrev pub maps : View → Maps
maps v = maps_of v.names

-- The state that these parts show over a disk.
abbrev pub base_in : OnDisk → SpaceWords → Scions → List ℕ → List ℕ → Base
base_in disk space scions globals forward = record {
  size = length space.list;
  globals = length globals;
  forwards = length forward;
  scion = scion_in scions;
  end = disk.end;
  homes = disk.homes;
  free_homes = disk.free_homes;
  image = disk.image;
}

-- the state of a view, with other words of the space, registers and first free place
abbrev pub shown : OnDisk → View → SpaceWords → List Registers → ℕ → State
shown disk v space held free = record {
  base = base_in disk space v.scions v.globals v.forward;
  free = free;
  word = word_at space;
  global = slice_index v.globals;
  forward = slice_index v.forward;
  register = register_in held;
}

abbrev pub state : OnDisk → View → State
state disk v = shown disk v v.space v.held v.free

-- the call of a thread that is in flight, if one is
abbrev pub call_in : List (Option Call) → ℕ → Option Call
call_in calls t = slice_index_or calls t None

abbrev pub call_of : View → ℕ → Option Call
call_of v t = call_in v.calls t

-- the stage that the call of a thread has reached, if it has made an event
abbrev pub stage_in : Option Call → Option Stage
stage_in None = None
stage_in (Some c) = Some c.stage

abbrev pub stage_of : View → ℕ → Option Stage
stage_of v t = stage_in (call_of v t)

-- the words that the call of a thread read after the head of a record
abbrev pub rest_of : View → ℕ → List ℕ
rest_of v t = slice_index_or v.records t []

-- so many words has a record after its head at most
abbrev pub max_rest : ℕ
max_rest = 124

-- the words of the region that a call owns
abbrev pub claimed_in : Option Call → ℕ
claimed_in None = 0
claimed_in (Some c) = (region_of c.stage).words

abbrev pub claimed : List (Option Call) → ℕ
claimed calls = sum (map claimed_in calls)

-- whether the history is stored
abbrev pub stores : View → Bool
stores v = nat_lt v.capacity unbounded

-- some address has the number
abbrev pub InUse : Maps → ℕ → Type 0
InUse maps n = (address : ℕ) × (maps.address address ≡ Some n)

-- The objects in use take so many words. With the regions that calls own they are below the first free place and
-- within the heap.
pub record Counts (v : View) : Type 0 where
  pub in_use : ℕ
  pub adds_up : CostsSum (words_of v.log) (InUse (maps v)) in_use
  pub below : in_use + claimed v.calls + 1 ≤ v.free
  pub within : in_use + claimed v.calls ≤ length v.space.list

-- how many claims that end past the last word a call may still make, with what its thread does after it
abbrev pub claims_left : Bool → Option Stage → ℕ
claims_left stop (Some (Polled task)) = 1
claims_left stop (Some (Headed address shape access)) = 1
claims_left stop (Some (Searching search)) = 1
claims_left stop (Some (Missed search)) = 1
claims_left stop (Some (HeadRead search shape)) = 1
claims_left stop (Some (BodyRead search shape)) = 1
claims_left stop (Some (Lacking need)) = 0
claims_left stop (Some (LackingCopy search shape)) = 0
claims_left stop stage = if stop then 0 else 1

-- The first free place lies past the last word only by claims that ended there, at most one for each thread: with such
-- a claim the stop word is set, and a thread that reads it claims no more.
abbrev pub Bounded : View → Type 0
Bounded v = (v.free ≤ length v.space.list + 1)
    ⊎ (v.free + 126 * sum (map (λ (c : Option Call). claims_left v.stop (stage_in c)) v.calls) ≤ length
    v.space.list + 1 + 126 * length v.calls)

-- What stands over a disk between two events, told or not. The words hold as they are, and so do registers; each call
-- in flight knows what its stage says, and fits its operation; regions of calls are apart.
pub record Standing (told : Bool) (disk : OnDisk) (v : View) : Type 0 where
  pub named : IsSome v.names
  pub room : length (numbers_of v.names) ≡ length v.space.list
  pub scions_made : AreScionsFor (length v.space.list) v.scions
  pub few : length v.held ≤ 8
  pub each : length v.calls ≡ length v.held
  pub buffers : length v.records ≡ length v.held
  pub rests : (t : ℕ) → t < length v.held → length (rest_of v t) ≡ max_rest
  pub counted : v.made ≡ makes v.log
  pub first : 1 ≤ v.free
  pub bounded : Bounded v
  pub holds : Holds told v.log (maps v) (state disk v)
  pub legal : told ≡ true → Legal v.log (length v.globals)
  pub registers : (t r : ℕ) → MayHold (maps v) (state disk v) (register_in v.held t r)
  pub known : (t : ℕ) (c : Call) → call_of v t ≡ Some c → Known told (maps v) (state disk v) (rest_of v t) c.stage
  pub fits : (t : ℕ) (c : Call) → call_of v t ≡ Some c → Fits (register_in v.held t) c.op c.stage
  pub apart : (t u : ℕ) (c d : Call) → t ≢ u → call_of v t ≡ Some c → call_of v u ≡ Some d
      → Apart (region_of c.stage) (region_of d.stage)
  pub counts : told ≡ true → Counts v

-- no call is in flight
abbrev pub IsQuiet : View → Type 0
IsQuiet v = (t : ℕ) → call_of v t ≡ None
