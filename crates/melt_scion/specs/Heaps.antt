-- A heap as contracts see it, with the registers over it.
use Rattle.std.specs.Prelude.{◌≡◌, ℕ, ◌+◌, ◌/◌, Bool, if◌then◌else◌, List, [], length, replicate, Option, None, Some}
use Rattle.std.specs.Prelude.{slice_index, slice_index_or, map}
use Rattle.std.specs.Option.{option_map}
use Rattle.std.specs.FinMap.{empty}
use Rattle.melt_space.specs.Space.{word_at, IsFresh}
use Rattle.melt_scion.specs.State.{Scion, Home, Base, State}
use Rattle.melt_scion.specs.Placed.{Maps, Formed}
use Rattle.melt_scion.specs.Names.{name_at}
use Rattle.melt_scion.specs.HomeNames.{home_name}
use Rattle.melt_scion.specs.GhostMaps.{NamePairs, named, no_pairs}
use Rattle.melt_scion.specs.Scions.{Scions, IsTable, scion_at, empty_table}
use Rattle.melt_scion.specs.declared.registers.Registers.{Registers}
use Rattle.melt_scion.specs.declared.heap.Names as heap
use Rattle.melt_scion.specs.declared.heap.Heap.{Heap}

-- what a register of a thread holds
abbrev pub register_in : List Registers → ℕ → ℕ → ℕ
register_in held t r = slice_index (slice_index_or (map (λ (x : Registers). x.regs) held) t []) r

-- What stands on the disk under a heap: the first word past all homes; all homes in ascending order, and those of them
-- that are free; and the words.
pub record OnDisk : Type 0 where
  pub end : ℕ
  pub homes : List Home
  pub free_homes : List ℕ
  pub image : ℕ → ℕ

-- a disk without homes
abbrev pub no_homes_on : OnDisk
no_homes_on = record { end = 1; homes = []; free_homes = []; image = λ k. 0 }

-- what a scion of a table names, if it is live
abbrev pub scion_in : Scions → ℕ → Option Scion
scion_in table k = option_map (λ (pair : ℕ × ℕ). record { home = pair.0; address = pair.1 }) (scion_at table k)

abbrev pub base_of : Heap → OnDisk → Base
base_of heap disk = record {
  size = length heap.space.list;
  globals = length heap.globals;
  forwards = length heap.forward;
  scion = scion_in heap.scions;
  end = disk.end;
  homes = disk.homes;
  free_homes = disk.free_homes;
  image = disk.image;
}

-- The words that a disk tells, if it tells any, are those of the image. Past the last word it has zeros.
abbrev pub Shows : Option (List ℕ) → (ℕ → ℕ) → Type 0
Shows None image = Unit {0}
Shows (Some words) image = (k : ℕ) → image k ≡ slice_index words k

-- the state that a heap and the registers of all threads show over a disk
abbrev pub state_of : Heap → List Registers → OnDisk → State
state_of heap held disk = record {
  base = base_of heap disk;
  free = heap.space.used + 1;
  word = word_at heap.space;
  global = slice_index heap.globals;
  forward = slice_index heap.forward;
  register = register_in held;
}

-- no forwarding word is filled
abbrev pub IsSettled : Heap → Type 0
IsSettled heap = (p : ℕ) → slice_index heap.forward p ≡ 0

-- Where a heap keeps names, they are the two maps. One that keeps none has them for contracts alone.
abbrev pub HasNames : Option heap.Names → NamePairs → Maps → Type 0
HasNames None pairs maps = ((address : ℕ) → maps.address address ≡ named pairs.addresses address)
    × ((home : ℕ) → maps.home home ≡ named pairs.homes home)
HasNames (Some names) pairs maps = ((address : ℕ) → maps.address address ≡ name_at names.addresses address)
    × ((home : ℕ) → maps.home home ≡ home_name names.homes home)

abbrev pub HasMaps : Heap → Maps → Type 0
HasMaps heap maps = HasNames heap.names heap.maps maps

-- the names, where a heap keeps them, were made for as many addresses as it has words
abbrev pub NamesMade : ℕ → Option heap.Names → Type 0
NamesMade words None = Unit {0}
NamesMade words (Some names) = length names.addresses ≡ words

-- names are there where they were, for as many addresses
abbrev pub KeepsNames : Option heap.Names → Option heap.Names → Type 0
KeepsNames None None = Unit {0}
KeepsNames (Some old) (Some new) = length new.addresses ≡ length old.addresses
KeepsNames None (Some new) = ⊥
KeepsNames (Some old) None = ⊥

-- a table of scions for half as many as there are words
pub record AreScionsFor (words : ℕ) (scions : Scions) : Type 0 where
  pub is_table : IsTable scions
  pub size : length scions.pairs ≡ words / 2

-- the scions are a table for as many as they were
pub record KeepsScions (old new : Scions) : Type 0 where
  pub is_table : IsTable new
  pub size : length new.pairs ≡ length old.pairs

-- the tables beside the words are for as many as they were
pub record KeepsTables (old new : Heap) : Type 0 where
  pub scions : KeepsScions old.scions new.scions
  pub forwards : length new.forward ≡ length old.forward
  pub names : KeepsNames old.names new.names

-- the names of a heap without objects
abbrev pub no_names : ℕ → heap.Names
no_names words = record { addresses = replicate words None; homes = record { names = empty; spare = 0 } }

-- a heap without objects and scions, whose globals and forwarding words hold nothing
pub record IsNewHeap (words globals forward : ℕ) (keeps_names : Bool) (heap : Heap) : Type 0 where
  pub space : IsFresh words heap.space
  pub scions : heap.scions ≡ empty_table (words / 2)
  pub globals_hold_nothing : heap.globals ≡ replicate globals 0
  pub nothing_forwarded : heap.forward ≡ replicate forward 0
  pub names : heap.names ≡ (if keeps_names then Some (no_names words) else None)
  pub maps : heap.maps ≡ no_pairs

-- The tables beside the words were made for as many as there are: the scions for half of them, the names for all.
pub record TablesMade (heap : Heap) : Type 0 where
  pub scions : AreScionsFor (length heap.space.list) heap.scions
  pub names : NamesMade (length heap.space.list) heap.names

-- the heap and the registers are well formed, with some maps and over some disk
pub record IsFormed (heap : Heap) (held : List Registers) : Type 0 where
  pub maps : Maps
  pub disk : OnDisk
  pub names : HasMaps heap maps
  pub made : TablesMade heap
  pub formed : Formed maps (state_of heap held disk)
