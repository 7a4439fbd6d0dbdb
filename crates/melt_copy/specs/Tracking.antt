-- What the parts of a copying collection do, over every state that has the words of the space.
use Rattle.std.specs.Prelude.{◌≡◌, ◌≢◌, ℕ, zero, suc, ◌+◌, ◌*◌, ◌/◌, ◌%◌, ◌<◌, ◌==◌, if◌then◌else◌, List, ◌++◌}
use Rattle.std.specs.Prelude.{length, slice_get, slice_index, Some, ◌⊎◌}
use Rattle.melt_space.specs.Space.{SpaceWords, word_at}
use Rattle.melt_scion.specs.State.{State, RefersTo, Reached}
use Rattle.std.specs.Option.{option_map}
use Rattle.melt_scion.specs.Heaps.{register_in}
use Rattle.melt_scion.specs.Scions.{Scions, IsTable, scion_at}
use Rattle.melt_scion.specs.declared.registers.Registers.{Registers}
use Rattle.melt_copy.specs.declared.forwarding.Relocation.{Relocation}
use Rattle.melt_copy.specs.declared.forwarding.Forwarding.{Forwarding}
use Rattle.melt_copy.specs.Moving.{IsWhole, IsRefWord, IsRelocation, Relocates}

-- the entry of an object that moves from one address to another: twice the new one, and the parity of the old one
abbrev pub entry_of : ℕ → ℕ → ℕ
entry_of from to = 2 * to + from % 2

-- the new address that an entry tells for an address of its pair, 0 where it is for the other one
abbrev pub target_of : ℕ → ℕ → ℕ
target_of entry address = if entry % 2 == address % 2 then entry / 2 else 0

-- where a table with an entry for each two addresses sends an address
unfoldable pub looked_up : List ℕ → ℕ → ℕ
looked_up entries address = target_of (slice_index entries (address / 2)) address

-- where the forwarding sends an address
abbrev pub goes : Forwarding → ℕ → ℕ
goes forwarding = looked_up forwarding.entries.items

-- The state has the words of the space, and the forwarding is that of objects that were found in it.
pub record Tracks (space : SpaceWords) (s : State) (forwarding : Forwarding) : Type 0 where
  pub whole : IsWhole s
  pub word : (k : ℕ) → s.word k ≡ word_at space k
  pub size : s.base.size ≡ length space.list
  pub free : s.free ≡ space.used + 1
  pub holds : Relocates s (goes forwarding) forwarding.moves.items forwarding.next
  pub table : length forwarding.entries.items ≡ space.used / 2 + 1

-- what was found stays
pub record Grows (old new : Forwarding) : Type 0 where
  pub rest : List Relocation
  pub moves : new.moves.items ≡ old.moves.items ++ rest
  pub goes : (address : ℕ) → goes old address ≢ 0 → goes new address ≡ goes old address

-- a state in which the object at the address is found
pub record TracksAt (space : SpaceWords) (s : State) (forwarding : Forwarding) (address : ℕ) : Type 0 where
  pub tracks : Tracks space s forwarding
  pub reached : Reached s address

-- a state in which the object that the word refers to, if it does, is found
pub record TracksFor (space : SpaceWords) (s : State) (forwarding : Forwarding) (word : ℕ) : Type 0 where
  pub tracks : Tracks space s forwarding
  pub reference : IsRefWord word
  pub reached : (address : ℕ) → RefersTo word address → Reached s address

-- words numbered from 1
abbrev pub word_numbered : List ℕ → ℕ → ℕ
word_numbered words zero = 0
word_numbered words (suc k) = slice_index words k

-- words are put after those that are there
pub record Extends (old new : List ℕ) (count : ℕ) : Type 0 where
  pub size : length new ≡ length old + count
  pub before : (k : ℕ) → k < length old → slice_index new k ≡ slice_index old k

-- a state in which the objects to which these words refer are found
pub record TracksIn (space : SpaceWords) (s : State) (forwarding : Forwarding) (words : List ℕ) : Type 0 where
  pub tracks : Tracks space s forwarding
  pub references : (i : ℕ) → i < length words → IsRefWord (slice_index words i)
  pub reached : (i address : ℕ) → i < length words → RefersTo (slice_index words i) address → Reached s address

-- a state in which this object was found
pub record TracksOf (space : SpaceWords) (s : State) (forwarding : Forwarding) (m : Relocation) : Type 0 where
  pub tracks : Tracks space s forwarding
  pub move : IsRelocation s m

-- a state in which the objects in these registers are found
pub record TracksHeld (space : SpaceWords) (s : State) (forwarding : Forwarding) (register : ℕ → ℕ) : Type 0 where
  pub tracks : Tracks space s forwarding
  pub reached : (r : ℕ) → register r ≢ 0 → Reached s (register r)

-- the objects in these registers were found, and no others were
pub record FindsHeld (old new : Forwarding) (register : ℕ → ℕ) : Type 0 where
  pub all : (r : ℕ) → register r ≢ 0 → goes new (register r) ≢ 0
  pub each : (k : ℕ) (m : Relocation) → slice_get new.moves.items k ≡ Some m → (slice_get old.moves.items k ≡ Some m)
      ⊎ ((r : ℕ) × (register r ≡ m.from))

-- a state in which the objects in the registers of all threads are found
pub record TracksThreads (space : SpaceWords) (s : State) (forwarding : Forwarding)
    (held : List Registers) : Type 0 where
  pub tracks : Tracks space s forwarding
  pub reached : (t r : ℕ) → register_in held t r ≢ 0 → Reached s (register_in held t r)

-- the objects in the registers of these threads were found, and no others were
pub record FindsThreads (old new : Forwarding) (held : List Registers) : Type 0 where
  pub all : (t r : ℕ) → register_in held t r ≢ 0 → goes new (register_in held t r) ≢ 0
  pub each : (k : ℕ) (m : Relocation) → slice_get new.moves.items k ≡ Some m → (slice_get old.moves.items k ≡ Some m)
      ⊎ ((t : ℕ) × (r : ℕ) × (register_in held t r ≡ m.from))

-- a state in which the objects of these scions are found
pub record TracksScions (space : SpaceWords) (s : State) (forwarding : Forwarding) (table : Scions) : Type 0 where
  pub tracks : Tracks space s forwarding
  pub reached : (k : ℕ) (pair : ℕ × ℕ) → scion_at table k ≡ Some pair → Reached s pair.1

-- the objects of all scions of the table were found
abbrev pub FindsScions : Forwarding → Scions → Type 0
FindsScions forwarding table = (k : ℕ) (pair : ℕ × ℕ) → scion_at table k ≡ Some pair → goes forwarding pair.1 ≢ 0

-- where a scion's object is after the moves
abbrev pub moved_pair : (ℕ → ℕ) → ℕ × ℕ → ℕ × ℕ
moved_pair f pair = (pair.0, f pair.1)

-- each scion has the new address of its object
pub record MovesScions (f : ℕ → ℕ) (old new : Scions) : Type 0 where
  pub is_table : IsTable new
  pub each : (k : ℕ) → scion_at new k ≡ option_map (moved_pair f) (scion_at old k)
  pub size : length new.pairs ≡ length old.pairs
