-- The scion of one object that stays.
use Rattle.std.specs.Prelude.{◌≡◌, ◌≢◌, ◌⊎◌, ◌^◌, ℕ, ◌+◌, ◌<◌, ◌≤◌, length, Some}
use Rattle.melt_word.specs.Words.{IsShape, home_word, cost_of}
use Rattle.melt_record.specs.Records.{IsHead, IsScion}
use Rattle.melt_record.specs.declared.head.Kind.TheVariants.{Stub}
use Rattle.melt_space.specs.Space.{SetsWord, word_at}
use Rattle.melt_scion.specs.Scions.{IsTable, IsLive, Adds, SetsAddress}
use Rattle.melt_scion.specs.declared.heap.Heap.{Heap}
use Rattle.melt_copy.specs.declared.forwarding.Relocation.{Relocation}
use Rattle.melt_move.specs.declared.homes.NewHomes.{NewHomes}
use Rattle.melt_move.specs.GivenScions.{NamesScion, MayNameScion, given_home}

-- An object of a shape lies in the space.
pub record LiesAt (heap : Heap) (m : Relocation) : Type 0 where
  pub small : length heap.space.list < 2 ^ 30
  pub shape : IsShape m.shape
  pub first : 1 ≤ m.to
  pub last : m.to + cost_of m.shape ≤ length heap.space.list + 1

-- The object has no home, and is to have this one, which lies before a word; a scion is left for it.
pub record WantsScion (heap : Heap) (m : Relocation) (home end : ℕ) : Type 0 where
  pub no_home : word_at heap.space (m.to + 1) ≡ 0
  pub within : home + cost_of m.shape ≤ end
  pub room : length heap.scions.live < length heap.scions.pairs
  pub few : length heap.scions.pairs < 2 ^ 30

-- what stands before the turn of an object
pub record AwaitsTurn (heap : Heap) (homes : NewHomes) (m : Relocation) (end : ℕ) : Type 0 where
  pub lies : LiesAt heap m
  pub names : MayNameScion (word_at heap.space) m.to
  pub live : (home scion : ℕ) → NamesScion (word_at heap.space) m.to home scion → IsLive heap.scions scion
  pub wants : given_home homes m ≢ 0 → WantsScion heap m (given_home homes m) end
  pub small_end : end ≤ 2 ^ 32
  pub is_table : IsTable heap.scions

-- nothing else of the heap changes but its scions and its space
pub record SameBeside (old new : Heap) : Type 0 where
  pub globals : new.globals ≡ old.globals
  pub forward : new.forward ≡ old.forward
  pub names : new.names ≡ old.names
  pub maps : new.maps ≡ old.maps

-- The object has no home and gets none.
pub record NeedsNoScion (homes : NewHomes) (m : Relocation) (old new : Heap) : Type 0 where
  pub no_home : word_at old.space (m.to + 1) ≡ 0
  pub no_new_home : given_home homes m ≡ 0
  pub scions : new.scions ≡ old.scions
  pub space : new.space ≡ old.space

-- Its scion has its new address.
pub record TellsScion (m : Relocation) (old new : Heap) : Type 0 where
  pub home : ℕ
  pub scion : ℕ
  pub names : NamesScion (word_at old.space) m.to home scion
  pub sets : SetsAddress old.scions new.scions scion m.to
  pub space : new.space ≡ old.space

-- It is given a scion for its new home, and its home word names both.
pub record GivesScion (m : Relocation) (home : ℕ) (old new : Heap) : Type 0 where
  pub scion : ℕ
  pub in_range : IsScion scion
  pub adds : Adds old.scions new.scions home m.to scion
  pub sets : SetsWord old.space new.space (m.to + 1) (home_word (Some (record { home = home; scion = scion })))
  pub is_table : IsTable new.scions
  pub beside : SameBeside old new

-- it is given one where it has a new home
pub record GivesNewScion (homes : NewHomes) (m : Relocation) (old new : Heap) : Type 0 where
  pub no_home : word_at old.space (m.to + 1) ≡ 0
  pub new_home : given_home homes m ≢ 0
  pub gives : GivesScion m (given_home homes m) old new

-- one of the three
pub record TakesTurn (homes : NewHomes) (m : Relocation) (old new : Heap) : Type 0 where
  pub is : NeedsNoScion homes m old new ⊎ (TellsScion m old new ⊎ GivesNewScion homes m old new)
  pub is_table : IsTable new.scions
  pub beside : SameBeside old new

-- The Stub of the object stands at its home, and words outside of the home are as before.
pub record WritesStub (heap : Heap) (m : Relocation) (home end : ℕ) (old new : ℕ → ℕ) : Type 0 where
  pub stub : (scion : ℕ) → NamesScion (word_at heap.space) m.to home scion
      → IsHead home end (new home) (new (home + 1)) (record { shape = m.shape; kind = Stub scion })
  pub others : (at : ℕ) → (at < home) ⊎ (home + cost_of m.shape ≤ at) → new at ≡ old at
