-- How the objects that registers hold are counted: one register after the other, and each object once.
use Rattle.std.specs.Prelude.{◌≡◌, ◌≢◌, ℕ, ◌/◌, ◌%◌, ◌<◌, ◌≤◌, true, false, List, Some}
use Rattle.melt_model.specs.Alive.{words_of}
use Rattle.melt_space.specs.Space.{SpaceWords}
use Rattle.melt_scion.specs.Heaps.{OnDisk, register_in}
use Rattle.melt_scion.specs.declared.registers.Registers.{Registers}
use Rattle.melt_core.specs.Views.{View, Standing, maps}

-- over some disk the words are well formed
abbrev pub IsSound : View → Type 0
IsSound v = (disk : OnDisk) × Standing false disk v

-- The words of the space and the registers are those of a view whose words are well formed over some disk.
pub record AreSound (space : SpaceWords) (held : List Registers) : Type 0 where
  pub shown : View
  pub space_is : shown.space ≡ space
  pub held_is : shown.held ≡ held
  pub sound : IsSound shown

-- what a register holds, where those of all threads are counted in ascending order, 16 of each
abbrev pub nth_register : List Registers → ℕ → ℕ
nth_register held k = register_in held (k / 16) (k % 16)

-- a register before it holds the same
abbrev pub IsHeldBefore : List Registers → ℕ → Type 0
IsHeldBefore held k = (i : ℕ) × (i < k) × (nth_register held i ≡ nth_register held k)

-- it is the address of an object that a register holds
pub record IsHeld (v : View) (address : ℕ) : Type 0 where
  pub sound : IsSound v
  pub holds : (t : ℕ) × (r : ℕ) × (register_in v.held t r ≡ address)
  pub some : address ≢ 0

-- The object at the address takes so many words: where the words stand for the history, as many as it takes there.
pub record Takes (v : View) (address words : ℕ) : Type 0 where
  pub few : words ≤ 126
  pub is : (disk : OnDisk) (n : ℕ) → Standing true disk v → (maps v).address address ≡ Some n
      → words ≡ words_of v.log n
