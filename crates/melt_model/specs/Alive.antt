-- What the registers and the globals reach in a history, and how many words that is.
use Rattle.std.specs.Prelude.{◌≡◌, ◌↔◌, ℕ, ◌+◌, List, map, sum, ◌==◌, Contains}
use Rattle.std.specs.List.{IsDistinct}
use Rattle.std.specs.Option.{option_map_or}
use Rattle.melt_model.specs.History.{Shape, shape, last}
use Rattle.melt_model.specs.declared.history.Value.{Value}
use Rattle.melt_model.specs.declared.history.Value.TheVariants.{Ref}
use Rattle.melt_model.specs.declared.history.Slot.TheVariants.{Field, Global}
use Rattle.melt_model.specs.declared.history.Entry.{Entry}

-- An object that stands in a register of a thread that has not ended. What a register of a thread holds is told by
-- a function, for all threads at once.
pub record Held (value : ℕ → ℕ → Value) (n : ℕ) : Type 0 where
  pub thread : ℕ
  pub register : ℕ
  pub holds : value thread register ≡ Ref n

-- The least set of objects that has those in registers and in globals, and with an object those in its slots.
pub data Alive (h : List Entry) (value : ℕ → ℕ → Value) : ℕ → Type 0 where
  in_register : (n : ℕ) → Held value n → Alive h value n
  in_global : (g n : ℕ) → last h (Global g) ≡ Ref n → Alive h value n
  in_slot : (m i n : ℕ) → Alive h value m → last h (Field m i) ≡ Ref n → Alive h value n

-- how many words an object takes: two, and one for each of its parts
abbrev pub words_of : List Entry → ℕ → ℕ
words_of h n = option_map_or (λ (z : Shape). 2 + z.refs + z.nums) (shape h n) 0

-- Total is the sum of the costs of these objects, each counted once.
pub record CostsSum (cost : ℕ → ℕ) (Is : ℕ → Type 0) (total : ℕ) : Type 0 where
  pub members : List ℕ
  pub once : IsDistinct (λ a b. a == b) members
  pub all : (n : ℕ) → Is n ↔ Contains members n
  pub adds_up : total ≡ sum (map cost members)
