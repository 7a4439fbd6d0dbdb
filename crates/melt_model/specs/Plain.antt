-- What is alive, listed object by object.
use Rattle.std.specs.Prelude.{◌≡◌, ◌↔◌, ℕ, ◌==◌, ◌⊎◌, if◌then◌else◌, List, Contains, Option, Some, MatchOption}
use Rattle.std.specs.List.{IsDistinct}
use Rattle.melt_model.specs.History.{last, write_of}
use Rattle.melt_model.specs.Thread.{value_in}
use Rattle.melt_model.specs.Alive.{Held, Alive}
use Rattle.melt_model.specs.declared.history.Act.{Act}
use Rattle.melt_model.specs.declared.history.Entry.{Entry}
use Rattle.melt_model.specs.declared.history.Value.{Value}
use Rattle.melt_model.specs.declared.history.Value.TheVariants.{Nil, Ref}
use Rattle.melt_model.specs.declared.history.Slot.{Slot}
use Rattle.melt_model.specs.declared.history.Slot.TheVariants.{Field, Cell, Global}

-- the registers of thread 0, where no other thread holds anything
abbrev pub of_one_thread : List Value → ℕ → ℕ → Value
of_one_thread registers t r = if t == 0 then value_in registers r else Nil

-- the objects that are alive, each once
pub record ListsAlive (h : List Entry) (registers : List Value) (objects : List ℕ) : Type 0 where
  pub once : IsDistinct (λ a b. a == b) objects
  pub all : (n : ℕ) → Alive h (of_one_thread registers) n ↔ Contains objects n

-- a global, or a reference slot of one of these objects
abbrev pub IsSlotOf : List ℕ → Slot → Type 0
IsSlotOf objects (Field m i) = Contains objects m
IsSlotOf objects (Cell m j) = ⊥
IsSlotOf objects (Global g) = Unit {0}

-- a global, or a slot of one of these objects, refers to the object
pub record InSlotOf (h : List Entry) (objects : List ℕ) (n : ℕ) : Type 0 where
  pub slot : Slot
  pub of_one : IsSlotOf objects slot
  pub refers : last h slot ≡ Ref n

-- the act wrote such a slot, and it refers to the object now
pub record Wrote (h : List Entry) (objects : List ℕ) (act : Act) (n : ℕ) : Type 0 where
  pub slot : Slot
  pub value : Value
  pub writes : write_of act ≡ Some (slot, value)
  pub of_one : IsSlotOf objects slot
  pub refers : last h slot ≡ Ref n

-- the object is one step from these
abbrev pub IsNext : List Entry → List Value → List ℕ → ℕ → Type 0
IsNext h registers objects n = Held (of_one_thread registers) n ⊎ InSlotOf h objects n

-- of what is so, one that is not among these objects; none, if all are among them
abbrev pub IsOneMore : List ℕ → (ℕ → Type 0) → Option ℕ → Type 0
IsOneMore objects Is r = MatchOption r ((n : ℕ) → Is n → Contains objects n) (λ n. Is n × (Contains objects n → ⊥))
