-- What the plain bodies give, as the definitions have it.
use Rattle.std.specs.Prelude.{◌≡◌, ℕ, List}
use Rattle.melt_model.specs.History.{Shape}
use Rattle.melt_model.specs.Thread.{Deed, on_part, unchanged}
use Rattle.melt_model.specs.declared.history.Entry.{Entry}
use Rattle.melt_model.specs.declared.history.Slot.{Slot}
use Rattle.melt_model.specs.declared.history.Value.{Value}
use Rattle.melt_model.specs.declared.operations.Reply.{Reply}
use Rattle.melt_model_tests.specs.declared.plain.Deed as plain

-- the same deed
abbrev pub deed_of : plain.Deed → Deed
deed_of deed = record { act = deed.act; reply = deed.reply; registers = deed.registers }

-- The slot is that of part k of the object that is this value, and an operation on the part does what it does.
pub record HasPart (parts : Shape → ℕ) (slot_of : ℕ → Slot) (h : List Entry) (object : Value) (k : ℕ)
    (slot : Slot) : Type 0 where
  pub number : ℕ
  pub is : slot ≡ slot_of number
  pub goes : (registers : List Value) (deed : ℕ → Deed) → on_part parts h registers object k deed ≡ deed number

-- an operation on that part gets this reply, and does nothing
abbrev pub LacksPart : (Shape → ℕ) → List Entry → Value → ℕ → Reply → Type 0
LacksPart parts h object k reply = (registers : List Value) (deed : ℕ → Deed)
    → on_part parts h registers object k deed ≡ unchanged registers reply
