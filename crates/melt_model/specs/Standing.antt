-- Where a thread stands in a history that is still growing.
use Rattle.std.specs.Prelude.{◌≡◌, ℕ, List, [], ◌∷◌}
use Rattle.melt_model.specs.History.{IsReference}
use Rattle.melt_model.specs.Thread.{value_in, Thread, beginning, deed, thread_after, Takes}
use Rattle.melt_model.specs.declared.history.Value.{Value}
use Rattle.melt_model.specs.declared.history.Entry.{Entry}
use Rattle.melt_model.specs.declared.operations.Op.{Op}
use Rattle.melt_model.specs.declared.operations.Reply.{Reply}

-- each register holds Nil or an object that was made
abbrev pub HoldReferences : List Entry → List Value → Type 0
HoldReferences h registers = (r : ℕ) → IsReference h (value_in registers r)

-- From a on the operations get these replies, one each, and the thread is then b.
abbrev pub Reaches : List Entry → Thread → List Op → List Reply → Thread → Type 0
Reaches h a [] [] b = a ≡ b
Reaches h a (o ∷ ops) (r ∷ replies) b =
    HoldReferences h a.registers × ((deed h a o).reply ≡ r) × Takes h (deed h a o).act a.places
    × Reaches h (thread_after h a o) ops replies b
Reaches h a [] (r ∷ replies) b = ⊥
Reaches h a (o ∷ ops) [] b = ⊥

-- What a thread was told by a history: the operations that were answered, their replies, and the registers
-- now, each of which holds a reference. All of its entries are taken.
pub record Stands (h : List Entry) (t : ℕ) (ops : List Op) (replies : List Reply) (registers : List Value) : Type 0
  where
    pub reached : Reaches h (beginning h t) ops replies (record { registers = registers; places = [] })
    pub references : HoldReferences h registers
