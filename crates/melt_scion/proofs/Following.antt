-- How the values of one history follow from those of another.
use Rattle.std.proofs.Common.{◌≡◌, ℕ, refl, List, [], ◌∷◌, ◌++◌}
use Rattle.std.specs.Prelude.{None, Some, false}
use Rattle.melt_model.specs.History.{Shape, shape, write_of, slot_eq, last}
use Rattle.melt_model.specs.declared.history.Entry.{Entry}
use Rattle.melt_model.specs.declared.history.Act.TheVariants.{Write}
use Rattle.melt_model.specs.declared.history.Slot.{Slot}
use Rattle.melt_model.specs.declared.history.Value.{Value}
use Rattle.melt_scion.proofs.Entries.{shape_stays, last_quiet, last_written, last_other}

-- each object keeps its shape, and each slot its value
pub record SameValues (h k : List Entry) : Type 0 where
  pub shapes : (n : ℕ) (z : Shape) → shape h n ≡ Some z → shape k n ≡ Some z
  pub last : (slot : Slot) → last k slot ≡ last h slot

-- each object keeps its shape, and each slot but this one its value
pub record ValueChanges (h k : List Entry) (at : Slot) (value : Value) : Type 0 where
  pub shapes : (n : ℕ) (z : Shape) → shape h n ≡ Some z → shape k n ≡ Some z
  pub here : last k at ≡ value
  pub others : (slot : Slot) → slot_eq at slot ≡ false → last k slot ≡ last h slot

-- a history and itself
pub same_history : (h : List Entry) → SameValues h h
same_history h = record { shapes = λ n z is. is; last = λ slot. refl }

-- where the value of the slot was that value, nothing changes
pub unchanged : (h : List Entry) (at : Slot) (value : Value) → last h at ≡ value → ValueChanges h h at value
unchanged h at value is = record { shapes = λ n z was. was; here = is; others = λ slot differ. refl }

-- an entry that writes nothing
pub quiet_entry : (h : List Entry) (e : Entry) → write_of e.act ≡ None → SameValues h (h ++ e ∷ [])
quiet_entry h e none = record {
  shapes = λ n z is. shape_stays h e n z is;
  last = λ slot. last_quiet h e slot none;
}

-- an entry that writes
pub write_entry : (h : List Entry) (e : Entry) (at : Slot) (value : Value) → e.act ≡ Write at value →
    ValueChanges h (h ++ e ∷ []) at value
write_entry h e at value act = record {
  shapes = λ n z is. shape_stays h e n z is;
  here = last_written h e at value act;
  others = λ slot differ. last_other h e at slot value act differ;
}
