-- What one more entry does to a history.
use Rattle.std.proofs.Common.{◌≡◌, ℕ, ◌<◌, true, cond, ◌∙◌, ap, arith, List, [], ◌∷◌, ◌++◌, inl, inr}
use Rattle.std.proofs.lemmas.Bool.Decides.{nat_tests, eqb_tells}
use Rattle.std.proofs.lemmas.Option.{slice_get_within}
use Rattle.std.specs.Prelude.{Option, None, Some, false, slice_get}
use Rattle.melt_model.specs.History.{Shape, shape, shapes, made, write_of, slot_eq, after_write, last}
use Rattle.melt_model.specs.declared.history.Entry.{Entry}
use Rattle.melt_model.specs.declared.history.Act.{Act}
use Rattle.melt_model.specs.declared.history.Act.TheVariants.{Make, Write}
use Rattle.melt_model.specs.declared.history.Value.{Value}
use Rattle.melt_model.specs.declared.history.Slot.{Slot}
use Rattle.melt_model.specs.declared.history.Slot.TheVariants.{Field, Cell, Global}
use Rattle.melt_model.proofs.Histories.{slice_get-append_seam, shapes-append, shape-append, last-push}

-- an object that was made
pub was_made : (h : List Entry) (n : ℕ) (z : Shape) → shape h n ≡ Some z → n < made h
was_made h n z is = slice_get_within (shapes h) n z is

-- what was made keeps its shape
pub shape_stays : (h : List Entry) (e : Entry) (n : ℕ) (z : Shape) → shape h n ≡ Some z → shape (h ++ e ∷ []) n ≡ Some z
shape_stays h e n z is = shape-append h (e ∷ []) n (was_made h n z is) ∙ is

-- the shape of an object that the last entry made
pub made_shape : (h : List Entry) (e : Entry) (refs nums : ℕ) → e.act ≡ Make refs nums
    → shape (h ++ e ∷ []) (made h) ≡ Some (record { refs = refs; nums = nums })
made_shape h e refs nums act =
    ap (λ (zs : List Shape). slice_get zs (made h))
    (shapes-append h (e ∷ []) ∙ ap (λ (a : Act). shapes h ++ shapes (record { thread = e.thread; act = a } ∷ [])) act)
    ∙ slice_get-append_seam (shapes h) (record { refs = refs; nums = nums }) []

-- an entry that writes nothing leaves each value
pub last_quiet : (h : List Entry) (e : Entry) (slot : Slot) → write_of e.act ≡ None
    → last (h ++ e ∷ []) slot ≡ last h slot
last_quiet h e slot none = last-push h e slot
    ∙ ap (λ (w : Option (Slot × Value)). after_write slot w (last h slot)) none

-- a slot is equal to itself
pub slot_eq_same : (slot : Slot) → slot_eq slot slot ≡ true
slot_eq_same (Field n i) = grind (arith, nat_tests)
slot_eq_same (Cell n j) = grind (arith, nat_tests)
slot_eq_same (Global g) = grind (arith, nat_tests)

-- the value of the slot that an entry writes
pub last_written : (h : List Entry) (e : Entry) (slot : Slot) (v : Value) → e.act ≡ Write slot v
    → last (h ++ e ∷ []) slot ≡ v
last_written h e slot v act =
    last-push h e slot ∙ (ap (λ (a : Act). after_write slot (write_of a) (last h slot)) act
    ∙ ap (λ b. cond b v (last h slot)) (slot_eq_same slot))

-- the value of another slot
pub last_other : (h : List Entry) (e : Entry) (slot other : Slot) (v : Value) → e.act ≡ Write slot v
    → slot_eq slot other ≡ false → last (h ++ e ∷ []) other ≡ last h other
last_other h e slot other v act differ =
    last-push h e other ∙ (ap (λ (a : Act). after_write other (write_of a) (last h other)) act
    ∙ ap (λ b. cond b v (last h other)) differ)

-- slots of two objects, or with two numbers, differ
pub fields_differ : (n m i j : ℕ) → (n ≡ m → i ≡ j → ⊥) → slot_eq (Field n i) (Field m j) ≡ false
fields_differ n m i j differ = elim (eqb_tells n m) [
  | inl same ↦ elim (eqb_tells i j) [ inl one ↦ absurd (differ same.1 one.1) | inr two ↦ grind (arith, same.0, two.0) ]
  | inr other ↦ grind (arith, other.0)
]

-- and so do number words
pub cells_differ : (n m i j : ℕ) → (n ≡ m → i ≡ j → ⊥) → slot_eq (Cell n i) (Cell m j) ≡ false
cells_differ n m i j differ = elim (eqb_tells n m) [
  | inl same ↦ elim (eqb_tells i j) [ inl one ↦ absurd (differ same.1 one.1) | inr two ↦ grind (arith, same.0, two.0) ]
  | inr other ↦ grind (arith, other.0)
]
