-- Histories of a heap that never collects.
use Rattle.std.specs.Prelude.{◌≡◌, ℕ, ◌<◌, ◌≤◌, Bool, false, ◌==◌, ◌&&◌, if◌then◌else◌, List, length, take, fold}
use Rattle.std.specs.Prelude.{Option, None, Some, IfSome, IsSomeAnd, slice_get}
use Rattle.std.specs.List.{filter_map}
use Rattle.melt_model.specs.declared.history.Value.{Value}
use Rattle.melt_model.specs.declared.history.Value.TheVariants.{Nil, Ref, Num}
use Rattle.melt_model.specs.declared.history.Slot.{Slot}
use Rattle.melt_model.specs.declared.history.Slot.TheVariants.{Field, Cell, Global}
use Rattle.melt_model.specs.declared.history.Act.{Act}
use Rattle.melt_model.specs.declared.history.Act.TheVariants.{Make, Read, Write}
use Rattle.melt_model.specs.declared.history.Entry.{Entry}

-- how many reference slots and how many number words an object has
pub record Shape : Type 0 where
  pub refs : ℕ
  pub nums : ℕ

-- What an act is to the rest of the model is said by four functions: the shape of the object that it makes,
-- the slot that it reads with the value found there, the slot that it writes with the value, and, below,
-- what it gives to its thread.
abbrev pub shape_made : Act → Option Shape
shape_made (Make refs nums) = Some (record { refs = refs; nums = nums })
shape_made (Read slot value) = None
shape_made (Write slot value) = None

abbrev pub read_of : Act → Option (Slot × Value)
read_of (Make refs nums) = None
read_of (Read slot value) = Some (slot, value)
read_of (Write slot value) = None

abbrev pub write_of : Act → Option (Slot × Value)
write_of (Make refs nums) = None
write_of (Read slot value) = None
write_of (Write slot value) = Some (slot, value)

-- the shapes of the objects made so far, object 0 first
abbrev pub shapes : List Entry → List Shape
shapes h = filter_map (λ e. shape_made e.act) h

-- how many objects were made
abbrev pub made : List Entry → ℕ
made h = length (shapes h)

-- the shape of an object, if it was made
abbrev pub shape : List Entry → ℕ → Option Shape
shape h n = slice_get (shapes h) n

-- the value that an act gives to its thread, after these entries
abbrev pub given : List Entry → Act → Option Value
given before (Make refs nums) = Some (Ref (made before))
given before (Read slot value) = Some value
given before (Write slot value) = None

abbrev pub slot_eq : Slot → Slot → Bool
slot_eq (Field n i) (Field m j) = (n == m) && (i == j)
slot_eq (Cell n i) (Cell m j) = (n == m) && (i == j)
slot_eq (Global g) (Global k) = g == k
slot_eq (Field n i) (Cell m j) = false
slot_eq (Field n i) (Global k) = false
slot_eq (Cell n i) (Field m j) = false
slot_eq (Cell n i) (Global k) = false
slot_eq (Global g) (Field m j) = false
slot_eq (Global g) (Cell m j) = false

-- the value of a slot to which nothing was written
abbrev pub first_value : Slot → Value
first_value (Field n i) = Nil
first_value (Cell n j) = Num 0
first_value (Global g) = Nil

-- the value of a slot after a write, if there is one
abbrev pub after_write : Slot → Option (Slot × Value) → Value → Value
after_write slot None value = value
after_write slot (Some write) value = if slot_eq write.0 slot then write.1 else value

-- the value last written to a slot
abbrev pub last : List Entry → Slot → Value
last h slot = fold (λ value e. after_write slot (write_of e.act) value) (first_value slot) h

-- the slot is one of an object that was made, or one of the globals
abbrev pub IsSlot : List Entry → ℕ → Slot → Type 0
IsSlot before globals (Field n i) = IsSomeAnd (shape before n) (λ z. i < z.refs)
IsSlot before globals (Cell n j) = IsSomeAnd (shape before n) (λ z. j < z.nums)
IsSlot before globals (Global g) = g < globals

-- Nil, or an object that was made
abbrev pub IsReference : List Entry → Value → Type 0
IsReference before Nil = Unit {0}
IsReference before (Ref n) = n < made before
IsReference before (Num v) = ⊥

abbrev pub IsNumber : Value → Type 0
IsNumber Nil = ⊥
IsNumber (Ref n) = ⊥
IsNumber (Num v) = Unit {0}

-- reference slots and globals hold references, number words hold numbers
abbrev pub CanHold : List Entry → Slot → Value → Type 0
CanHold before (Field n i) value = IsReference before value
CanHold before (Cell n j) value = IsNumber value
CanHold before (Global g) value = IsReference before value

-- the act may stand after these entries
pub record MayFollow (before : List Entry) (globals : ℕ) (act : Act) : Type 0 where
  pub read_slot : IfSome (read_of act) (λ read. IsSlot before globals read.0)
  pub read_last : IfSome (read_of act) (λ read. read.1 ≡ last before read.0)
  pub write_slot : IfSome (write_of act) (λ write. IsSlot before globals write.0)
  pub write_value : IfSome (write_of act) (λ write. CanHold before write.0 write.1)
  pub small : IfSome (shape_made act) (λ z. (z.refs ≤ 62) × (z.nums ≤ 62))

-- each entry may stand where it stands
abbrev pub Legal : List Entry → ℕ → Type 0
Legal h globals = (p : ℕ) (e : Entry) → slice_get h p ≡ Some e → MayFollow (take p h) globals e.act
