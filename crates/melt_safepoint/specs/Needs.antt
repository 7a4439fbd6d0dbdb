-- How many words the next operation of a thread needs in the heap, by a history.
use Rattle.std.specs.Prelude.{◌≡◌, ℕ, ◌+◌, List}
use Rattle.melt_model.specs.Alive.{Held, words_of}
use Rattle.melt_model.specs.History.{last}
use Rattle.melt_model.specs.declared.history.Entry.{Entry}
use Rattle.melt_model.specs.declared.history.Slot.{Slot}
use Rattle.melt_model.specs.declared.history.Slot.TheVariants.{Field, Global}
use Rattle.melt_model.specs.declared.history.Value.{Value}
use Rattle.melt_model.specs.declared.history.Value.TheVariants.{Ref}
use Rattle.melt_model.specs.declared.operations.Op.{Op}
use Rattle.melt_model.specs.declared.operations.Op.TheVariants as op

-- An object that the slot refers to needs so many words. No register holds it.
pub record NeedsObject (h : List Entry) (value : ℕ → ℕ → Value) (slot : Slot) (need : ℕ) : Type 0 where
  pub number : ℕ
  pub refers : last h slot ≡ Ref number
  pub not_held : Held value number → ⊥
  pub words : need ≡ words_of h number

-- The operation of the thread makes an object of so many words, or loads a reference to one that no register holds.
abbrev pub NeedsWords : List Entry → (ℕ → ℕ → Value) → ℕ → Op → ℕ → Type 0
NeedsWords h value t (op.New dst refs nums) need = need ≡ 2 + refs + nums
NeedsWords h value t (op.Load dst src i) need =
    (m : ℕ) × (value t src ≡ Ref m) × NeedsObject h value (Field m i) need
NeedsWords h value t (op.GLoad dst g) need = NeedsObject h value (Global g) need
NeedsWords h value t o need = ⊥

-- the operation reads a slot or a global that holds a reference
abbrev pub IsLoad : Op → Type 0
IsLoad (op.Load dst src i) = Unit {0}
IsLoad (op.GLoad dst g) = Unit {0}
IsLoad o = ⊥

-- the operation can lack room: it makes an object, or loads one
abbrev pub CanLackRoom : Op → Type 0
CanLackRoom (op.New dst refs nums) = Unit {0}
CanLackRoom o = IsLoad o
