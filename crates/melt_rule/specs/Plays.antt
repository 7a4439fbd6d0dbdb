-- What each kind of step tells its thread, by the word on which it was made and the word that it found.
use Rattle.std.specs.Prelude.{◌≡◌, ◌⊎◌, ℕ, ◌+◌, ◌*◌, ◌<◌, true, false, Some}
use Rattle.atomic_table.specs.Table.{Me, Step}
use Rattle.melt_model.specs.declared.history.Act.TheVariants.{Read, Write}
use Rattle.melt_model.specs.declared.history.Slot.{Slot}
use Rattle.melt_model.specs.declared.history.Slot.TheVariants as slot
use Rattle.melt_model.specs.declared.history.Value.{Value}
use Rattle.melt_model.specs.declared.history.Value.TheVariants.{Num}
use Rattle.melt_word.specs.Words.{IsHeader, header_word, IsRef, ref_word}
use Rattle.melt_word.specs.declared.header.Header.{Header}
use Rattle.melt_word.specs.declared.header.Shape.{Shape}
use Rattle.melt_word.specs.declared.reference.Ref.{Ref}
use Rattle.melt_core.specs.declared.call.Place.{Place}
use Rattle.melt_core.specs.declared.call.Place.TheVariants.{Field, Global}
use Rattle.melt_rule.specs.Rule.{Has}
use Rattle.melt_rule.specs.Shown.{global_place, word_place}
use Rattle.melt_rule.specs.Tells.{IsWithin, Names, Looks, Ends, Polls, Heads, Stops, Asks}
use Rattle.melt_rule.specs.declared.view.Doing.TheVariants.{Headed}
use Rattle.melt_rule.specs.declared.view.View.{View}

-- the seat takes no slot, and knows of what lies within the space
abbrev pub Stays : Me ℕ View → Me ℕ View → Type 0
Stays m w = (w.1 ≡ m.1) × IsWithin w.0

-- 0 or 1 was found in the stop word
abbrev pub PollPlay : Step ℕ → Me ℕ View → ℕ → Me ℕ View → Type 0
PollPlay s m found w = Stays m w
    × (((found ≡ 0) × Polls m.0 w.0 false) ⊎ ((found ≡ 1) × Polls m.0 w.0 true))

-- a header was found, of an object that is known
pub record FindsHeader (v w : View) (address n found : ℕ) : Type 0 where
  pub header : Header
  pub in_range : IsHeader header
  pub is : found ≡ header_word header
  pub heads : Heads v w address n header.shape

abbrev pub HeadPlay : Step ℕ → Me ℕ View → ℕ → Me ℕ View → Type 0
HeadPlay s m found w = Stays m w
    × ((address n : ℕ) → Has m.0.known address n → s.word ≡ word_place m.0.began address
    → FindsHeader m.0 w.0 address n found)

-- a reference was found
pub record FindsReference (v w : View) (at : Slot) (place : Place) (found : ℕ) : Type 0 where
  pub reference : Ref
  pub in_range : IsRef reference
  pub is : found ≡ ref_word reference
  pub looks : Looks v w at place reference

abbrev pub LookPlay : Step ℕ → Me ℕ View → ℕ → Me ℕ View → Type 0
LookPlay s m found w = Stays m w
    × ((address n i : ℕ) (shape : Shape) → m.0.doing ≡ Some (Headed address shape) → Has m.0.known address n
    → i < shape.refs → s.word ≡ word_place m.0.began (address + 2 + i)
    → FindsReference m.0 w.0 (slot.Field n i) (Field address i) found)

abbrev pub GlobalLookPlay : Step ℕ → Me ℕ View → ℕ → Me ℕ View → Type 0
GlobalLookPlay s m found w = Stays m w
    × ((g : ℕ) → g < m.0.began.globals → s.word ≡ global_place g
    → FindsReference m.0 w.0 (slot.Global g) (Global g) found)

abbrev pub NumberPlay : Step ℕ → Me ℕ View → ℕ → Me ℕ View → Type 0
NumberPlay s m found w = Stays m w
    × ((address n j : ℕ) (shape : Shape) → m.0.doing ≡ Some (Headed address shape) → Has m.0.known address n
    → j < shape.nums → s.word ≡ word_place m.0.began (address + 2 + shape.refs + j)
    → Ends m.0 w.0 (Read (slot.Cell n j) (Num found)))

-- an address that a register may hold was stored
abbrev pub StorePlay : Step ℕ → Me ℕ View → ℕ → Me ℕ View → Type 0
StorePlay s m stored w = Stays m w
    × ((address n i held : ℕ) (shape : Shape) (value : Value) → m.0.doing ≡ Some (Headed address shape)
    → Has m.0.known address n → i < shape.refs → s.word ≡ word_place m.0.began (address + 2 + i) → stored ≡ 4 * held
    → Names m.0.known held value → Ends m.0 w.0 (Write (slot.Field n i) value))

abbrev pub GlobalStorePlay : Step ℕ → Me ℕ View → ℕ → Me ℕ View → Type 0
GlobalStorePlay s m stored w = Stays m w
    × ((g held : ℕ) (value : Value) → g < m.0.began.globals → s.word ≡ global_place g → stored ≡ 4 * held
    → Names m.0.known held value → Ends m.0 w.0 (Write (slot.Global g) value))

abbrev pub NumberStorePlay : Step ℕ → Me ℕ View → ℕ → Me ℕ View → Type 0
NumberStorePlay s m stored w = Stays m w
    × ((address n j : ℕ) (shape : Shape) → m.0.doing ≡ Some (Headed address shape) → Has m.0.known address n
    → j < shape.nums → s.word ≡ word_place m.0.began (address + 2 + shape.refs + j)
    → Ends m.0 w.0 (Write (slot.Cell n j) (Num stored)))

-- the stop word was set
abbrev pub StopPlay : Step ℕ → Me ℕ View → ℕ → Me ℕ View → Type 0
StopPlay s m stored w = Stays m w × Stops m.0 w.0

abbrev pub AskPlay : Step ℕ → Me ℕ View → ℕ → Me ℕ View → Type 0
AskPlay s m stored w = Stays m w × Asks m.0 w.0
