-- What the steps of the read barrier tell their thread, by the word on which they were
-- made and the word that they found.
use Rattle.std.specs.Prelude.{◌≡◌, ℕ, ◌+◌, Some}
use Rattle.atomic_table.specs.Table.{Me, Step}
use Rattle.melt_model.specs.declared.history.Slot.{Slot}
use Rattle.melt_model.specs.declared.history.Slot.TheVariants as slot
use Rattle.melt_word.specs.declared.reference.Ref.{Ref}
use Rattle.melt_core.specs.declared.call.Place.{Place}
use Rattle.melt_core.specs.declared.call.Place.TheVariants.{Field, Global}
use Rattle.melt_rule.specs.Plays.{Stays}
use Rattle.melt_rule.specs.Rule.{Has}
use Rattle.melt_rule.specs.Shown.{global_place, word_place}
use Rattle.melt_rule.specs.Tells.{Exchanged, Reaches}
use Rattle.melt_rule.specs.declared.view.Doing.TheVariants.{Looked, Cleared}
use Rattle.melt_rule.specs.declared.view.View.{View}

-- the bits of a word but for the second, which is the stale bit of a header
abbrev pub stale_mask : ℕ
stale_mask = 18446744073709551613

-- the stale bit of the object at the target was cleared
abbrev pub ClearPlay : Step ℕ → Me ℕ View → ℕ → Me ℕ View → Type 0
ClearPlay s m found w = Stays m w
    × ((place : Place) (reference : Ref) (target : ℕ) → m.0.doing ≡ Some (Looked place reference target)
    → Reaches m.0 w.0 (Some (Cleared place reference target)))

-- the tag was taken from a reference, or another word was found
pub record Untags (v w : View) (at : Slot) (reference : Ref) (target found : ℕ) : Type 0 where
  pub answer : ℕ
  pub exchanged : Exchanged v w at reference target answer found

abbrev pub UntagPlay : Step ℕ → Me ℕ View → ℕ → Me ℕ View → Type 0
UntagPlay s m found w = Stays m w
    × ((address n i target : ℕ) (reference : Ref) → m.0.doing ≡ Some (Cleared (Field address i) reference target)
    → Has m.0.known address n → s.word ≡ word_place m.0.began (address + 2 + i)
    → Untags m.0 w.0 (slot.Field n i) reference target found)

abbrev pub GlobalUntagPlay : Step ℕ → Me ℕ View → ℕ → Me ℕ View → Type 0
GlobalUntagPlay s m found w = Stays m w
    × ((g target : ℕ) (reference : Ref) → m.0.doing ≡ Some (Cleared (Global g) reference target)
    → s.word ≡ global_place g → Untags m.0 w.0 (slot.Global g) reference target found)
