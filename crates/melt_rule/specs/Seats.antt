-- Seats at the words of an epoch, as their threads see them.
use Rattle.std.specs.Prelude.{◌≡◌, ℕ, ◌+◌, ◌^◌, ◌<◌, [], false, Some}
use Rattle.atomic_table.specs.Seated.{TableId}
use Rattle.atomic_table.specs.declared.shared.Seat.{Seat}
use Rattle.melt_word.specs.declared.header.Shape.{Shape}
use Rattle.melt_rule.specs.Rule.{Has, is_bound}
use Rattle.melt_rule.specs.Shown.{globals_from}
use Rattle.melt_rule.specs.Tells.{IsWithin}
use Rattle.melt_rule.specs.declared.began.Start.{Start}
use Rattle.melt_rule.specs.declared.view.Doing.TheVariants.{Headed}
use Rattle.melt_rule.specs.declared.view.View.{View}

-- The words of an epoch: which they are, and what the epoch began with.
pub record EpochWords : Type 0 where
  pub id : TableId
  pub start : Start

-- a table of as many words as an epoch has, and no slots
pub record IsTable (id : TableId) (start : Start) (before forwards_at : ℕ) : Type 0 where
  pub none : id.slots ≡ 0
  pub words : id.words ≡ globals_from + start.began.globals + start.began.forwards + start.began.size
  pub before_is : before ≡ 15 + start.began.globals + start.began.forwards
  pub forwards_is : forwards_at ≡ globals_from + start.began.globals
  pub few : before + start.began.size < 2 ^ 32
  pub small : start.began.size < 2 ^ 30

-- what a seat knows
abbrev pub knows_of : Seat ℕ View → View
knows_of seat = seat.me.0

-- A seat at these words, which is not spent.
pub record Sits (words : EpochWords) (seat : Seat ℕ View) : Type 0 where
  pub same : seat.table_id ≡ words.id
  pub none : seat.me.1 ≡ []
  pub live : 0 < (knows_of seat).parts
  pub began : (knows_of seat).began ≡ words.start.began

-- And one that may step: what it knows lies within the space.
pub record IsSeat (words : EpochWords) (seat : Seat ℕ View) : Type 0 where
  pub same : seat.table_id ≡ words.id
  pub none : seat.me.1 ≡ []
  pub live : 0 < (knows_of seat).parts
  pub began : (knows_of seat).began ≡ words.start.began
  pub within : IsWithin (knows_of seat)

-- the call has not claimed words past the last one, nor is it to read the slot of its look next
abbrev pub MayGoOn : View → Type 0
MayGoOn v = is_bound v.doing ≡ false

-- the object at the address is known
abbrev pub HasName : View → ℕ → Type 0
HasName v address = (n : ℕ) × Has v.known address n

-- and the call speaks of it, which has such a shape
abbrev pub SpeaksOf : View → ℕ → (Shape → Type 0) → Type 0
SpeaksOf v address P = HasName v address × ((shape : Shape) × (v.doing ≡ Some (Headed address shape)) × P shape)
