-- How homes are given one by one: which objects slots of those that leave refer to, and who has a new home so far.
use Rattle.std.specs.Prelude.{◌≡◌, ◌≢◌, ◌↔◌, ◌⊎◌, ℕ, ◌+◌, ◌<◌, ◌≤◌, Bool, true, false, List, length, take, slice_get}
use Rattle.std.specs.Prelude.{slice_index, slice_index_or, Some}
use Rattle.melt_model.specs.declared.reports.Phase.TheVariants.{Move}
use Rattle.melt_word.specs.declared.header.Shape.{Shape}
use Rattle.melt_space.specs.Space.{SpaceWords}
use Rattle.melt_scion.specs.State.{State, RefersTo}
use Rattle.melt_scion.specs.Moves.{Leaves, IsNamedByLeaving}
use Rattle.melt_disk.specs.Homes.{need_of}
use Rattle.melt_copy.specs.declared.forwarding.Relocation.{Relocation}
use Rattle.melt_copy.specs.declared.live.LiveSet.{LiveSet}
use Rattle.melt_copy.specs.Moving.{IsRefWord}
use Rattle.melt_move.specs.declared.choice.Choice.{Choice}
use Rattle.melt_move.specs.declared.choice.Departure.{Departure}
use Rattle.melt_move.specs.declared.homes.Given.{Given}
use Rattle.melt_move.specs.declared.homes.Giving.{Giving}
use Rattle.melt_move.specs.declared.homes.NewHomes.{NewHomes}
use Rattle.melt_move.specs.Plans.{IsSeen, IsShaped, IsChoice, WantsHome, need_for}

-- words of references, whose addresses are among the first numbers, so many of them
pub record AreSlots (slots : List ℕ) (count : ℕ) : Type 0 where
  pub references : (i : ℕ) → i < length slots → IsRefWord (slice_index slots i)
  pub below : (i address : ℕ) → i < length slots → RefersTo (slice_index slots i) address → address < count

-- the address has a mark
abbrev pub IsMarked : List Bool → ℕ → Type 0
IsMarked marks address = slice_index_or marks address false ≡ true

-- one of the first slots, so many of them, refers to the address
abbrev pub IsInSlots : List ℕ → ℕ → ℕ → Type 0
IsInSlots slots count address = (i : ℕ) × (i < count) × RefersTo (slice_index slots i) address

-- The addresses in the first slots, so many of them, were marked, and no others.
pub record MarksSlots (slots : List ℕ) (count : ℕ) (old new : List Bool) : Type 0 where
  pub size : length new ≡ length old
  pub marked : (address : ℕ) → IsMarked new address ↔ (IsMarked old address ⊎ IsInSlots slots count address)

-- exactly the addresses to which slots of objects that leave refer have a mark, and each object has a place for one
pub record HasMarks (s : State) (marks : List Bool) : Type 0 where
  pub size : s.free ≤ length marks
  pub marked : (address : ℕ) → IsMarked marks address ↔ IsNamedByLeaving Move s address

-- the choice was made for the state
abbrev pub WasChosen : State → Choice → Type 0
WasChosen s choice = (live : LiveSet) × IsChoice s live choice

-- an object of this shape that is to have a home
pub record IsOffered (s : State) (address : ℕ) (shape : Shape) : Type 0 where
  pub why : Leaves Move s address ⊎ IsNamedByLeaving Move s address
  pub shaped : IsShaped s address shape

-- what the table of new homes has at an address
abbrev pub offset_at : NewHomes → ℕ → ℕ
offset_at homes = slice_index homes.offsets.items

-- Those that have a new home so far want one, and their homes lie one after the other.
pub record HasGiven (space : SpaceWords) (s : State) (giving : Giving) : Type 0 where
  pub seen : IsSeen space s
  pub table : length giving.homes.offsets.items ≡ space.used + 1
  pub each : (k : ℕ) (g : Given) → slice_get giving.homes.given.items k ≡ Some g
      → WantsHome s g.from × IsShaped s g.from g.shape
  pub once : (i j : ℕ) (g h : Given) → slice_get giving.homes.given.items i ≡ Some g
      → slice_get giving.homes.given.items j ≡ Some h → g.from ≡ h.from → i ≡ j
  pub offset : (k : ℕ) (g : Given) → slice_get giving.homes.given.items k ≡ Some g
      → offset_at giving.homes g.from ≡ 1 + need_for (take k giving.homes.given.items)
  pub only : (a : ℕ) → offset_at giving.homes a ≢ 0
      → (k : ℕ) × (g : Given) × (slice_get giving.homes.given.items k ≡ Some g) × (g.from ≡ a)
  pub counts : need_of giving.homes.counts ≡ need_for giving.homes.given.items
  pub need : giving.need ≡ need_for giving.homes.given.items

-- Exactly those that are offered a home and have none get a new one. The others keep theirs.
pub record GivesTo (word : ℕ → ℕ) (Offered : ℕ → Type 0) (old new : NewHomes) : Type 0 where
  pub all : (a : ℕ) → Offered a → word (a + 1) ≡ 0 → offset_at new a ≢ 0
  pub only : (a : ℕ) → offset_at new a ≢ 0 → (offset_at old a ≢ 0) ⊎ Offered a
  pub keeps : (a : ℕ) → offset_at old a ≢ 0 → offset_at new a ≢ 0
  pub first : new.first ≡ old.first

-- one of the first objects that leave, so many of them
abbrev pub IsAmong : List Departure → ℕ → ℕ → Type 0
IsAmong leaving count a = (k : ℕ) × (d : Departure) × (k < count) × (slice_get leaving k ≡ Some d) × (d.from ≡ a)

-- one of the first objects that stay, so many of them, that has a mark
abbrev pub IsAmongMarked : List Relocation → List Bool → ℕ → ℕ → Type 0
IsAmongMarked moves marks count a = IsMarked marks a
    × ((k : ℕ) × (m : Relocation) × (k < count) × (slice_get moves k ≡ Some m) × (m.from ≡ a))
