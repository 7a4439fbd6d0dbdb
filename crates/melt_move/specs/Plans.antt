-- What a Move collection decides before it changes anything: who stays and where, who leaves, and who gets a home.
use Rattle.std.specs.Prelude.{◌≡◌, ◌≢◌, ◌⊎◌, ◌^◌, ℕ, zero, suc, ◌+◌, ◌≤◌, ◌<◌, List, length, map, sum, take}
use Rattle.std.specs.Prelude.{slice_get, slice_index, Some}
use Rattle.melt_model.specs.declared.reports.Phase.TheVariants.{Move}
use Rattle.melt_word.specs.Words.{IsHomeAndScion, home_word, home_part, cost_of}
use Rattle.melt_word.specs.declared.header.Shape.{Shape}
use Rattle.melt_word.specs.declared.header.Header.{Header}
use Rattle.melt_space.specs.Space.{SpaceWords, word_at}
use Rattle.melt_scion.specs.State.{Scion, State, HeaderAt, Reached}
use Rattle.melt_scion.specs.Moves.{Leaves, Chooses, IsNamedByLeaving}
use Rattle.melt_disk.specs.Homes.{need_of}
use Rattle.melt_copy.specs.declared.live.LiveSet.{LiveSet}
use Rattle.melt_copy.specs.Moving.{IsWhole, Relocates, AreHeld, words_in}
use Rattle.melt_copy.specs.Tracking.{goes}
use Rattle.melt_move.specs.declared.choice.Departure.{Departure}
use Rattle.melt_move.specs.declared.choice.Choice.{Choice}
use Rattle.melt_move.specs.declared.homes.Given.{Given}
use Rattle.melt_move.specs.declared.homes.NewHomes.{NewHomes}
use Rattle.melt_move.specs.declared.decision.Decision.{Decision}

-- The state has the words of the space, and what can be reached in it is whole.
pub record IsSeen (space : SpaceWords) (s : State) : Type 0 where
  pub whole : IsWhole s
  pub word : (k : ℕ) → s.word k ≡ word_at space k
  pub size : s.base.size ≡ length space.list
  pub free : s.free ≡ space.used + 1

-- an object of this shape starts at the address
pub record IsShaped (s : State) (address : ℕ) (shape : Shape) : Type 0 where
  pub header : Header
  pub starts : HeaderAt s address header
  pub is : header.shape ≡ shape

-- The objects that leave, each once, with their shapes.
pub record AreDepartures (s : State) (leaving : List Departure) : Type 0 where
  pub each : (k : ℕ) (d : Departure) → slice_get leaving k ≡ Some d → Leaves Move s d.from × IsShaped s d.from d.shape
  pub all : (a : ℕ) → Leaves Move s a → (k : ℕ) × (d : Departure) × (slice_get leaving k ≡ Some d) × (d.from ≡ a)
  pub once : (i j : ℕ) (d e : Departure) → slice_get leaving i ≡ Some d → slice_get leaving j ≡ Some e → d.from ≡ e.from
      → i ≡ j

-- Who stays, one after the other from word 1 on, and who leaves. The first ones that stay are those in registers.
pub record IsChoice (s : State) (live : LiveSet) (choice : Choice) : Type 0 where
  pub stay : Relocates s (goes choice.stay) choice.stay.moves.items choice.stay.next
  pub chooses : Chooses Move s (goes choice.stay)
  pub held : AreHeld s choice.stay.moves.items live.held_count
  pub first : take live.held_count choice.stay.moves.items ≡ take live.held_count live.forwarding.moves.items
  pub leave : AreDepartures s choice.leaving.items

-- an object that leaves, or to which one that leaves refers, and that has no home yet
pub record WantsHome (s : State) (address : ℕ) : Type 0 where
  pub why : Leaves Move s address ⊎ IsNamedByLeaving Move s address
  pub had_none : s.word (address + 1) ≡ 0

-- how many words these homes take
abbrev pub need_for : List Given → ℕ
need_for given = sum (map (λ (g : Given). cost_of g.shape) given)

-- Exactly the objects that want a home are given one, one home after the other. The table has, at the address of each,
-- one more than the words of the homes before it.
pub record GivesNew (s : State) (homes : NewHomes) : Type 0 where
  pub each : (k : ℕ) (g : Given) → slice_get homes.given.items k ≡ Some g
      → WantsHome s g.from × IsShaped s g.from g.shape
  pub all : (a : ℕ) → WantsHome s a → (k : ℕ) × (g : Given) × (slice_get homes.given.items k ≡ Some g) × (g.from ≡ a)
  pub offset : (k : ℕ) (g : Given) → slice_get homes.given.items k ≡ Some g
      → slice_index homes.offsets.items g.from ≡ 1 + need_for (take k homes.given.items)
  pub only : (a : ℕ) → slice_index homes.offsets.items a ≢ 0
      → (k : ℕ) × (g : Given) × (slice_get homes.given.items k ≡ Some g) × (g.from ≡ a)
  pub counts : need_of homes.counts ≡ need_for homes.given.items
  pub small : need_for homes.given.items < 2 ^ 30

-- the home after so many words of new homes, of which the first begins at a word; for 0 there is none
abbrev pub new_home : ℕ → ℕ → ℕ
new_home first zero = 0
new_home first (suc before) = first + before

-- a home, or else the other
abbrev pub home_or : ℕ → ℕ → ℕ
home_or zero new = new
home_or (suc home) new = suc home

-- the home of the object at an address, by the words from before and the new homes: 0 for none
abbrev pub home_after : (ℕ → ℕ) → ℕ → (ℕ → ℕ) → ℕ → ℕ
home_after word first offset a = home_or (home_part (word (a + 1))) (new_home first (offset a))

-- the home of each object by a decision, with the words from before
abbrev pub home_by : (ℕ → ℕ) → Decision → ℕ → ℕ
home_by word decision = home_after word decision.homes.first (slice_index decision.homes.offsets.items)

-- a home from before: its scion is live and names both
pub record OldHome (s : State) (address home scion : ℕ) : Type 0 where
  pub in_range : IsHomeAndScion (record { home = home; scion = scion })
  pub some : 1 ≤ scion
  pub is : s.word (address + 1) ≡ home_word (Some (record { home = home; scion = scion }))
  pub live : s.base.scion scion ≡ Some (record { home = home; address = address })
  pub within : (header : Header) → HeaderAt s address header → home + cost_of header.shape ≤ s.base.end

-- no home, or one from before
abbrev pub HasOldHome : State → ℕ → Type 0
HasOldHome s address = (s.word (address + 1) ≡ 0) ⊎ ((home : ℕ) × (scion : ℕ) × OldHome s address home scion)

-- a live scion is that of an object that can be reached
pub record ScionIs (s : State) (scion : ℕ) (x : Scion) : Type 0 where
  pub reached : Reached s x.address
  pub home : OldHome s x.address x.home scion

-- All that was decided for a state, and what is known of homes and scions before it. The new homes begin at the first
-- word past all homes.
pub record IsDecision (space : SpaceWords) (s : State) (decision : Decision) : Type 0 where
  pub seen : IsSeen space s
  pub live : LiveSet
  pub held_count : decision.held_count ≡ live.held_count
  pub held_words : decision.held_words ≡ words_in (take decision.held_count decision.choice.stay.moves.items)
  pub choice : IsChoice s live decision.choice
  pub homes : GivesNew s decision.homes
  pub first : decision.homes.first ≡ s.base.end
  pub old_homes : (a : ℕ) → Reached s a → HasOldHome s a
  pub scions : (k : ℕ) (x : Scion) → s.base.scion k ≡ Some x → ScionIs s k x
  pub first_end : 1 ≤ s.base.end

-- The homes that were decided lie on a disk of 32-bit words.
abbrev pub HasRoom : Decision → Type 0
HasRoom decision = decision.homes.first + need_for decision.homes.given.items ≤ 2 ^ 32
