-- What the phases of collections do with who leaves, with stale bits and with the tags of references.
use Rattle.std.proofs.Common.{◌≡◌, ◌≢◌, ℕ, zero, suc, refl, ◌∙◌, arith}
use Rattle.std.specs.Prelude.{false}
use Rattle.std.specs.Option.{option_map}
use Rattle.melt_model.specs.declared.history.Value.TheVariants as value
use Rattle.melt_model.specs.declared.reports.Phase.{Phase}
use Rattle.melt_model.specs.declared.reports.Phase.TheVariants.{Inactive, Mark, Move}
use Rattle.melt_word.specs.Words.{IsAddress, IsRef}
use Rattle.melt_word.specs.declared.header.Header.{Header}
use Rattle.melt_word.specs.declared.reference.Ref.{Ref}
use Rattle.melt_scion.specs.State.{State, HoldsAt, IsFresh, Reached}
use Rattle.melt_scion.specs.Placed.{Maps, IsNamed, value_of, MayStand}
use Rattle.melt_scion.specs.Moves.{Leaves, kept_tag, BitGoes}
use Rattle.melt_scion.specs.Moves.{by_place}

-- what leaves was reached
pub leaving_reached : (phase : Phase) (s : State) (a : ℕ) → Leaves phase s a → Reached s a
leaving_reached Inactive s a leaves = absurd leaves
leaving_reached Mark s a leaves = absurd leaves
leaving_reached Move s a leaves = leaves.0

-- and stands in no register
pub leaving_not_held : (phase : Phase) (s : State) (a : ℕ) → Leaves phase s a → HoldsAt s a → ⊥
leaving_not_held Inactive s a leaves holds = leaves
leaving_not_held Mark s a leaves holds = leaves
leaving_not_held Move s a leaves holds = leaves.1 holds

-- what a register holds gets no stale bit
pub held_fresh : (phase : Phase) (s : State) (a : ℕ) (old later : Header) → BitGoes phase s a old later → HoldsAt s a →
    old.stale ≡ false → later.stale ≡ false
held_fresh Inactive s a old later bit holds fresh = bit ∙ fresh
held_fresh Mark s a old later bit holds fresh = bit.1 holds
held_fresh Move s a old later bit holds fresh = bit.1 holds

-- a clean reference to what stays is in range
pub tag_in_range : (phase : Phase) (a : ℕ) → IsAddress a → IsRef (kept_tag phase a)
tag_in_range Inactive a is = is
tag_in_range Mark a is = is
tag_in_range Move a is = is

-- stands for the object
pub tag_value : (phase : Phase) (maps : Maps) (a : ℕ) →
    value_of maps (kept_tag phase a) ≡ option_map value.Ref (maps.address a)
tag_value Inactive maps a = refl
tag_value Mark maps a = refl
tag_value Move maps a = refl

-- and may stand where stale bits stay, or is not clean any more
pub tag_may_stand : (phase : Phase) (maps : Maps) (s : State) {t : State} (a : ℕ) {to : ℕ} (old later : Header)
    → IsNamed maps to → BitGoes phase s a old later → (later.stale ≡ old.stale → IsFresh t to)
    → MayStand maps t (kept_tag phase to)
tag_may_stand Inactive maps s a old later named bit fresh = (named, fresh bit)
tag_may_stand Mark maps s a old later named bit fresh = named
tag_may_stand Move maps s a old later named bit fresh = named

-- the reference to an object with a new address
pub by_place_there : (place : ℕ) (there away : Ref) → place ≢ 0 → by_place place there away ≡ there
by_place_there zero there away some = absurd (some refl)
by_place_there (suc place) there away some = refl

-- and to one without
pub by_place_away : (place : ℕ) (there away : Ref) → place ≡ 0 → by_place place there away ≡ away
by_place_away zero there away none = refl
by_place_away (suc place) there away none = absurd (omega arith)
