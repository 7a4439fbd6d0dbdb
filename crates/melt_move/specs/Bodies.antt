-- The Bodies of the objects that leave.
use Rattle.std.specs.Prelude.{◌≡◌, ◌⊎◌, ℕ, ◌+◌, ◌<◌, ◌≤◌, List, length, slice_get, slice_index, Some}
use Rattle.melt_model.specs.declared.reports.Phase.TheVariants.{Move}
use Rattle.melt_word.specs.Words.{cost_of}
use Rattle.melt_record.specs.Records.{IsHead}
use Rattle.melt_record.specs.declared.head.Kind.TheVariants.{Body}
use Rattle.melt_space.specs.Space.{SpaceWords}
use Rattle.melt_scion.specs.State.{State, RefersTo}
use Rattle.melt_scion.specs.Moves.{Leaves, IsNamedByLeaving, WordBecomes, body_ref}
use Rattle.melt_copy.specs.Moving.{IsRefWord}
use Rattle.melt_move.specs.declared.choice.Departure.{Departure}
use Rattle.melt_move.specs.declared.decision.Decision.{Decision}
use Rattle.melt_move.specs.Plans.{IsShaped, IsDecision, HasRoom, home_by}

-- the record of the object's last words stands at its home, on a disk whose homes end at a word
pub record HasBody (s : State) (home : ℕ → ℕ) (end : ℕ) (image : ℕ → ℕ) (d : Departure) : Type 0 where
  pub head : IsHead (home d.from) end (image (home d.from)) (image (home d.from + 1)) (record {
    shape = d.shape;
    kind = Body;
  })
  pub slots : (i : ℕ) → i < d.shape.refs
      → WordBecomes (body_ref home) (s.word (d.from + 2 + i)) (image (home d.from + 2 + i))
  pub numbers : (j : ℕ) → j < d.shape.nums
      → image (home d.from + 2 + d.shape.refs + j) ≡ s.word (d.from + 2 + d.shape.refs + j)

-- the word is none of the home of the object
abbrev pub IsOutside : (ℕ → ℕ) → ℕ → Departure → Type 0
IsOutside home at d = (at < home d.from) ⊎ (home d.from + cost_of d.shape ≤ at)

-- the homes of these objects have no word in common
abbrev pub HomesApart : (ℕ → ℕ) → List Departure → Type 0
HomesApart home leaving = (i j : ℕ) (d e : Departure)
    → slice_get leaving i ≡ Some d → slice_get leaving j ≡ Some e → i < j
    → (home d.from + cost_of d.shape ≤ home e.from) ⊎ (home e.from + cost_of e.shape ≤ home d.from)

-- The Bodies of the first objects, so many of them, were written, and words of no home of theirs are as before. A disk
-- that lied may have given two objects one home, and then only the later Body stands there.
pub record WritesBodies (s : State) (home : ℕ → ℕ) (end : ℕ) (leaving : List Departure) (count : ℕ)
    (old new : ℕ → ℕ) : Type 0 where
  pub bodies : HomesApart home leaving → (k : ℕ) (d : Departure) → k < count → slice_get leaving k ≡ Some d
      → HasBody s home end new d
  pub others : (at : ℕ) → ((k : ℕ) (d : Departure) → slice_get leaving k ≡ Some d → IsOutside home at d)
      → new at ≡ old at

-- an object that leaves, where all was decided
pub record Departs (space : SpaceWords) (s : State) (decision : Decision) (d : Departure) : Type 0 where
  pub decided : IsDecision space s decision
  pub room : HasRoom decision
  pub leaves : Leaves Move s d.from
  pub shaped : IsShaped s d.from d.shape

-- an object to which one that leaves refers, where all was decided
pub record IsNamed (space : SpaceWords) (s : State) (decision : Decision) (address : ℕ) : Type 0 where
  pub decided : IsDecision space s decision
  pub room : HasRoom decision
  pub named : IsNamedByLeaving Move s address

-- a reference in an object that leaves, where all was decided
pub record IsLeavingRef (space : SpaceWords) (s : State) (decision : Decision) (word : ℕ) : Type 0 where
  pub decided : IsDecision space s decision
  pub room : HasRoom decision
  pub reference : IsRefWord word
  pub named : (address : ℕ) → RefersTo word address → IsNamedByLeaving Move s address

-- these words are those of such references
pub record AreLeavingRefs (space : SpaceWords) (s : State) (decision : Decision) (words : List ℕ) : Type 0 where
  pub decided : IsDecision space s decision
  pub room : HasRoom decision
  pub references : (i : ℕ) → i < length words → IsRefWord (slice_index words i)
  pub named : (i address : ℕ) → i < length words → RefersTo (slice_index words i) address
      → IsNamedByLeaving Move s address

-- the word of a reference in a Body
abbrev pub BecomesHome : State → Decision → ℕ → ℕ → Type 0
BecomesHome s decision = WordBecomes (body_ref (home_by s.word decision))

-- the slots of the Body of an object that leaves
pub record EncodesSlots (s : State) (decision : Decision) (d : Departure) (slots : List ℕ) : Type 0 where
  pub references : (i : ℕ) → i < d.shape.refs
      → BecomesHome s decision (s.word (d.from + 2 + i)) (slice_index slots i)
  pub numbers : (j : ℕ) → j < d.shape.nums
      → slice_index slots (d.shape.refs + j) ≡ s.word (d.from + 2 + d.shape.refs + j)

-- The Body of an object was written, and words outside its home are as before.
pub record WritesBody (s : State) (home : ℕ → ℕ) (end : ℕ) (d : Departure) (old new : ℕ → ℕ) : Type 0 where
  pub body : HasBody s home end new d
  pub others : (at : ℕ) → IsOutside home at d → new at ≡ old at
