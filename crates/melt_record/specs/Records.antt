-- Records of moved objects on a disk of words: the object itself, or the stub that it left behind.
use Rattle.std.specs.Prelude.{◌≡◌, ℕ, ◌+◌, ◌*◌, ◌^◌, ◌<◌, ◌≤◌, ◌⊎◌, List, [], ◌∷◌, drop, slice_index}
use Rattle.melt_word.specs.Words.{IsShape, cost_of}
use Rattle.melt_word.specs.declared.header.Shape.{Shape}
use Rattle.melt_record.specs.declared.damage.Damaged.{Damaged}
use Rattle.melt_record.specs.declared.head.Kind.{Kind}
use Rattle.melt_record.specs.declared.head.Kind.TheVariants.{Body, Stub}
use Rattle.melt_record.specs.declared.head.Head.{Head}

abbrev pub kind_number : Kind → ℕ
kind_number Body = 1
kind_number (Stub scion) = 2

-- a byte for the kind and one for each part of the shape, and the home in the upper half
abbrev pub head_word : ℕ → Shape → ℕ → ℕ
head_word number shape home = number + 256 * shape.refs + 65536 * shape.nums + 4294967296 * home

-- the slots are the reference slots, and then the number words
abbrev pub body_words : ℕ → Shape → List ℕ → List ℕ
body_words home shape slots = head_word (kind_number Body) shape home ∷ 0 ∷ slots

abbrev pub stub_words : ℕ → Shape → ℕ → List ℕ
stub_words home shape scion = head_word (kind_number (Stub scion)) shape home ∷ scion ∷ []

pub record IsScion (scion : ℕ) : Type 0 where
  pub not_null : 0 < scion
  pub small : scion < 2 ^ 30

-- no reference, or one to a home before the end
abbrev pub IsSlotWord : ℕ → ℕ → Type 0
IsSlotWord end word = (word ≡ 0) ⊎ ((home : ℕ) × (0 < home) × (home < end) × (word ≡ 4 * home + 3))

-- the first so many of the words are slot words
abbrev pub AreSlots : ℕ → ℕ → List ℕ → Type 0
AreSlots end count words = (i : ℕ) → i < count → IsSlotWord end (slice_index words i)

-- the first word at a home of a record of the kind and the shape, with room for the object before the end
pub record IsFirstWord (home end word : ℕ) (kind : Kind) (shape : Shape) : Type 0 where
  pub in_range : IsShape shape
  pub within : home + cost_of shape ≤ end
  pub spelled : word ≡ head_word (kind_number kind) shape home

abbrev pub IsSecondWord : ℕ → Kind → Type 0
IsSecondWord word Body = word ≡ 0
IsSecondWord word (Stub scion) = IsScion scion × (word ≡ scion)

-- the head that the first two words of a record spell
pub record IsHead (home end first second : ℕ) (head : Head) : Type 0 where
  pub first_word : IsFirstWord home end first head.kind head.shape
  pub second_word : IsSecondWord second head.kind

-- no kind and no shape give the first word
pub record IsBadFirst (home end first : ℕ) (damage : Damaged) : Type 0 where
  pub at : damage.at ≡ 0
  pub word : damage.word ≡ first
  pub bad : (kind : Kind) (shape : Shape) → ¬ IsFirstWord home end first kind shape

-- some kind and some shape give the first word, and no head has both words
pub record IsBadSecond (home end first second : ℕ) (damage : Damaged) : Type 0 where
  pub at : damage.at ≡ 1
  pub word : damage.word ≡ second
  pub good : (kind : Kind) × (shape : Shape) × IsFirstWord home end first kind shape
  pub bad : (head : Head) → ¬ IsHead home end first second head

-- where the first two words of a record stop to spell a head
pub record IsHeadDamage (home end first second : ℕ) (damage : Damaged) : Type 0 where
  pub home_is : damage.home ≡ home
  pub place : IsBadFirst home end first damage ⊎ IsBadSecond home end first second damage

-- the first of the reference slots that is no slot word, in words that begin with the slots
pub record IsSlotDamage (home end count : ℕ) (words : List ℕ) (damage : Damaged) : Type 0 where
  pub home_is : damage.home ≡ home
  pub slot : ℕ
  pub in_range : slot < count
  pub before : AreSlots end slot words
  pub bad : ¬ IsSlotWord end (slice_index words slot)
  pub at : damage.at ≡ 2 + slot
  pub word : damage.word ≡ slice_index words slot

-- a reader of the words finds a Body of the shape, and its slots after the head
pub record BodyIsRead (home end : ℕ) (shape : Shape) (words : List ℕ) : Type 0 where
  pub head : IsHead home end (slice_index words 0) (slice_index words 1) (record { shape = shape; kind = Body })
  pub slots : AreSlots end shape.refs (drop 2 words)

-- a reader of the words finds a Stub of the shape with the scion
abbrev pub StubIsRead : ℕ → ℕ → Shape → ℕ → List ℕ → Type 0
StubIsRead home end shape scion words =
    IsHead home end (slice_index words 0) (slice_index words 1) (record { shape = shape; kind = Stub scion })
