-- How an object comes back from disk: words that one thread filled with a copy of a Body become an object, by one store
-- to an empty forwarding word.
use Rattle.std.specs.Prelude.{◌≡◌, ◌⊎◌, ℕ, zero, suc, ◌+◌, ◌<◌, ◌≤◌, Bool, true, false, List, slice_index, Some}
use Rattle.melt_word.specs.Words.{IsShape, IsDiskHome, header_word, home_word, cost_of}
use Rattle.melt_word.specs.declared.header.Shape.{Shape}
use Rattle.melt_record.specs.declared.head.Kind.TheVariants.{Body, Stub}
use Rattle.melt_record.specs.Records.{AreSlots, IsSlotWord}
use Rattle.melt_forward.specs.Forwarding.{SendsAnother, probe}
use Rattle.melt_scion.specs.State.{Base, State}
use Rattle.melt_scion.specs.Placed.{Maps, HeadIs}
use Rattle.melt_scion.specs.Regions.{Owns}

-- So many forwarding words were read in the search for the home, and each sends another home.
pub record Probed (s : State) (home tried : ℕ) : Type 0 where
  pub few : tried ≤ s.base.forwards
  pub others : (i : ℕ) → i < tried → SendsAnother (s.forward (probe home s.base.forwards i)) home

-- The head of a Body of the shape was read at the home. Where it is told, it is that on disk.
pub record HasHead (told : Bool) (b : Base) (home : ℕ) (z : Shape) : Type 0 where
  pub in_range : IsDiskHome home
  pub small : IsShape z
  pub within : home + cost_of z ≤ b.end
  pub on_disk : told ≡ true → HeadIs b home (record { shape = z; kind = Body })

-- And these words after it: the slots are slot words.
pub record HasBody (told : Bool) (b : Base) (home : ℕ) (z : Shape) (rest : List ℕ) : Type 0 where
  pub head : HasHead told b home z
  pub slots : AreSlots b.end z.refs rest
  pub on_disk : told ≡ true → (i : ℕ) → i < z.refs + z.nums → slice_index rest i ≡ b.image (home + 2 + i)

-- the words of a copy, from its header on: it has the home, and no scion
abbrev pub copy_word : ℕ → Shape → List ℕ → ℕ → ℕ
copy_word home z rest zero = header_word (record { shape = z; stale = false })
copy_word home z rest (suc zero) = home_word (Some (record { home = home; scion = 0 }))
copy_word home z rest (suc (suc k)) = slice_index rest k

-- the words from the address on belong to one thread, and are those of a copy
pub record HasCopy (maps : Maps) (s : State) (address home : ℕ) (z : Shape) (rest : List ℕ) : Type 0 where
  pub owns : Owns maps s (record { at = address; words = cost_of z })
  pub are : (k : ℕ) → k < cost_of z → s.word (address + k) ≡ copy_word home z rest k

-- What a commit asks: the search for the home read other homes alone and then an empty word, at this place; the words
-- are those of a copy of the Body at the home, which, where it is told, is that of the object of this number.
pub record MayCommit (told : Bool) (maps : Maps) (s : State) (home tried p n address : ℕ) (z : Shape) (rest : List ℕ)
    : Type 0 where
  pub probed : Probed s home tried
  pub within : tried < s.base.forwards
  pub place : p ≡ probe home s.base.forwards tried
  pub empty : s.forward p ≡ 0
  pub body : HasBody told s.base home z rest
  pub copy : HasCopy maps s address home z rest
  pub number : told ≡ true → maps.home home ≡ Some n

-- What a record that no forwarding word hides is, where it is told: a Body, with its slots, or a Stub, whose live scion
-- names its home.
pub record BodyStands (b : Base) (home : ℕ) : Type 0 where
  pub shape : Shape
  pub head : HeadIs b home (record { shape = shape; kind = Body })
  pub slots : (i : ℕ) → i < shape.refs → IsSlotWord b.end (b.image (home + 2 + i))

pub record StubStands (b : Base) (home : ℕ) : Type 0 where
  pub shape : Shape
  pub scion : ℕ
  pub address : ℕ
  pub head : HeadIs b home (record { shape = shape; kind = Stub scion })
  pub live : b.scion scion ≡ Some (record { home = home; address = address })

abbrev pub HasRecord : Base → ℕ → Type 0
HasRecord b home = BodyStands b home ⊎ StubStands b home
