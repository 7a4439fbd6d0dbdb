-- What a collection of any phase makes of a state, as its law takes it: who stays and where, who has a home then, what
-- words become, and what stands on disk. `to` has the new address of each object that stays, and 0 for all others;
-- `home` the home of each object that has one then, in use or not; and `scion` the scion of each that stays and has a
-- home. A phase in which nobody leaves gives no home, and is the case with all old homes and scions.
use Rattle.std.specs.Prelude.{◌≡◌, ◌≢◌, ◌↔◌, ◌⊎◌, ◌^◌, ℕ, zero, suc, ◌+◌, ◌<◌, ◌≤◌, true, false, Some}
use Rattle.melt_model.specs.declared.reports.Phase.{Phase}
use Rattle.melt_model.specs.declared.reports.Phase.TheVariants.{Inactive, Mark, Move}
use Rattle.melt_word.specs.Words.{IsRef, IsHomeAndScion, ref_word, home_word, cost_of}
use Rattle.melt_word.specs.declared.header.Shape.{Shape}
use Rattle.melt_word.specs.declared.header.Header.{Header}
use Rattle.melt_word.specs.declared.reference.Ref.{Ref}
use Rattle.melt_word.specs.declared.reference.Ref.TheVariants.{Null, Clean, Stale, Disk}
use Rattle.melt_record.specs.declared.head.Kind.TheVariants.{Body, Stub}
use Rattle.melt_scion.specs.State.{Scion, State, HeaderAt, HoldsAt, Follow, IsReserved, RefersTo, Reached}
use Rattle.melt_scion.specs.Placed.{Maps, HeadIs}

-- A Move collection moves the reached objects that have the stale bit and that no register holds. The others move none.
abbrev pub Leaves : Phase → State → ℕ → Type 0
Leaves Inactive s a = ⊥
Leaves Mark s a = ⊥
Leaves Move s a = Reached s a × (HoldsAt s a → ⊥) × ((header : Header) × HeaderAt s a header × (header.stale ≡ true))

-- the tag that a clean address gets which stays
abbrev pub kept_tag : Phase → ℕ → Ref
kept_tag Inactive a = Clean a
kept_tag Mark a = Stale a
kept_tag Move a = Stale a

-- the stale bit of an object that stays: as it was, or set exactly where no register holds the object
abbrev pub BitGoes : Phase → State → ℕ → Header → Header → Type 0
BitGoes Inactive s a old later = later.stale ≡ old.stale
BitGoes Mark s a old later = (later.stale ≡ false) ↔ HoldsAt s a
BitGoes Move s a old later = (later.stale ≡ false) ↔ HoldsAt s a

-- a slot of an object that leaves refers to the object
pub record IsNamedByLeaving (phase : Phase) (s : State) (address : ℕ) : Type 0 where
  pub object : ℕ
  pub header : Header
  pub slot : ℕ
  pub leaves : Leaves phase s object
  pub starts : HeaderAt s object header
  pub below : slot < header.shape.refs
  pub refers : RefersTo (s.word (object + 2 + slot)) address

-- the object had no home, and has one then
pub record GetsHome (s : State) (home : ℕ → ℕ) (address : ℕ) : Type 0 where
  pub reached : Reached s address
  pub had_none : s.word (address + 1) ≡ 0
  pub has_one : home address ≢ 0

-- a reference, by whether its object has a new address
abbrev pub by_place : ℕ → Ref → Ref → Ref
by_place zero there away = away
by_place (suc place) there away = there

-- a reference in what stays
abbrev pub moved_ref : Phase → (ℕ → ℕ) → (ℕ → ℕ) → Ref → Ref
moved_ref phase to home Null = Null
moved_ref phase to home (Clean a) = by_place (to a) (kept_tag phase (to a)) (Disk (home a))
moved_ref phase to home (Stale a) = by_place (to a) (Stale (to a)) (Disk (home a))
moved_ref phase to home (Disk k) = Disk k

-- a reference in a Body
abbrev pub body_ref : (ℕ → ℕ) → Ref → Ref
body_ref home Null = Null
body_ref home (Clean a) = Disk (home a)
body_ref home (Stale a) = Disk (home a)
body_ref home (Disk k) = Disk k

-- the word of a reference becomes that of another
pub record WordBecomes (change : Ref → Ref) (old new : ℕ) : Type 0 where
  pub reference : Ref
  pub in_range : IsRef reference
  pub was : old ≡ ref_word reference
  pub is : new ≡ ref_word (change reference)

-- Who stays: each object that was reached stays or leaves, and no other stays. It is a decision for each.
pub record Chooses (phase : Phase) (s : State) (to : ℕ → ℕ) : Type 0 where
  pub stay : (a : ℕ) → to a ≢ 0 → Reached s a × (Leaves phase s a → ⊥)
  pub go : (a : ℕ) → Reached s a → (to a ≢ 0) ⊎ Leaves phase s a
  pub once : (a b : ℕ) → to a ≢ 0 → to a ≡ to b → a ≡ b
  pub nothing : to 0 ≡ 0

-- a new home lies after all old ones, and was reserved for the shape of its object
pub record IsNewHome (s t : State) (home : ℕ → ℕ) (address : ℕ) (header : Header) : Type 0 where
  pub after : s.base.end ≤ home address
  pub within : home address + cost_of header.shape ≤ t.base.end
  pub reserved : IsReserved t.base.homes (home address) header.shape

-- Who has a home then: who had one keeps it; beside those, exactly the objects that leave and those that they name.
pub record GivesHomes (phase : Phase) (s t : State) (to home scion : ℕ → ℕ) : Type 0 where
  pub kept : (a h k : ℕ) → Reached s a → IsHomeAndScion (record { home = h; scion = k })
      → s.word (a + 1) ≡ home_word (Some (record { home = h; scion = k }))
      → (home a ≡ h) × (to a ≢ 0 → scion a ≡ k)
  pub leaving : (a : ℕ) → Leaves phase s a → home a ≢ 0
  pub named : (a : ℕ) → IsNamedByLeaving phase s a → home a ≢ 0
  pub only : (a : ℕ) → GetsHome s home a → Leaves phase s a ⊎ IsNamedByLeaving phase s a
  pub new : (a : ℕ) (header : Header) → GetsHome s home a → HeaderAt s a header → IsNewHome s t home a header
  pub first_end : 1 ≤ s.base.end
  pub end : s.base.end ≤ t.base.end
  pub small_end : t.base.end ≤ 2 ^ 32

-- an object that stays, at its new address
pub record Arrives (phase : Phase) (s t : State) (to home scion : ℕ → ℕ) (a : ℕ) (header : Header) : Type 0 where
  pub later : Header
  pub starts : HeaderAt t (to a) later
  pub shape : later.shape ≡ header.shape
  pub marked : BitGoes phase s a header later
  pub below : to a + cost_of header.shape ≤ t.free
  pub no_home : home a ≡ 0 → t.word (to a + 1) ≡ 0
  pub at_home : home a ≢ 0 → t.word (to a + 1) ≡ home_word (Some (record { home = home a; scion = scion a }))
  pub slots : (i : ℕ) → i < header.shape.refs
      → WordBecomes (moved_ref phase to home) (s.word (a + 2 + i)) (t.word (to a + 2 + i))
  pub numbers : (j : ℕ) → j < header.shape.nums
      → t.word (to a + 2 + header.shape.refs + j) ≡ s.word (a + 2 + header.shape.refs + j)

-- the scion of an object that stays and has a home names both
pub record TakesScion (t : State) (to home scion : ℕ → ℕ) (a : ℕ) : Type 0 where
  pub first : 1 ≤ scion a
  pub small : scion a < 2 ^ 30
  pub live : t.base.scion (scion a) ≡ Some (record { home = home a; address = to a })

-- The words of the space, the globals, the registers, the scions and the forwarding words. None of those was filled
-- before, so that each home with a live object has a scion; and none is filled then.
pub record MovesWords (phase : Phase) (s t : State) (to home scion : ℕ → ℕ) : Type 0 where
  pub chooses : Chooses phase s to
  pub homes : GivesHomes phase s t to home scion
  pub size : t.base.size ≡ s.base.size
  pub globals : t.base.globals ≡ s.base.globals
  pub free : t.free ≤ t.base.size + 1
  pub arrives : (a : ℕ) (header : Header) → to a ≢ 0 → HeaderAt s a header → Arrives phase s t to home scion a header
  pub order : (a b : ℕ) (header : Header) → to a ≢ 0 → to b ≢ 0 → HeaderAt s a header → to a < to b
      → to a + cost_of header.shape ≤ to b
  pub global : (g : ℕ) → g < s.base.globals → WordBecomes (moved_ref phase to home) (s.global g) (t.global g)
  pub register : (u r : ℕ) → t.register u r ≡ to (s.register u r)
  pub scions : (a : ℕ) → to a ≢ 0 → home a ≢ 0 → TakesScion t to home scion a
  pub only_scions : (k : ℕ) (x : Scion) → t.base.scion k ≡ Some x
      → (a : ℕ) × (to a ≢ 0) × (home a ≢ 0) × (scion a ≡ k)
  pub settled : (p : ℕ) → p < s.base.forwards → s.forward p ≡ 0
  pub forwards : (p : ℕ) → p < t.base.forwards → t.forward p ≡ 0

-- the names of addresses go with the objects that stay
pub record MovesNames (maps new : Maps) (to : ℕ → ℕ) : Type 0 where
  pub names : (a : ℕ) → to a ≢ 0 → new.address (to a) ≡ maps.address a
  pub only : (b n : ℕ) → new.address b ≡ Some n → (a : ℕ) × (to a ≢ 0) × (to a ≡ b) × (maps.address a ≡ Some n)

-- the names of homes: those from before, and one for each new home
pub record NamesHomes (maps new : Maps) (s : State) (home : ℕ → ℕ) : Type 0 where
  pub old : (k n : ℕ) → maps.home k ≡ Some n → new.home k ≡ Some n
  pub new_homes : (a n : ℕ) → GetsHome s home a → maps.address a ≡ Some n → new.home (home a) ≡ Some n
  pub only : (k n : ℕ) → new.home k ≡ Some n
      → (maps.home k ≡ Some n) ⊎ ((a : ℕ) × GetsHome s home a × (home a ≡ k) × (maps.address a ≡ Some n))

-- the Body of an object that left
pub record LeavesBody (s t : State) (home : ℕ → ℕ) (a : ℕ) (header : Header) : Type 0 where
  pub head : HeadIs t.base (home a) (record { shape = header.shape; kind = Body })
  pub slots : (i : ℕ) → i < header.shape.refs
      → WordBecomes (body_ref home) (s.word (a + 2 + i)) (t.base.image (home a + 2 + i))
  pub numbers : (j : ℕ) → j < header.shape.nums
      → t.base.image (home a + 2 + header.shape.refs + j) ≡ s.word (a + 2 + header.shape.refs + j)

-- What stands on disk then: Bodies of those that left, Stubs of those that stay and have a new home, and all other
-- records as before.
pub record MovesDisk (phase : Phase) (s t : State) (to home scion : ℕ → ℕ) : Type 0 where
  pub follow : Follow 1 s.base.homes s.base.end → Follow 1 t.base.homes t.base.end
  pub old_homes : (k : ℕ) (z : Shape) → IsReserved s.base.homes k z → IsReserved t.base.homes k z
  pub only_homes : (k : ℕ) (z : Shape) → IsReserved t.base.homes k z
      → IsReserved s.base.homes k z ⊎ ((a : ℕ) × GetsHome s home a × (home a ≡ k))
  pub free_homes : t.base.free_homes ≡ s.base.free_homes
  pub bodies : (a : ℕ) (header : Header) → Leaves phase s a → HeaderAt s a header → LeavesBody s t home a header
  pub stubs : (a : ℕ) (header : Header) → GetsHome s home a → to a ≢ 0 → HeaderAt s a header
      → HeadIs t.base (home a) (record { shape = header.shape; kind = Stub (scion a) })
  pub kept : (k j : ℕ) (z : Shape) → IsReserved s.base.homes k z → ((a : ℕ) → Leaves phase s a → home a ≢ k)
      → j < cost_of z → t.base.image (k + j) ≡ s.base.image (k + j)
