-- What is known of a call between two of its events, whatever other threads did since; without its operation and
-- without its thread's registers. And what every event leaves, so that this stays.
use Rattle.std.specs.Prelude.{◌≡◌, ◌≢◌, ℕ, ◌+◌, ◌<◌, ◌≤◌, Bool, true, false, List, Some}
use Rattle.melt_model.specs.declared.history.Slot.{Slot}
use Rattle.melt_model.specs.declared.history.Slot.TheVariants as slot
use Rattle.melt_word.specs.Words.{IsShape, IsRef, ref_word, cost_of}
use Rattle.melt_word.specs.declared.header.Shape.{Shape}
use Rattle.melt_word.specs.declared.header.Header.{Header}
use Rattle.melt_word.specs.declared.reference.Ref.{Ref}
use Rattle.melt_word.specs.declared.reference.Ref.TheVariants.{Null, Clean, Stale, Disk}
use Rattle.melt_scion.specs.State.{State, HeaderAt, IsFresh}
use Rattle.melt_scion.specs.Placed.{Maps, IsNamed, HasObject, MayStand, value_of}
use Rattle.melt_scion.specs.Commits.{Probed, HasHead, HasBody, HasCopy, HasRecord, copy_word}
use Rattle.melt_scion.specs.Regions.{Region, no_region, Owns, HasStored}
use Rattle.melt_core.specs.declared.call.Place.{Place}
use Rattle.melt_core.specs.declared.call.Place.TheVariants.{Field, Global}
use Rattle.melt_core.specs.declared.call.Search.{Search}
use Rattle.melt_core.specs.declared.call.Activation.{Activation}
use Rattle.melt_core.specs.declared.call.Stage.{Stage}
use Rattle.melt_core.specs.declared.call.Stage.TheVariants.{Polled, Headed, Looked, Cleared, Claimed, Lacking}
use Rattle.melt_core.specs.declared.call.Stage.TheVariants.{Searching, Missed, HeadRead, BodyRead, Copying, Copied}
use Rattle.melt_core.specs.declared.call.Stage.TheVariants.{Retrying, LackingCopy}

-- an object of this shape stands at the address
pub record IsObjectAt (maps : Maps) (s : State) (address : ℕ) (shape : Shape) : Type 0 where
  pub number : ℕ
  pub named : maps.address address ≡ Some number
  pub header : Header
  pub starts : HeaderAt s address header
  pub shape_is : header.shape ≡ shape

-- the word at a place
abbrev pub word_in : State → Place → ℕ
word_in s (Field object i) = s.word (object + 2 + i)
word_in s (Global g) = s.global g

-- the place is a slot of an object, or a global
abbrev pub IsPlace : Maps → State → Place → Type 0
IsPlace maps s (Field object i) = (shape : Shape) × IsObjectAt maps s object shape × (i < shape.refs)
IsPlace maps s (Global g) = g < s.base.globals

-- the slot of the history that a place is
abbrev pub SlotAt : Maps → Place → Slot → Type 0
SlotAt maps (Field object i) at = (n : ℕ) × (maps.address object ≡ Some n) × (at ≡ slot.Field n i)
SlotAt maps (Global g) at = at ≡ slot.Global g

-- a stale address or a home
abbrev pub HasTag : Ref → Type 0
HasTag Null = ⊥
HasTag (Clean address) = ⊥
HasTag (Stale address) = Unit {0}
HasTag (Disk home) = Unit {0}

-- the word is that of such a reference
pub record IsTagged (word : ℕ) : Type 0 where
  pub reference : Ref
  pub in_range : IsRef reference
  pub tag : HasTag reference
  pub is : word ≡ ref_word reference

-- The reference with a tag was found at the place. If a word with a tag stands there now, it is the same.
pub record HasLooked (maps : Maps) (s : State) (place : Place) (found : Ref) : Type 0 where
  pub at : IsPlace maps s place
  pub in_range : IsRef found
  pub tag : HasTag found
  pub may_stand : MayStand maps s found
  pub unless_clean : IsTagged (word_in s place) → word_in s place ≡ ref_word found

-- The home was found at the place, and its address is searched for: so many forwarding words send other homes. Where it
-- is told, the home is that of an object.
pub record Searches (told : Bool) (maps : Maps) (s : State) (place : Place) (home tried : ℕ) : Type 0 where
  pub looked : HasLooked maps s place (Disk home)
  pub probed : Probed s home tried
  pub object : told ≡ true → HasObject maps home

-- the words for an object of the shape
abbrev pub region : ℕ → Shape → Region
region address shape = record { at = address; words = cost_of shape }

-- The address is that of an object; where it is told, it is the one for which the reference stands.
pub record Leads (told : Bool) (maps : Maps) (found : Ref) (target : ℕ) : Type 0 where
  pub named : IsNamed maps target
  pub same : told ≡ true → value_of maps found ≡ value_of maps (Clean target)

-- The search came to a forwarding word that was empty.
pub record Misses (told : Bool) (maps : Maps) (s : State) (search : Search) : Type 0 where
  pub searches : Searches told maps s search.place search.home search.tried
  pub within : search.tried < s.base.forwards

-- And the Body at the home was read, of this shape and with these words after its head.
pub record Fetches (told : Bool) (maps : Maps) (s : State) (rest : List ℕ) (search : Search) (shape : Shape) : Type 0
  where
    pub misses : Misses told maps s search
    pub body : HasBody told s.base search.home shape rest

-- The whole copy was stored. Its search goes on.
pub record HoldsCopy (told : Bool) (maps : Maps) (s : State) (rest : List ℕ) (a : Activation) : Type 0 where
  pub searches : Searches told maps s a.search.place a.search.home a.search.tried
  pub body : HasBody told s.base a.search.home a.shape rest
  pub copy : HasCopy maps s a.address a.search.home a.shape rest

-- By the stage of the call, with the words that it read after the head of a record; what it says of values is told
-- where the disk tells its words.
abbrev pub Known : Bool → Maps → State → List ℕ → Stage → Type 0
Known told maps s rest (Polled task) = Unit {0}
Known told maps s rest (Headed address shape access) = IsObjectAt maps s address shape
Known told maps s rest (Looked place found target dst) = HasLooked maps s place found × Leads told maps found target
Known told maps s rest (Cleared place found target dst) =
    HasLooked maps s place found × Leads told maps found target × IsFresh s target
Known told maps s rest (Claimed address shape stored dst) =
    IsShape shape × HasStored maps s (region address shape) (λ k. 0) stored
Known told maps s rest (Lacking need) = s.base.size + 1 < s.free
Known told maps s rest (Searching search) = Searches told maps s search.place search.home search.tried
Known told maps s rest (Missed search) = Misses told maps s search × (told ≡ true → HasRecord s.base search.home)
Known told maps s rest (HeadRead search shape) = Misses told maps s search × HasHead told s.base search.home shape
    × (0 < shape.refs + shape.nums) × (told ≡ true → HasRecord s.base search.home)
Known told maps s rest (BodyRead search shape) = Fetches told maps s rest search shape
Known told maps s rest (Copying a stored) = Fetches told maps s rest a.search a.shape
    × HasStored maps s (region a.address a.shape) (copy_word a.search.home a.shape rest) stored
Known told maps s rest (Copied a) = HoldsCopy told maps s rest a × (a.search.tried < s.base.forwards)
Known told maps s rest (Retrying a) = HoldsCopy told maps s rest a
Known told maps s rest (LackingCopy search shape) = (s.base.size + 1 < s.free) × Misses told maps s search
    × HasHead told s.base search.home shape

-- the words that a call owns
abbrev pub region_of : Stage → Region
region_of (Claimed address shape stored dst) = region address shape
region_of (Copying a stored) = region a.address a.shape
region_of (Copied a) = region a.address a.shape
region_of (Retrying a) = region a.address a.shape
region_of stage = no_region

-- a word of a reference changes only to one without a tag
abbrev pub Settles : ℕ → ℕ → Type 0
Settles old new = IsTagged new → new ≡ old

-- What every event leaves: objects stay where they are; each header does, but for the one whose stale bit the event
-- clears, if it clears one; no tag is put on a reference; a forwarding word that is filled stays; no place becomes
-- free.
pub record Evolves (maps new : Maps) (s t : State) (cleared : ℕ) : Type 0 where
  pub base : t.base ≡ s.base
  pub homes : (home : ℕ) → new.home home ≡ maps.home home
  pub names : (a n : ℕ) → maps.address a ≡ Some n → new.address a ≡ Some n
  pub header : (a n : ℕ) (header : Header) → maps.address a ≡ Some n → a ≢ cleared → HeaderAt s a header
      → HeaderAt t a header
  pub clears : (n : ℕ) (header : Header) → maps.address cleared ≡ Some n → HeaderAt s cleared header
      → HeaderAt t cleared (record { shape = header.shape; stale = false })
  pub places : (place : Place) → IsPlace maps s place → Settles (word_in s place) (word_in t place)
  pub forwards : (p : ℕ) → p < s.base.forwards → s.forward p ≢ 0 → t.forward p ≡ s.forward p
  pub free : s.free ≤ t.free

-- the words of a region stay, and belong to its thread as before
pub record RegionStays (new : Maps) (s t : State) (r : Region) : Type 0 where
  pub word : (k : ℕ) → r.at ≤ k → k < r.at + r.words → t.word k ≡ s.word k
  pub owned : Owns new t r
