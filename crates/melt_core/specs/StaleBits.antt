-- Which objects a history used or passed since one of its places, and how the stale bit of objects is tied to that.
use Rattle.std.specs.Prelude.{◌≡◌, ◌⊎◌, ℕ, ◌<◌, ◌≤◌, Bool, true, false, List, length, take, slice_get}
use Rattle.std.specs.Prelude.{Option, None, Some, IfSome}
use Rattle.melt_model.specs.History.{last, read_of}
use Rattle.melt_model.specs.Thread.{given_at}
use Rattle.melt_model.specs.declared.history.Value.{Value}
use Rattle.melt_model.specs.declared.history.Value.TheVariants as value
use Rattle.melt_model.specs.declared.history.Slot.{Slot}
use Rattle.melt_model.specs.declared.history.Entry.{Entry}
use Rattle.melt_model.specs.declared.operations.Op.{Op}
use Rattle.melt_word.specs.Words.{IsShape, header_word}
use Rattle.melt_word.specs.declared.header.Shape.{Shape}
use Rattle.melt_word.specs.declared.reference.Ref.{Ref}
use Rattle.melt_word.specs.declared.reference.Ref.TheVariants.{Disk}
use Rattle.melt_space.specs.Space.{word_at}
use Rattle.melt_scion.specs.State.{State}
use Rattle.melt_scion.specs.Placed.{Maps, value_of}
use Rattle.melt_scion.specs.Heaps.{OnDisk}
use Rattle.melt_core.specs.declared.answer.StepResult.{StepResult}
use Rattle.melt_core.specs.declared.call.Place.{Place}
use Rattle.melt_core.specs.declared.call.Search.{Search}
use Rattle.melt_core.specs.declared.call.Stage.{Stage}
use Rattle.melt_core.specs.declared.call.Stage.TheVariants.{Polled, Headed, Looked, Cleared, Claimed, Lacking}
use Rattle.melt_core.specs.declared.call.Stage.TheVariants.{Searching, Missed, HeadRead, BodyRead, Copying, Copied}
use Rattle.melt_core.specs.declared.call.Stage.TheVariants.{Retrying, LackingCopy}
use Rattle.melt_core.specs.Known.{SlotAt}
use Rattle.melt_core.specs.Advances.{AdvancesWhere, MayMakeEvent, TellsDisk}
use Rattle.melt_core.specs.Epochs.{HasDropped, HasFinished}
use Rattle.melt_core.specs.Views.{View, Standing, maps, stage_of, registers_in, InUse, IsQuiet}

-- an entry from place q on gives the object
pub record Used (h : List Entry) (q n : ℕ) : Type 0 where
  pub place : ℕ
  pub from : q ≤ place
  pub gives : given_at h place ≡ Some (value.Ref n)

-- At a moment not before q a slot held the object, and the next entry of some thread after that moment reads the slot.
-- What it finds there by then may be another value.
pub record LookedAt (h : List Entry) (q n : ℕ) : Type 0 where
  pub place : ℕ
  pub entry : Entry
  pub stands : slice_get h place ≡ Some entry
  pub slot : Slot
  pub found : Value
  pub reads : read_of entry.act ≡ Some (slot, found)
  pub moment : ℕ
  pub from : q ≤ moment
  pub to : moment ≤ place
  pub after : (k : ℕ) (e : Entry) → k < place → slice_get h k ≡ Some e → e.thread ≡ entry.thread → k < moment
  pub held : last (take moment h) slot ≡ value.Ref n

-- the object was used, or a thread looked at it
abbrev pub Passed : List Entry → ℕ → ℕ → Type 0
Passed h q n = Used h q n ⊎ LookedAt h q n

-- What the stale bit is tied to: the history, the names of objects, the words by their addresses, and the stage of the
-- call of each thread.
pub record Sight : Type 0 where
  pub log : List Entry
  pub maps : Maps
  pub word : ℕ → ℕ
  pub stage : ℕ → Option Stage

-- what a state shows of that
abbrev pub sight_of : List Entry → Maps → State → (ℕ → Option Stage) → Sight
sight_of h maps s stage = record { log = h; maps = maps; word = s.word; stage = stage }

-- and a view
abbrev pub sight : View → Sight
sight v = record { log = v.log; maps = maps v; word = word_at v.space; stage = stage_of v }

-- the object is in use, and its header has the stale bit or not
pub record BitIs (s : Sight) (n : ℕ) (stale : Bool) : Type 0 where
  pub address : ℕ
  pub named : s.maps.address address ≡ Some n
  pub shape : Shape
  pub small : IsShape shape
  pub word : s.word address ≡ header_word (record { shape = shape; stale = stale })

-- it is in use with the bit
abbrev pub HasBit : Sight → ℕ → Type 0
HasBit s n = BitIs s n true

-- or without it
abbrev pub HasNoBit : Sight → ℕ → Type 0
HasNoBit s n = BitIs s n false

-- the place at which a load looked, and the reference with a tag that it found there
pub record Look : Type 0 where
  pub place : Place
  pub found : Ref

-- the look of a load that found a home
abbrev pub home_look : Search → Look
home_look search = record { place = search.place; found = Disk search.home }

-- the look of a call, if it found a reference with a tag
abbrev pub look_of : Option Stage → Option Look
look_of None = None
look_of (Some (Polled task)) = None
look_of (Some (Headed address shape access)) = None
look_of (Some (Looked place found target dst)) = Some (record { place = place; found = found })
look_of (Some (Cleared place found target dst)) = Some (record { place = place; found = found })
look_of (Some (Claimed address shape stored dst)) = None
look_of (Some (Lacking need)) = None
look_of (Some (Searching search)) = Some (home_look search)
look_of (Some (Missed search)) = Some (home_look search)
look_of (Some (HeadRead search shape)) = Some (home_look search)
look_of (Some (BodyRead search shape)) = Some (home_look search)
look_of (Some (Copying a stored)) = Some (home_look a.search)
look_of (Some (Copied a)) = Some (home_look a.search)
look_of (Some (Retrying a)) = Some (home_look a.search)
look_of (Some (LackingCopy search shape)) = Some (home_look search)

-- the object whose bit the call cleared, or that it brought back; the next event of the call reads the slot of its look
abbrev pub pending : Option Stage → Option ℕ
pending (Some (Cleared place found target dst)) = Some target
pending stage = None

-- some call has yet to read the slot at which it found the object
pub record Pending (s : Sight) (n : ℕ) : Type 0 where
  pub thread : ℕ
  pub address : ℕ
  pub is : pending (s.stage thread) ≡ Some address
  pub named : s.maps.address address ≡ Some n

-- At a moment since q, after all entries of the thread, the slot of the look held the object for which the reference
-- that was found there stands.
pub record Watched (q : ℕ) (s : Sight) (thread : ℕ) (look : Look) : Type 0 where
  pub number : ℕ
  pub stands_for : value_of s.maps look.found ≡ Some (value.Ref number)
  pub slot : Slot
  pub at : SlotAt s.maps look.place slot
  pub moment : ℕ
  pub from : q ≤ moment
  pub to : moment ≤ length s.log
  pub after : (k : ℕ) (e : Entry) → slice_get s.log k ≡ Some e → e.thread ≡ thread → k < moment
  pub held : last (take moment s.log) slot ≡ value.Ref number

-- What is kept from a first sight on. An object without the bit had none at first, or was passed since, or a call is
-- about to pass it. One with the bit had it at first. One that was used and is in use has none; and it is in use, as is
-- each that was at first, since nothing is collected meanwhile. Homes are those of the same objects.
pub record Tied (u s : Sight) : Type 0 where
  pub since : length u.log ≤ length s.log
  pub watched : (t : ℕ) → IfSome (look_of (s.stage t)) (Watched (length u.log) s t)
  pub cleared : (n : ℕ) → HasNoBit s n → HasNoBit u n ⊎ (Passed s.log (length u.log) n ⊎ Pending s n)
  pub stale : (n : ℕ) → HasBit s n → HasBit u n
  pub used : (n : ℕ) → InUse s.maps n → Used s.log (length u.log) n → HasNoBit s n
  pub in_use : (n : ℕ) → Used s.log (length u.log) n → InUse s.maps n
  pub stays : (n : ℕ) → InUse u.maps n → InUse s.maps n
  pub homes : (home : ℕ) → s.maps.home home ≡ u.maps.home home

-- What that says where no call is in flight. An object without the bit had none at first, or was passed since: so it
-- was passed if it had the bit at first, or was not in use. One that has the bit had it at first. One that was used
-- since and is in use has none; and it is in use, as is each that was at first. Homes are those of the same objects: so
-- an object that has a home and no address had that home and no address at first.
pub record BitsTold (u s : Sight) : Type 0 where
  pub since : (n : ℕ) → HasNoBit s n → HasNoBit u n ⊎ Passed s.log (length u.log) n
  pub passed : (n : ℕ) → HasNoBit s n → HasBit u n ⊎ (InUse u.maps n → ⊥) → Passed s.log (length u.log) n
  pub stale : (n : ℕ) → HasBit s n → HasBit u n
  pub used : (n : ℕ) → InUse s.maps n → Used s.log (length u.log) n → HasNoBit s n
  pub in_use : (n : ℕ) → Used s.log (length u.log) n → InUse s.maps n
  pub stays : (n : ℕ) → InUse u.maps n → InUse s.maps n
  pub homes : (home : ℕ) → s.maps.home home ≡ u.maps.home home

-- the thread has all its registers
abbrev pub HasRegisters : View → ℕ → Type 0
HasRegisters v t = length (registers_in v.held t) ≡ 16

-- the bits that a view shows are tied to those that another showed before
abbrev pub TiedTo : View → View → Type 0
TiedTo u v = Tied (sight u) (sight v)

-- Where the disk tells its words, the stale bit is tied to the history from this view on.
pub record StaleBitLaws (u : View) : Type 0 where
  -- it is so at the beginning, with no call in flight
  pub begins : IsQuiet u → TiedTo u u
  -- each event of a thread keeps it
  pub advances : (image : Option (List ℕ)) (disk : OnDisk) (v w : View) (t : ℕ) (o : Op) (result : StepResult) →
      Standing true disk v → MayMakeEvent v t o → HasRegisters v t → TellsDisk image disk →
      AdvancesWhere (TellsDisk image disk) disk v w t o result → TiedTo u v → TiedTo u w
  -- and so do a request to stop, a thread that lets its registers hold nothing, and the end
  pub asked : (v : View) → TiedTo u v → TiedTo u (record v { stop = true })
  pub dropped : (v w : View) (t : ℕ) → HasDropped v w t → TiedTo u v → TiedTo u w
  pub finished : (v w : View) → HasFinished v w → TiedTo u v → TiedTo u w
  -- which tells what became of each bit
  pub tells : (disk : OnDisk) (v : View) → Standing true disk u → IsQuiet v → TiedTo u v →
      BitsTold (sight u) (sight v)
