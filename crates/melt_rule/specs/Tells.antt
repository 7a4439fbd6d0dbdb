-- What a step of a seat tells its thread: of the history, and of the words.
use Rattle.std.specs.Prelude.{◌≡◌, ◌≢◌, ◌⊎◌, ℕ, ◌+◌, ◌*◌, ◌<◌, ◌≤◌, Bool, true}
use Rattle.std.specs.Prelude.{false, List, [], ◌∷◌, ◌++◌, length, Option, None, Some, if◌then◌else◌}
use Rattle.melt_model.specs.History.{Legal, last, shape}
use Rattle.melt_model.specs.Thread.{own}
use Rattle.melt_model.specs.declared.history.Act.{Act}
use Rattle.melt_model.specs.declared.history.Act.TheVariants.{Read}
use Rattle.melt_model.specs.declared.history.Entry.{Entry}
use Rattle.melt_model.specs.declared.history.Slot.{Slot}
use Rattle.melt_model.specs.declared.history.Value.{Value}
use Rattle.melt_model.specs.declared.history.Value.TheVariants.{Nil, Ref}
use Rattle.melt_word.specs.Words.{IsAddress, IsDiskHome, IsRef, IsShape, cost_of, ref_word}
use Rattle.melt_word.specs.declared.header.Shape.{Shape}
use Rattle.melt_word.specs.declared.reference.Ref as word
use Rattle.melt_word.specs.declared.reference.Ref.TheVariants.{Null, Clean, Stale, Disk}
use Rattle.melt_core.specs.Answering.{entry}
use Rattle.melt_scion.specs.Commits.{HasRecord}
use Rattle.melt_scion.specs.GhostMaps.{named}
use Rattle.melt_core.specs.declared.call.Activation.{Activation}
use Rattle.melt_core.specs.declared.call.Search.{Search}
use Rattle.melt_core.specs.declared.call.Place.{Place}
use Rattle.melt_core.specs.declared.call.Place.TheVariants.{Field, Global}
use Rattle.melt_rule.specs.Rule.{Has, Begins, TakesPart, has_cause}
use Rattle.melt_rule.specs.Shown.{base_at}
use Rattle.melt_rule.specs.declared.began.Began.{Began}
use Rattle.melt_rule.specs.declared.began.Pair.{Pair}
use Rattle.melt_rule.specs.declared.view.Doing.{Doing}
use Rattle.melt_rule.specs.declared.view.Doing.TheVariants.{Polled, Headed, Looked, Cleared, Claimed, Searching, Missed}
use Rattle.melt_rule.specs.declared.view.Doing.TheVariants.{Copying, Copied, Retrying}
use Rattle.melt_rule.specs.declared.view.View.{View}

-- the second list has the pairs of the first
abbrev pub HasAll : List Pair → List Pair → Type 0
HasAll old new = (address n : ℕ) → Has old address n → Has new address n

-- the history begins with that before the epoch, and no thread but those that take part has an entry since
pub record Since (b : Began) (h : List Entry) : Type 0 where
  pub begins : Begins b.history h
  pub strangers : (t : ℕ) → (TakesPart b t → ⊥) → own h t ≡ own b.history t

-- The history was seen anew. It begins with what was seen before, and is legal where it is told; what came to it since
-- is of other threads.
pub record Sees (v : View) (h : List Entry) : Type 0 where
  pub begins : Begins v.seen h
  pub since : Since v.began h
  pub legal : v.began.told ≡ true → Legal h v.began.globals
  pub own_same : own h v.thread ≡ own v.seen v.thread

-- The step added an entry of the thread, after all that was seen before and what others added since.
pub record Adds (v : View) (h : List Entry) (act : Act) : Type 0 where
  pub between : List Entry
  pub seen : h ≡ (v.seen ++ between) ++ entry v.thread act ∷ []
  pub since : Since v.began h
  pub legal : v.began.told ≡ true → Legal h v.began.globals
  pub own_grows : own h v.thread ≡ own v.seen v.thread ++ length (v.seen ++ between) ∷ []

-- the view after a step: of the history, of addresses, and of the call it knows this now
abbrev pub view_after : View → List Entry → List Pair → Option Doing → View
view_after v h known doing = record v { seen = h; mine = h; known = known; doing = doing; steps = v.steps + 1 }

-- an address in a register stands for the value, by what is known
abbrev pub Names : List Pair → ℕ → Value → Type 0
Names known address value = ((address ≡ 0) × (value ≡ Nil)) ⊎ ((n : ℕ) × (value ≡ Ref n) × Has known address n)

-- A load was answered by a word, which is the address that a register may hold.
pub record Reads (v w : View) (slot : Slot) (address : ℕ) : Type 0 where
  pub value : Value
  pub adds : Adds v w.seen (Read slot value)
  pub names : Names w.known address value
  pub more : HasAll v.known w.known
  pub is : w ≡ view_after v w.seen w.known None

-- A step without an entry leads to this.
pub record Reaches (v w : View) (doing : Option Doing) : Type 0 where
  pub sees : Sees v w.seen
  pub is : w ≡ view_after v w.seen v.known doing

-- the search for a home that was found at a place
abbrev pub search_for : Place → ℕ → Search
search_for place home = record { place = place; home = home; tried = 0; dst = 0 }

-- A look found a home. Where it is told, it is that of the object that the slot held.
pub record Finds (v w : View) (slot : Slot) (place : Place) (home : ℕ) : Type 0 where
  pub reaches : Reaches v w (Some (Searching (search_for place home)))
  pub held : v.began.told ≡ true
      → (n : ℕ) × (named v.began.maps.homes home ≡ Some n) × (last w.seen slot ≡ Ref n)

-- what a look at a place finds
abbrev pub Looks : View → View → Slot → Place → word.Ref → Type 0
Looks v w slot place Null = Reads v w slot 0
Looks v w slot place (Clean address) = Reads v w slot address
Looks v w slot place (Stale address) = Reaches v w (Some (Looked place (Stale address) address))
Looks v w slot place (Disk home) = Finds v w slot place home

-- an entry was added, and the call is over
pub record Ends (v w : View) (act : Act) : Type 0 where
  pub adds : Adds v w.seen act
  pub is : w ≡ view_after v w.seen v.known None

-- The stop word was read. Where it is not set, the seat has no cause to stop.
abbrev pub Polls : View → View → Bool → Type 0
Polls v w false = Reaches v w (Some Polled) × (has_cause v ≡ false)
Polls v w true = Sees v w.seen × (w ≡ record (view_after v w.seen v.known None) { stopped = true })

-- the thread has a cause to stop: it keeps the one that it has, or was asked
abbrev pub caused : View → View
caused v = if has_cause v then v else record v { asked = true }

-- The stop word was set by a seat that has a cause, and its call is over.
abbrev pub Stops : View → View → Type 0
Stops v w = Reaches v w None

-- and by one that was asked to stop
abbrev pub Asks : View → View → Type 0
Asks v w = Sees v w.seen × (w ≡ caused (view_after v w.seen v.known None))

-- the header of a known object was loaded
pub record Heads (v w : View) (address n : ℕ) (found : Shape) : Type 0 where
  pub reaches : Reaches v w (Some (Headed address found))
  pub shaped : v.began.told ≡ true → shape w.seen n ≡ Some (record { refs = found.refs; nums = found.nums })

-- the place is a global, or lies within the space
abbrev pub PlaceFits : Began → Place → Type 0
PlaceFits b (Field object i) = object + 2 + i ≤ b.size
PlaceFits b (Global g) = g < b.globals

-- The search is for a home before the end of the disk that was found at such a place, by the forwarding words that
-- there are.
pub record SearchFits (b : Began) (search : Search) : Type 0 where
  pub home : IsDiskHome search.home
  pub before : search.home < b.end
  pub place : PlaceFits b search.place
  pub tried : search.tried ≤ b.forwards

-- and a copy for it lies within the space
pub record CopyFits (b : Began) (a : Activation) : Type 0 where
  pub search : SearchFits b a.search
  pub small : IsShape a.shape
  pub first : 1 ≤ a.address
  pub within : a.address + cost_of a.shape ≤ b.size + 1

-- What the call speaks of lies within the space: an object, a region, the place of a reference and the object to which
-- that refers. A home that no forwarding word sends has a record, where it is told.
abbrev pub FitsIn : Began → Option Doing → Type 0
FitsIn b (Some (Headed address shape)) = address + cost_of shape ≤ b.size + 1
FitsIn b (Some (Claimed address shape stored)) = (1 ≤ address) × (address + cost_of shape ≤ b.size + 1)
FitsIn b (Some (Looked place found target)) = IsAddress target × (target ≤ b.size) × IsRef found × PlaceFits b place
FitsIn b (Some (Cleared place found target)) = IsAddress target × (target ≤ b.size) × IsRef found × PlaceFits b place
FitsIn b (Some (Searching search)) = SearchFits b search
FitsIn b (Some (Missed search)) = SearchFits b search × (search.tried < b.forwards)
    × (b.told ≡ true → HasRecord (base_at b) search.home)
FitsIn b (Some (Copying a stored)) = CopyFits b a × (a.search.tried < b.forwards)
FitsIn b (Some (Copied a)) = CopyFits b a × (a.search.tried < b.forwards)
FitsIn b (Some (Retrying a)) = CopyFits b a
FitsIn b doing = Unit {0}

-- What a seat knows of lies within the space. An address is that of one object, and
-- where it is told, an object has one.
pub record IsWithin (v : View) : Type 0 where
  pub known : (address n : ℕ) → Has v.known address n → (1 ≤ address) × (address ≤ v.began.size)
  pub one_object : (address n m : ℕ) → Has v.known address n → Has v.known address m → n ≡ m
  pub one_address : v.began.told ≡ true → (a b n : ℕ) → Has v.known a n → Has v.known b n → a ≡ b
  pub doing : FitsIn v.began v.doing

-- An exchange answered a load: it took the tag from the reference that was found, whose object is at the target, or
-- another word stood there by then, of a clean reference or of none, which is what was read.
pub record Exchanged (v w : View) (slot : Slot) (found : word.Ref) (target answer : ℕ) (x : ℕ) : Type 0 where
  pub won : x ≡ ref_word found → answer ≡ target
  pub lost : x ≢ ref_word found → x ≡ 4 * answer
  pub reads : Reads v w slot answer
