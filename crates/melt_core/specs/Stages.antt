-- The events of an operation, one after the other: what it has to do, the stages that its call reaches, what each of
-- its events changes, and which stage comes next.
use Rattle.std.specs.Prelude.{◌≡◌, ◌≢◌, ℕ, ◌+◌, ◌*◌, ◌-◌, ◌<◌, ◌≤◌, ◌==◌}
use Rattle.std.specs.Prelude.{if◌then◌else◌, Bool, true, false, List, Option, None, Some, ◌⊎◌}
use Rattle.melt_model.specs.declared.history.Value.{Value}
use Rattle.melt_model.specs.declared.history.Value.TheVariants.{Nil}
use Rattle.melt_model.specs.declared.operations.Op.{Op}
use Rattle.melt_model.specs.declared.operations.Op.TheVariants as op
use Rattle.melt_word.specs.Words.{ref_word, header_word, cost_of}
use Rattle.melt_word.specs.declared.header.Shape.{Shape}
use Rattle.melt_word.specs.declared.header.Header.{Header}
use Rattle.melt_word.specs.declared.reference.Ref.{Ref}
use Rattle.melt_word.specs.declared.reference.Ref.TheVariants.{Clean, Stale, Disk}
use Rattle.melt_record.specs.declared.head.Kind.{Kind}
use Rattle.melt_record.specs.declared.head.Kind.TheVariants.{Body, Stub}
use Rattle.melt_forward.specs.Forwarding.{Sends, SendsAnother, forward_word, probe}
use Rattle.melt_scion.specs.State.{State, HeaderAt}
use Rattle.melt_scion.specs.Placed.{Maps}
use Rattle.melt_scion.specs.Commits.{copy_word}
use Rattle.melt_scion.specs.Changes.{SameWords, WordChanges, GlobalChanges, ForwardChanges, FreeMoves, NameAppears}
use Rattle.melt_core.specs.declared.call.Place.{Place}
use Rattle.melt_core.specs.declared.call.Place.TheVariants.{Field, Global}
use Rattle.melt_core.specs.declared.call.Access.{Access}
use Rattle.melt_core.specs.declared.call.Access.TheVariants.{Load, Store, Get, Put}
use Rattle.melt_core.specs.declared.call.Task.{Task}
use Rattle.melt_core.specs.declared.call.Task.TheVariants.{Make, Use, LoadGlobal, StoreGlobal}
use Rattle.melt_core.specs.declared.call.Search.{Search}
use Rattle.melt_core.specs.declared.call.Activation.{Activation}
use Rattle.melt_core.specs.declared.call.Stage.{Stage}
use Rattle.melt_core.specs.declared.call.Stage.TheVariants.{Polled, Headed, Looked, Cleared, Claimed, Lacking}
use Rattle.melt_core.specs.declared.call.Stage.TheVariants.{Searching, Missed, HeadRead, BodyRead, Copying, Copied}
use Rattle.melt_core.specs.declared.call.Stage.TheVariants.{Retrying, LackingCopy}
use Rattle.melt_core.specs.Known.{IsObjectAt, word_in}
use Rattle.melt_core.specs.Events.{PlaceChanges, number_place}

-- what an operation does with the words that threads share; the others use registers alone
abbrev pub task_of : Op → Option Task
task_of (op.New dst refs nums) = Some (Make dst (record { refs = refs; nums = nums }))
task_of (op.Load dst src i) = Some (Use src (Load dst i))
task_of (op.Store obj i src) = Some (Use obj (Store i src))
task_of (op.Get src j) = Some (Use src (Get j))
task_of (op.Put obj j v) = Some (Use obj (Put j v))
task_of (op.GLoad dst g) = Some (LoadGlobal dst g)
task_of (op.GStore g src) = Some (StoreGlobal g src)
task_of (op.Same a b) = None
task_of (op.Copy dst src) = None
task_of (op.Drop r) = None
task_of op.Collect = None

-- The operation looks at the stop word, by what the registers of its thread stand for. One on a part of an object does
-- where its register holds one, and is answered at once where not. Those on registers alone never do, and a collection
-- is no call.
abbrev pub LooksAtStop : (ℕ → Value) → Op → Type 0
LooksAtStop value (op.New dst refs nums) = Unit {0}
LooksAtStop value (op.Load dst src i) = value src ≢ Nil
LooksAtStop value (op.Store obj i src) = value obj ≢ Nil
LooksAtStop value (op.Get src j) = value src ≢ Nil
LooksAtStop value (op.Put obj j v) = value obj ≢ Nil
LooksAtStop value (op.GLoad dst g) = Unit {0}
LooksAtStop value (op.GStore g src) = Unit {0}
LooksAtStop value (op.Same a b) = ⊥
LooksAtStop value (op.Copy dst src) = ⊥
LooksAtStop value (op.Drop r) = ⊥
LooksAtStop value op.Collect = ⊥

-- the part that is used is one of an object of the shape
abbrev pub HasPart : Access → Shape → Type 0
HasPart (Load dst i) shape = i < shape.refs
HasPart (Store i src) shape = i < shape.refs
HasPart (Get j) shape = j < shape.nums
HasPart (Put j v) shape = j < shape.nums

-- a task on an object has one in its register
abbrev pub HasTarget : (ℕ → ℕ) → Task → Type 0
HasTarget register (Use r access) = register r ≢ 0
HasTarget register task = Unit {0}

-- the operation shares words: it has a task, and the object for it
abbrev pub Shares : (ℕ → ℕ) → Op → Task → Type 0
Shares register o task = (task_of o ≡ Some task) × HasTarget register task

-- the operation loads the reference at the place into the register
abbrev pub LoadsAt : (ℕ → ℕ) → Op → Place → ℕ → Type 0
LoadsAt register o (Field object i) dst = (r : ℕ) × (task_of o ≡ Some (Use r (Load dst i))) × (register r ≡ object)
LoadsAt register o (Global g) dst = task_of o ≡ Some (LoadGlobal dst g)

-- the call of the operation, with what its thread's registers hold, may be at the stage
abbrev pub Fits : (ℕ → ℕ) → Op → Stage → Type 0
Fits register o (Polled task) = Shares register o task
Fits register o (Headed address shape access) = (r : ℕ) × (task_of o ≡ Some (Use r access)) × (register r ≡ address)
    × HasPart access shape
Fits register o (Looked place found target dst) = LoadsAt register o place dst
Fits register o (Cleared place found target dst) = LoadsAt register o place dst
Fits register o (Claimed address shape stored dst) = task_of o ≡ Some (Make dst shape)
Fits register o (Lacking need) = (dst : ℕ) × (shape : Shape) × (task_of o ≡ Some (Make dst shape))
    × (need ≡ cost_of shape)
Fits register o (Searching search) = LoadsAt register o search.place search.dst
Fits register o (Missed search) = LoadsAt register o search.place search.dst
Fits register o (HeadRead search shape) = LoadsAt register o search.place search.dst
Fits register o (BodyRead search shape) = LoadsAt register o search.place search.dst
Fits register o (Copying a stored) = LoadsAt register o a.search.place a.search.dst
Fits register o (Copied a) = LoadsAt register o a.search.place a.search.dst
Fits register o (Retrying a) = LoadsAt register o a.search.place a.search.dst
Fits register o (LackingCopy search shape) = LoadsAt register o search.place search.dst

-- What the next event changes of the words that threads share. An exchange changes nothing where another word stands
-- there by then.
pub data Change : Type 0 where
  Nothing : Change
  Word : (at word : ℕ) → Change
  SetGlobal : (g word : ℕ) → Change
  Free : (free : ℕ) → Change
  Clear : (address : ℕ) → Change
  Untag : (place : Place) → (found : Ref) → (target : ℕ) → Change
  Publish : (address : ℕ) → (shape : Shape) → Change
  Commit : (a : Activation) → Change

-- the header of an object of the shape that is in use
abbrev pub fresh_header : Shape → ℕ
fresh_header shape = header_word (record { shape = shape; stale = false })

-- where a search reads its next forwarding word, and that word
abbrev pub next_place : State → Search → ℕ
next_place s search = probe search.home s.base.forwards search.tried

abbrev pub next_forward : State → Search → ℕ
next_forward s search = s.forward (next_place s search)

abbrev pub change_of : State → (ℕ → ℕ) → List ℕ → Option Stage → Change
change_of s register rest None = Nothing
change_of s register rest (Some (Polled (Make dst shape))) = Free (s.free + cost_of shape)
change_of s register rest (Some (Polled (Use r access))) = Nothing
change_of s register rest (Some (Polled (LoadGlobal dst g))) = Nothing
change_of s register rest (Some (Polled (StoreGlobal g src))) = SetGlobal g (4 * register src)
change_of s register rest (Some (Headed address shape (Load dst i))) = Nothing
change_of s register rest (Some (Headed address shape (Store i src))) = Word (address + 2 + i) (4 * register src)
change_of s register rest (Some (Headed address shape (Get j))) = Nothing
change_of s register rest (Some (Headed address shape (Put j v))) = Word (number_place address shape j) v
change_of s register rest (Some (Looked place found target dst)) = Clear target
change_of s register rest (Some (Cleared place found target dst)) = Untag place found target
change_of s register rest (Some (Claimed address shape stored dst)) =
    if stored + 1 == cost_of shape then Publish address shape else Word (address + 1 + stored) 0
change_of s register rest (Some (Lacking need)) = Nothing
change_of s register rest (Some (Searching search)) = Nothing
change_of s register rest (Some (Missed search)) = Nothing
change_of s register rest (Some (HeadRead search shape)) = Nothing
change_of s register rest (Some (BodyRead search shape)) = Free (s.free + cost_of shape)
change_of s register rest (Some (Copying a stored)) =
    if stored + 1 == cost_of a.shape then Word a.address (fresh_header a.shape)
    else Word (a.address + 1 + stored) (copy_word a.search.home a.shape rest (stored + 1))
change_of s register rest (Some (Copied a)) = Commit a
change_of s register rest (Some (Retrying a)) = Nothing
change_of s register rest (Some (LackingCopy search shape)) = Nothing

-- the change was made, and no other
abbrev pub Applies : Maps → Maps → State → State → Change → Type 0
Applies maps new s t Nothing = (new ≡ maps) × SameWords s t
Applies maps new s t (Word at word) = (new ≡ maps) × WordChanges s t at word
Applies maps new s t (SetGlobal g word) = (new ≡ maps) × GlobalChanges s t g word
Applies maps new s t (Free free) = (new ≡ maps) × FreeMoves s t free
Applies maps new s t (Clear address) =
    (new ≡ maps) × ((header : Header) → HeaderAt s address header
    → WordChanges s t address (header_word (record { shape = header.shape; stale = false })))
Applies maps new s t (Untag place found target) =
    (new ≡ maps) × ((word_in s place ≡ ref_word found → PlaceChanges s t place (ref_word (Clean target)))
    × (word_in s place ≢ ref_word found → SameWords s t))
Applies maps new s t (Publish address shape) =
    WordChanges s t address (header_word (record { shape = shape; stale = false }))
    × ((n : ℕ) × NameAppears maps new address n)
Applies maps new s t (Commit a) =
    (next_forward s a.search ≡ 0
    → ForwardChanges s t (next_place s a.search) (forward_word a.search.home a.address)
    × ((n : ℕ) × NameAppears maps new a.address n))
    × (next_forward s a.search ≢ 0 → (new ≡ maps) × SameWords s t)

-- the object whose stale bit the next event clears, or 0
abbrev pub cleared_by : Option Stage → ℕ
cleared_by (Some (Looked place found target dst)) = target
cleared_by stage = 0

-- the search has read one forwarding word more
abbrev pub further : Search → Search
further search = record search { tried = search.tried + 1 }

abbrev pub retried : Activation → Activation
retried a = record a { search = further a.search }

-- the stage of a load that knows the address of the object at the home
abbrev pub reached : Search → ℕ → Stage
reached search target = Cleared search.place (Disk search.home) target search.dst

-- A load found a word with a tag: a stale address, or a home.
abbrev pub FindsTag : ℕ → Place → ℕ → Stage → Type 0
FindsTag word place dst next =
    ((target : ℕ) × (word ≡ ref_word (Stale target)) × (next ≡ Looked place (Stale target) target dst))
    ⊎ ((home : ℕ) × (word ≡ ref_word (Disk home))
    × (next ≡ Searching (record { place = place; home = home; tried = 0; dst = dst })))

-- A forwarding word is read that was not read before: it names the home, is empty, or names another home.
abbrev pub Probes : State → Search → (empty another next : Stage) → Type 0
Probes s search empty another next = (search.tried < s.base.forwards) ×
    (((address : ℕ) × Sends (next_forward s search) search.home address × (next ≡ reached search address))
    ⊎ (((next_forward s search ≡ 0) × (next ≡ empty))
    ⊎ (SendsAnother (next_forward s search) search.home × (next ≡ another))))

-- the stage after the head of a Body: one without slots and numbers has no words that are still to be read
abbrev pub body_stage : Search → Shape → Stage
body_stage search shape = if shape.refs + shape.nums == 0 then BodyRead search shape else HeadRead search shape

-- what is after the head of a record
abbrev pub ReadAs : State → Search → Shape → Kind → Stage → Type 0
ReadAs s search shape Body next = next ≡ body_stage search shape
ReadAs s search shape (Stub scion) next = (target : ℕ)
    × (s.base.scion scion ≡ Some (record { home = search.home; address = target }))
    × (next ≡ Looked search.place (Disk search.home) target search.dst)

-- The next event is not the last of the call, which reaches this stage by it. An event of a call that has made none
-- needs the stop word not to be set.
abbrev pub Next : Maps → State → (ℕ → ℕ) → Bool → Op → Option Stage → Stage → Type 0
Next maps s register stop o None next = (task : Task) × Shares register o task × (stop ≡ false) × (next ≡ Polled task)
Next maps s register stop o (Some (Polled (Make dst shape))) next =
    (s.free + cost_of shape ≤ s.base.size + 1 → next ≡ Claimed s.free shape 0 dst)
    × (s.base.size + 1 < s.free + cost_of shape → next ≡ Lacking (cost_of shape))
Next maps s register stop o (Some (Polled (Use r access))) next = (shape : Shape) × IsObjectAt maps s (register r) shape
    × HasPart access shape × (next ≡ Headed (register r) shape access)
Next maps s register stop o (Some (Polled (LoadGlobal dst g))) next =
    FindsTag (s.global g) (Global g) dst next
Next maps s register stop o (Some (Polled (StoreGlobal g src))) next = ⊥
Next maps s register stop o (Some (Headed address shape (Load dst i))) next =
    FindsTag (s.word (address + 2 + i)) (Field address i) dst next
Next maps s register stop o (Some (Headed address shape (Store i src))) next = ⊥
Next maps s register stop o (Some (Headed address shape (Get j))) next = ⊥
Next maps s register stop o (Some (Headed address shape (Put j v))) next = ⊥
Next maps s register stop o (Some (Looked place found target dst)) next = next ≡ Cleared place found target dst
Next maps s register stop o (Some (Cleared place found target dst)) next = ⊥
Next maps s register stop o (Some (Claimed address shape stored dst)) next =
    (stored + 1 < cost_of shape) × (next ≡ Claimed address shape (stored + 1) dst)
Next maps s register stop o (Some (Lacking need)) next = ⊥
Next maps s register stop o (Some (Searching search)) next =
    Probes s search (Missed search) (Searching (further search)) next
Next maps s register stop o (Some (Missed search)) next =
    (shape : Shape) × (kind : Kind) × ReadAs s search shape kind next
Next maps s register stop o (Some (HeadRead search shape)) next = next ≡ BodyRead search shape
Next maps s register stop o (Some (BodyRead search shape)) next =
    (s.free + cost_of shape ≤ s.base.size + 1
    → next ≡ Copying (record { search = search; address = s.free; shape = shape }) 0)
    × (s.base.size + 1 < s.free + cost_of shape → next ≡ LackingCopy search shape)
Next maps s register stop o (Some (Copying a stored)) next =
    (stored + 1 < cost_of a.shape → next ≡ Copying a (stored + 1)) × (cost_of a.shape ≤ stored + 1 → next ≡ Copied a)
Next maps s register stop o (Some (Copied a)) next =
    Probes s a.search (reached a.search a.address) (Retrying (retried a)) next
Next maps s register stop o (Some (Retrying a)) next = Probes s a.search (Copied a) (Retrying (retried a)) next
Next maps s register stop o (Some (LackingCopy search shape)) next = ⊥

-- the call has to pause in its next event, where there are so many forwarding words
abbrev pub MustPause : ℕ → (ℕ → ℕ) → Bool → Op → Option Stage → Type 0
MustPause forwards register stop o None = ((task : Task) × Shares register o task) × (stop ≡ true)
MustPause forwards register stop o (Some (Lacking need)) = Unit {0}
MustPause forwards register stop o (Some (LackingCopy search shape)) = Unit {0}
MustPause forwards register stop o (Some (Searching search)) = search.tried ≡ forwards
MustPause forwards register stop o (Some (Retrying a)) = a.search.tried ≡ forwards
MustPause forwards register stop o (Some stage) = ⊥

-- two events for each forwarding word that is still to be read: a word that is found empty may be taken before it is
-- exchanged
abbrev pub probes_left : ℕ → Search → ℕ
probes_left forwards search = 2 * (forwards - search.tried)

-- how many events a call has at most from this stage on, where there are no more than so many forwarding words
abbrev pub events_left : ℕ → Option Stage → ℕ
events_left forwards None = 136 + 2 * forwards
events_left forwards (Some (Polled task)) = 135 + 2 * forwards
events_left forwards (Some (Headed address shape access)) = 134 + 2 * forwards
events_left forwards (Some (Looked place found target dst)) = 3
events_left forwards (Some (Cleared place found target dst)) = 2
events_left forwards (Some (Claimed address shape stored dst)) = cost_of shape - stored
events_left forwards (Some (Lacking need)) = 1
events_left forwards (Some (Searching search)) = 133 + probes_left forwards search
events_left forwards (Some (Missed search)) = 132 + probes_left forwards search
events_left forwards (Some (HeadRead search shape)) = 131 + probes_left forwards search
events_left forwards (Some (BodyRead search shape)) = 130 + probes_left forwards search
events_left forwards (Some (Copying a stored)) = cost_of a.shape - stored + 2 + probes_left forwards a.search
events_left forwards (Some (Copied a)) = 2 + probes_left forwards a.search
events_left forwards (Some (Retrying a)) = 3 + probes_left forwards a.search
events_left forwards (Some (LackingCopy search shape)) = 1

-- how often a call reads the disk at most from this stage on
abbrev pub reads_left : Option Stage → ℕ
reads_left None = 2
reads_left (Some (Polled task)) = 2
reads_left (Some (Headed address shape access)) = 2
reads_left (Some (Searching search)) = 2
reads_left (Some (Missed search)) = 2
reads_left (Some (HeadRead search shape)) = 1
reads_left (Some stage) = 0

-- the next event reads nothing of the disk
abbrev pub NeedsNoRead : Option Stage → Type 0
NeedsNoRead (Some (Missed search)) = ⊥
NeedsNoRead (Some (HeadRead search shape)) = ⊥
NeedsNoRead stage = Unit {0}

-- the stages of the slow path: a load found a word with a tag, or the heap lacks words
abbrev pub IsSlow : Option Stage → Type 0
IsSlow None = ⊥
IsSlow (Some (Polled task)) = ⊥
IsSlow (Some (Headed address shape access)) = ⊥
IsSlow (Some (Claimed address shape stored dst)) = ⊥
IsSlow (Some stage) = Unit {0}

-- the stages of a load that found a home, without those from which the disk is read
abbrev pub ComesBack : Stage → Type 0
ComesBack (Searching search) = Unit {0}
ComesBack (BodyRead search shape) = Unit {0}
ComesBack (Copying a stored) = Unit {0}
ComesBack (Copied a) = Unit {0}
ComesBack (Retrying a) = Unit {0}
ComesBack (LackingCopy search shape) = Unit {0}
ComesBack stage = ⊥

-- the next event reads the disk, at this home
abbrev pub ReadsAt : Option Stage → ℕ → Type 0
ReadsAt (Some (Missed search)) home = search.home ≡ home
ReadsAt (Some (HeadRead search shape)) home = search.home ≡ home
ReadsAt stage home = ⊥

-- so many words were claimed that end past the last word
abbrev pub Lacks : Option Stage → ℕ → Type 0
Lacks (Some (Lacking words)) need = words ≡ need
Lacks (Some (LackingCopy search shape)) need = cost_of shape ≡ need
Lacks stage need = ⊥

-- the search goes on with the next event, with a copy at hand or without
abbrev pub SearchesOn : Option Stage → Search → Type 0
SearchesOn (Some (Searching search)) of = search ≡ of
SearchesOn (Some (Retrying a)) of = a.search ≡ of
SearchesOn stage of = ⊥

-- the call may look at the place now, to load it into the register
abbrev pub LooksFrom : Option Stage → Place → ℕ → Type 0
LooksFrom stage (Field object i) dst = (shape : Shape) × (stage ≡ Some (Headed object shape (Load dst i)))
LooksFrom stage (Global g) dst = stage ≡ Some (Polled (LoadGlobal dst g))

-- the call may write the register into the place now
abbrev pub StoresFrom : Option Stage → Place → ℕ → Type 0
StoresFrom stage (Field object i) src = (shape : Shape) × (stage ≡ Some (Headed object shape (Store i src)))
StoresFrom stage (Global g) src = stage ≡ Some (Polled (StoreGlobal g src))
