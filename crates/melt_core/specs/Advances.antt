-- What one event does to a core.
use Rattle.std.specs.Prelude.{◌≡◌, ◌≢◌, ◌⊎◌, ℕ, zero, suc, ◌+◌, ◌^◌, ◌<◌, ◌≤◌, Bool, true, false, List, length}
use Rattle.std.specs.Prelude.{Option, None, Some, IfSome, IsSome, slice_index}
use Rattle.melt_model.specs.Alive.{Alive, words_of, CostsSum}
use Rattle.melt_model.specs.declared.history.Act.{Act}
use Rattle.melt_model.specs.declared.operations.Op.{Op}
use Rattle.melt_model.specs.declared.operations.Op.TheVariants as op
use Rattle.melt_model.specs.declared.operations.Reply.{Reply}
use Rattle.melt_word.specs.declared.header.Shape.{Shape}
use Rattle.melt_record.specs.declared.damage.Damaged.{Damaged}
use Rattle.melt_record.specs.declared.head.Kind.TheVariants.{Stub}
use Rattle.melt_record.specs.Records.{IsHead, IsHeadDamage, IsSlotDamage}
use Rattle.melt_forward.specs.Forwarding.{AllSendOthers}
use Rattle.melt_io.specs.Outside.{Rose, words_at}
use Rattle.melt_scion.specs.Scions.{Scions}
use Rattle.melt_scion.specs.Heaps.{OnDisk, Shows, register_in, scion_in}
use Rattle.melt_core.specs.declared.answer.Pause.{Pause}
use Rattle.melt_core.specs.declared.answer.Pause.TheVariants.{Asked, Space, Forward}
use Rattle.melt_core.specs.declared.answer.Refusal.{Refusal}
use Rattle.melt_core.specs.declared.answer.Refusal.TheVariants as refusal
use Rattle.melt_core.specs.declared.answer.StepResult.{StepResult}
use Rattle.melt_core.specs.declared.answer.StepResult.TheVariants.{Going, Answered, Refused}
use Rattle.melt_core.specs.declared.call.Place.{Place}
use Rattle.melt_core.specs.declared.call.Search.{Search}
use Rattle.melt_core.specs.declared.call.Stage.{Stage}
use Rattle.melt_core.specs.declared.call.Stage.TheVariants.{Missed, HeadRead}
use Rattle.melt_core.specs.declared.call.Call.{Call}
use Rattle.melt_core.specs.Answering.{Answers, with_entry}
use Rattle.melt_core.specs.Known.{Evolves, IsPlace, IsTagged, word_in}
use Rattle.melt_core.specs.Stages.{LoadsAt, Applies, change_of, cleared_by, Next, MustPause, events_left, reads_left}
use Rattle.melt_core.specs.Stages.{Lacks, LooksAtStop, SearchesOn, ReadsAt}
use Rattle.melt_core.specs.Changed.{HasRoomForEntry, with_stage}
use Rattle.melt_core.specs.Made.{KeepsMade}
use Rattle.melt_core.specs.Views.{View, maps, state, values_of, value, registers_in, call_of, stage_of, rest_of}
use Rattle.melt_core.specs.Views.{Standing}

-- registers and globals that the operation names are there, and the object that it makes is small enough
abbrev pub InBounds : ℕ → Op → Type 0
InBounds globals (op.New dst refs nums) = (dst < 16) × (refs ≤ 62) × (nums ≤ 62)
InBounds globals (op.Load dst src i) = (dst < 16) × (src < 16)
InBounds globals (op.Store obj i src) = (obj < 16) × (src < 16)
InBounds globals (op.Get src j) = src < 16
InBounds globals (op.Put obj j v) = obj < 16
InBounds globals (op.GLoad dst g) = (dst < 16) × (g < globals)
InBounds globals (op.GStore g src) = (g < globals) × (src < 16)
InBounds globals (op.Same a b) = (a < 16) × (b < 16)
InBounds globals (op.Copy dst src) = (dst < 16) × (src < 16)
InBounds globals (op.Drop r) = r < 16
InBounds globals op.Collect = Unit {0}

-- the operation is the one whose call is in flight, if one is
abbrev pub Continues : Option Call → Op → Type 0
Continues None o = Unit {0}
Continues (Some c) o = o ≡ c.op

-- What each event of a thread asks: over the disk the words are well formed; operation and thread are in range, and the
-- operation is no collection; a call that is in flight is continued; and the history has room for an entry.
pub record Asks (disk : OnDisk) (v : View) (t : ℕ) (o : Op) : Type 0 where
  pub stands : Standing false disk v
  pub thread : t < length v.held
  pub bounds : InBounds (length v.globals) o
  pub no_collect : o ≢ op.Collect
  pub continued : Continues (call_of v t) o
  pub room : HasRoomForEntry v
  pub few : length v.log < 2 ^ 32

-- over a disk that ends at this word
pub record MayAdvance (end : ℕ) (v : View) (t : ℕ) (o : Op) : Type 0 where
  pub disk : OnDisk
  pub ends : disk.end ≡ end
  pub asks : Asks disk v t o

-- over some disk
pub record MayMakeEvent (v : View) (t : ℕ) (o : Op) : Type 0 where
  pub disk : OnDisk
  pub asks : Asks disk v t o

-- what an event of one thread leaves to the others
pub record KeepsOthers (v w : View) (t : ℕ) : Type 0 where
  pub globals : length w.globals ≡ length v.globals
  pub words : length w.space.list ≡ length v.space.list
  pub forwards : length w.forward ≡ length v.forward
  pub threads : length w.held ≡ length v.held
  pub capacity : w.capacity ≡ v.capacity
  pub calls : (u : ℕ) → u ≢ t → call_of w u ≡ call_of v u
  pub records : (u : ℕ) → u ≢ t → rest_of w u ≡ rest_of v u
  pub registers : (u : ℕ) → u ≢ t → registers_in w.held u ≡ registers_in v.held u
  pub values : (u : ℕ) → u ≢ t → values_of w u ≡ values_of v u

-- the history and the registers of the thread stay
pub record KeepsOwn (v w : View) (t : ℕ) : Type 0 where
  pub history : w.log ≡ v.log
  pub registers : registers_in w.held t ≡ registers_in v.held t
  pub values : values_of w t ≡ values_of v t

-- the call of the thread goes on
pub record CallGoesOn (disk : OnDisk) (v w : View) (t : ℕ) (o : Op) : Type 0 where
  pub stage : Stage
  pub next : Next (maps v) (state disk v) (register_in v.held t) v.stop o (stage_of v t) stage
  pub call : call_of w t ≡ Some (record { op = o; stage = stage })
  pub nearer : (most : ℕ) → length v.forward ≤ most → events_left most (Some stage) < events_left most (stage_of v t)
  pub own : KeepsOwn v w t
  pub stop : w.stop ≡ v.stop

-- So many words more have room, in the heap and before this end of the disk, beside those of the objects that registers
-- and globals reach. The first word on disk is 1.
pub record HasRoom (end : ℕ) (v : View) (need : ℕ) : Type 0 where
  pub alive : ℕ
  pub adds_up : CostsSum (words_of v.log) (Alive v.log (value v)) alive
  pub fits : alive + need + 1 ≤ length v.space.list + end

-- the object that the operation makes, if it makes one, has room
abbrev pub HasRoomFor : ℕ → View → Op → Type 0
HasRoomFor end v (op.New dst refs nums) = HasRoom end v (2 + refs + nums)
HasRoomFor end v o = Unit {0}

-- the operation sets the register
abbrev pub Sets : Op → ℕ → Type 0
Sets (op.New dst refs nums) r = r ≡ dst
Sets (op.Load dst src i) r = r ≡ dst
Sets (op.GLoad dst g) r = r ≡ dst
Sets (op.Copy dst src) r = r ≡ dst
Sets (op.Drop dst) r = r ≡ dst
Sets o r = ⊥

-- The call of the thread is answered, in an event that neither goes on nor has to pause. Reply, history and registers
-- are those of the operation, where the words stand for the history; otherwise there is one entry more at most. What
-- the operation made had room, in the heap and on disk.
pub record IsAnswered (disk : OnDisk) (v w : View) (t : ℕ) (o : Op) (reply : Reply) : Type 0 where
  pub last : (next : Stage) → Next (maps v) (state disk v) (register_in v.held t) v.stop o (stage_of v t) next → ⊥
  pub no_pause : MustPause (length v.forward) (register_in v.held t) v.stop o (stage_of v t) → ⊥
  pub call : call_of w t ≡ None
  pub answers : Standing true disk v → Answers t v.log (values_of v t) o reply w.log (values_of w t)
  pub history : (act : Option Act) × (w.log ≡ with_entry t v.log act)
  pub registers : (r : ℕ) → (Sets o r → ⊥) → register_in w.held t r ≡ register_in v.held t r
  pub stop : w.stop ≡ v.stop
  pub room : Standing true disk v → HasRoomFor disk.end v o

-- The call of the thread is refused, as the stop word is set, at which the operation looks; nothing changes.
pub record IsAsked (v w : View) (t : ℕ) (o : Op) : Type 0 where
  pub first : call_of v t ≡ None
  pub pauses : MustPause (length v.forward) (register_in v.held t) v.stop o None
  pub looks : LooksAtStop (value v t) o
  pub same : w ≡ v

-- The call of the thread is refused, as the words that it claimed end past the last word of the heap; the stop word is
-- set. It had looked at that word.
pub record IsRefused (v w : View) (t : ℕ) (o : Op) (need : ℕ) : Type 0 where
  pub lacks : Lacks (stage_of v t) need
  pub call : call_of w t ≡ None
  pub own : KeepsOwn v w t
  pub stop : w.stop ≡ true
  pub looks : LooksAtStop (value v t) o

-- The call of the thread is refused, as each forwarding word sends another home than that for which it searches; the
-- stop word is set. It had looked at that word too.
pub record IsFull (v w : View) (t : ℕ) (o : Op) : Type 0 where
  pub search : Search
  pub searches : SearchesOn (stage_of v t) search
  pub all : search.tried ≡ length v.forward
  pub others : AllSendOthers v.forward search.home
  pub call : call_of w t ≡ None
  pub own : KeepsOwn v w t
  pub stop : w.stop ≡ true
  pub looks : LooksAtStop (value v t) o

abbrev pub Pauses : View → View → ℕ → Op → Pause → Type 0
Pauses v w t o Asked = IsAsked v w t o
Pauses v w t o (Space need) = IsRefused v w t o need
Pauses v w t o Forward = IsFull v w t o

-- The call of the thread is refused, in an event that was to read the disk at this home; the stop word stays.
pub record IsLost (v w : View) (t home : ℕ) : Type 0 where
  pub reads : ReadsAt (stage_of v t) home
  pub call : call_of w t ≡ None
  pub own : KeepsOwn v w t
  pub stop : w.stop ≡ v.stop

-- And it was read, where the disk does not tell its words or they are not those of the history.
pub record IsDamaged (tells : Type 0) (disk : OnDisk) (v w : View) (t : ℕ) (damaged : Damaged) : Type 0 where
  pub lost : IsLost v w t damaged.home
  pub untold : tells → Standing true disk v → ⊥

abbrev pub Refuses : Type 0 → OnDisk → View → View → ℕ → Op → Refusal → Type 0
Refuses tells disk v w t o (refusal.Pause pause) = Pauses v w t o pause
Refuses tells disk v w t o refusal.DiskFault = (home : ℕ) × IsLost v w t home
Refuses tells disk v w t o (refusal.Damaged damaged) = IsDamaged tells disk v w t damaged

abbrev pub StepOutcome : Type 0 → OnDisk → View → View → ℕ → Op → StepResult → Type 0
StepOutcome tells disk v w t o Going = CallGoesOn disk v w t o
StepOutcome tells disk v w t o (Answered reply) = IsAnswered disk v w t o reply
StepOutcome tells disk v w t o (Refused refusal) = Refuses tells disk v w t o refusal

-- where a load was answered, the reference that it read has no tag
abbrev pub LeavesClean : OnDisk → View → View → ℕ → Op → StepResult → Type 0
LeavesClean disk v w t o (Answered reply) = (place : Place) (dst : ℕ) → LoadsAt (register_in v.held t) o place dst
    → IsPlace (maps v) (state disk v) place → IsTagged (word_in (state disk w) place) → ⊥
LeavesClean disk v w t o Going = Unit {0}
LeavesClean disk v w t o (Refused refusal) = Unit {0}

-- One event of a thread was made, over a disk: what stood before, told or not, stands after, told only where the words
-- of the disk are told in the event; the shared words changed as that event changes them, and in no other way. What it
-- made is in use.
pub record AdvancesWhere (tells : Type 0) (disk : OnDisk) (v w : View) (t : ℕ) (o : Op) (result : StepResult)
    : Type 0 where
  pub keeps : (told : Bool) → (told ≡ true → tells) → Standing told disk v → Standing told disk w
  pub changes : Applies (maps v) (maps w) (state disk v) (state disk w)
      (change_of (state disk v) (register_in v.held t) (rest_of v t) (stage_of v t))
  pub evolves : Evolves (maps v) (maps w) (state disk v) (state disk w) (cleared_by (stage_of v t))
  pub others : KeepsOthers v w t
  pub outcome : StepOutcome tells disk v w t o result
  pub clean : LeavesClean disk v w t o result
  pub makes : tells → Standing true disk v → KeepsMade v w

-- in an event that reads nothing of the disk
abbrev pub AdvancesOver : OnDisk → View → View → ℕ → Op → StepResult → Type 0
AdvancesOver disk v w t o result = AdvancesWhere (Unit {0}) disk v w t o result

-- over each disk over which the words are well formed
pub record MakesEvent (v w : View) (t : ℕ) (o : Op) (result : StepResult) : Type 0 where
  pub over : (disk : OnDisk) → Standing false disk v → AdvancesOver disk v w t o result

-- A thread may make the event after a stage, whether that is written where its call is or not.
abbrev pub MayMakeEventFrom : View → ℕ → Op → Stage → Type 0
MayMakeEventFrom v t o stage = MayMakeEvent (with_stage v t o stage) t o

-- and it was made
abbrev pub MakesEventFrom : View → View → ℕ → Op → Stage → StepResult → Type 0
MakesEventFrom v w t o stage result = MakesEvent (with_stage v t o stage) w t o result

-- so many events of one call and one more, each right after the one before: all but the last go on
abbrev pub MakesEventsBy : ℕ → View → View → ℕ → Op → StepResult → Type 0
MakesEventsBy zero v w t o result = MakesEvent v w t o result
MakesEventsBy (suc more) v w t o result = (u : View) × MakesEvent v u t o Going × MakesEventsBy more u w t o result

-- Events of one call, each right after the one before. Where they are several, the call is not refused.
pub record MakesEvents (v w : View) (t : ℕ) (o : Op) (result : StepResult) : Type 0 where
  pub more : ℕ
  pub moves : MakesEventsBy more v w t o result
  pub refused : (refusal : Refusal) → result ≡ Refused refusal → more ≡ 0

-- the words that a reader tells, if it tells any, are those of the disk
abbrev pub TellsDisk : Option (List ℕ) → OnDisk → Type 0
TellsDisk image disk = IsSome image × Shows image disk.image

-- In an event that may read of the disk what a reader tells, over each disk that ends at this word.
pub record Advances (end : ℕ) (image : Option (List ℕ)) (v w : View) (t : ℕ) (o : Op) (result : StepResult)
    : Type 0 where
  pub over : (disk : OnDisk) → disk.end ≡ end → AdvancesWhere (TellsDisk image disk) disk v w t o result

-- a Stub of a home names a scion that is not live, or is of another home
pub record NamesNoScion (scions : Scions) (home end first second : ℕ) (damaged : Damaged) : Type 0 where
  pub shape : Shape
  pub scion : ℕ
  pub head : IsHead home end first second (record { shape = shape; kind = Stub scion })
  pub dead : (address : ℕ) → scion_in scions scion ≢ Some (record { home = home; address = address })
  pub is : damaged ≡ record { home = home; at = 1; word = second }

-- What was read at a home breaks the form of a record at this word, or names no scion of the home.
abbrev pub Breaks : Scions → ℕ → Option Stage → List ℕ → Damaged → Type 0
Breaks scions end (Some (Missed search)) words damaged =
    IsHeadDamage search.home end (slice_index words 0) (slice_index words 1) damaged
    ⊎ NamesNoScion scions search.home end (slice_index words 0) (slice_index words 1) damaged
Breaks scions end (Some (HeadRead search shape)) words damaged =
    IsSlotDamage search.home end shape.refs words damaged
Breaks scions end stage words damaged = ⊥

-- where an event reads, and how many words
abbrev pub reads_from : Option Stage → ℕ × ℕ
reads_from (Some (Missed search)) = (search.home, 2)
reads_from (Some (HeadRead search shape)) = (search.home + 2, shape.refs + shape.nums)
reads_from stage = (0, 0)

-- The record that was read is damaged. Its words are those that the reader tells.
pub record IsDamage (image : Option (List ℕ)) (end : ℕ) (v : View) (t : ℕ) (damaged : Damaged) : Type 0 where
  pub words : List ℕ
  pub read : IfSome image (λ told. words ≡ words_at told (reads_from (stage_of v t)).0 (reads_from (stage_of v t)).1)
  pub breaks : Breaks v.scions end (stage_of v t) words damaged

-- how often a call may read after an event
abbrev pub reads_after : StepResult → Option Stage → ℕ
reads_after Going stage = reads_left stage
reads_after result stage = 0

-- What an event leaves of a reader: it reads once at most, and so a call does twice at most. A fault has its count.
pub record Uses (v w : View) (t : ℕ) (result : StepResult) (faults_before faults_after reads_before reads_after_it : ℕ)
    : Type 0 where
  pub one : reads_after_it ≤ reads_before + 1
  pub few : reads_after_it + reads_after result (stage_of w t) ≤ reads_before + reads_left (stage_of v t)
  pub fault : result ≡ Refused refusal.DiskFault → Rose faults_before faults_after
  pub count : faults_before ≤ faults_after
