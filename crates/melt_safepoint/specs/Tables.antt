-- The threads of a run between two events, by what stands in the core.
use Rattle.std.specs.Prelude.{◌≡◌, ◌≢◌, ℕ, ◌+◌, ◌*◌, ◌^◌, ◌<◌, ◌≤◌, Bool, true, false}
use Rattle.std.specs.Prelude.{List, [], ◌∷◌, length, take, drop, replicate, slice_get}
use Rattle.std.specs.Prelude.{vec_capacity, All, Option, None, Some, IfSome, IsSome, ◌⊎◌}
use Rattle.melt_model.specs.Standing.{Stands}
use Rattle.melt_model.specs.declared.config.Config.{Config}
use Rattle.melt_model.specs.declared.history.Entry.{Entry}
use Rattle.melt_model.specs.declared.history.Value.{Value}
use Rattle.melt_model.specs.declared.history.Value.TheVariants.{Nil}
use Rattle.melt_model.specs.declared.operations.Op.{Op}
use Rattle.melt_model.specs.declared.operations.Op.TheVariants.{Collect}
use Rattle.melt_model.specs.declared.operations.Reply.{Reply}
use Rattle.melt_trace.specs.Grammar.{InRange}
use Rattle.melt_trace.specs.Script.{Script, operations}
use Rattle.melt_scion.specs.Heaps.{OnDisk}
use Rattle.melt_core.specs.declared.answer.Pause.{Pause}
use Rattle.melt_core.specs.declared.answer.Refusal.{Refusal}
use Rattle.melt_core.specs.declared.answer.Refusal.TheVariants as refusal
use Rattle.melt_core.specs.declared.call.Call.{Call}
use Rattle.melt_core.specs.Advances.{KeepsOthers, Pauses}
use Rattle.melt_core.specs.Answering.{Answers, with_entry}
use Rattle.melt_core.specs.Changed.{stopped, HasRoomForEntry}
use Rattle.melt_core.specs.Epochs.{HasDropped}
use Rattle.melt_core.specs.Stages.{LooksAtStop, events_left}
use Rattle.melt_core.specs.Views.{View, call_of, stage_in, value, values_of, Standing, IsQuiet}
use Rattle.melt_model.specs.declared.history.Act.{Act}
use Rattle.melt_safepoint.specs.declared.thread.Mode.{Mode}
use Rattle.melt_safepoint.specs.declared.thread.Mode.TheVariants.{Running, Due, Silent, Collecting, Asked, Ended}
use Rattle.melt_safepoint.specs.declared.thread.ThreadState.{ThreadState}
use Rattle.melt_safepoint.specs.Needs.{IsLoad}
use Rattle.melt_safepoint.specs.Cuts.{IsDue}
use Rattle.melt_safepoint.specs.Shown.{Underlies}
use Rattle.melt_safepoint.specs.Threads.{left, to_reply, most_forwards, TakesReply}
use Rattle.melt_safepoint.specs.Modes.{MayGo, IsEnded, CallsAgain, FitsMode, owes_silent, mode_for, Waits, jobs}
use Rattle.melt_safepoint.specs.Endings.{EndsSo, IsLostBy}

-- What a thread was told stands in the history: these replies to its first operations. What it holds by them is in its
-- registers, until it ends.
pub record RepliesStand (script : Script) (v : View) (t : ℕ) (s : ThreadState) : Type 0 where
  pub registers : List Value
  pub stands : Stands v.log t (take (length s.replies.items) (operations script t)) s.replies.items registers
  pub in_registers : IsEnded s.mode ⊎ (registers ≡ values_of v t)

-- A thread of the script has these replies to its first operations, and the others are to come. One whose call is to be
-- made again looks at the stop word by it.
pub record ThreadStands (told : Bool) (script : Script) (v : View) (t : ℕ) (s : ThreadState) : Type 0 where
  pub to_come : left s ≡ drop (length s.replies.items) (operations script t)
  pub within : length s.replies.items + length (left s) ≡ length (operations script t)
  pub none_left : s.op ≡ None → s.cursor.operations ≡ []
  pub replies_stand : told ≡ true → RepliesStand script v t s
  pub dropped : IsEnded s.mode → values_of v t ≡ replicate 16 Nil
  pub call : (c : Call) → call_of v t ≡ Some c → (s.mode ≡ Running) × (s.op ≡ Some c.op) × (c.op ≢ Collect)
  pub fits : FitsMode s.mode s.op
  pub looks : CallsAgain s.mode → IfSome s.op (LooksAtStop (value v t))
  pub in_range : IfSome s.op (InRange script.globals)
  pub globals : s.cursor.globals ≡ script.globals
  pub room : length s.replies.items + length (left s) ≤ vec_capacity s.replies

-- All threads stand over the disk, told or not, as the core does, which has room for the entries to come.
pub record TableStands (told : Bool) (script : Script) (config : Config) (disk : OnDisk) (v : View)
    (states : List ThreadState) : Type 0 where
  pub stands : Standing told disk v
  pub count : length states ≡ length script.programs
  pub threads : length v.held ≡ length script.programs
  pub globals : length v.globals ≡ script.globals
  pub words : length v.space.list ≡ config.heap
  pub forward_words : length v.forward ≡ config.forward
  pub forwards : length v.forward ≤ most_forwards
  pub some_forward : 1 ≤ length v.forward
  pub each : (t : ℕ) (s : ThreadState) → slice_get states t ≡ Some s → ThreadStands told script v t s
  pub own : All (λ (e : Entry). e.thread < length script.programs) v.log
  pub due : (t : ℕ) (s : ThreadState) → slice_get states t ≡ Some s → owes_silent s.mode ≡ true
      → IsDue config (length s.replies.items)
  pub ends : (t : ℕ) (s : ThreadState) → slice_get states t ≡ Some s → EndsSo told script v.log states config t s.mode
  pub entries : length v.log + to_reply states ≤ v.capacity
  pub few : length v.log + to_reply states ≤ 8388608

-- a thread waits for a collection, and the stop word is set
pub record ThreadWaits (v w : View) (t : ℕ) (s after : ThreadState) (mode : Mode) : Type 0 where
  pub only : after ≡ record s { mode = mode }
  pub stop : w ≡ stopped v
  pub before : ((s.mode ≡ Running) × (s.op ≡ Some Collect) × (mode ≡ Collecting)) ⊎ ((s.mode ≡ Due) × (mode ≡ Silent))

-- the call of a thread goes on, or was refused
pub record ThreadGoes (v w : View) (t : ℕ) (s after : ThreadState) : Type 0 where
  pub same : after ≡ s
  pub running : s.mode ≡ Running
  pub call : Call
  pub flight : call_of w t ≡ Some call
  pub op : s.op ≡ Some call.op
  pub no_collect : call.op ≢ Collect
  pub nearer : events_left most_forwards (stage_in (call_of w t)) < events_left most_forwards (stage_in (call_of v t))
  pub history : w.log ≡ v.log
  pub values : values_of w t ≡ values_of v t

-- the call of a thread paused
pub record ThreadRefused (v w : View) (t : ℕ) (s after : ThreadState) : Type 0 where
  pub running : s.mode ≡ Running
  pub op : Op
  pub next : s.op ≡ Some op
  pub no_collect : op ≢ Collect
  pub cause : Pause
  pub pauses : Pauses v w t op cause
  pub only : after ≡ record s { mode = mode_for (refusal.Pause cause) }

-- The thread has ended, as its call, a load, read a record that could not be read, or
-- is none. Its registers hold nothing.
pub record ThreadLost (told : Bool) (finish : ℕ) (v w : View) (t : ℕ) (s after : ThreadState) : Type 0 where
  pub op : Op
  pub next : s.op ≡ Some op
  pub loads : IsLoad op
  pub refusal : Refusal
  pub cause : IsLostBy told finish refusal
  pub only : after ≡ record s { mode = mode_for refusal }
  pub not_due : owes_silent s.mode ≡ false
  pub goes : IsEnded s.mode → ⊥
  pub call : call_of w t ≡ None
  pub history : w.log ≡ v.log
  pub dropped : values_of w t ≡ replicate 16 Nil

-- a thread that has ended drops its registers, and nothing else changes
abbrev pub DropsIfEnded : View → View → ℕ → Mode → Type 0
DropsIfEnded v w t (Ended e) = HasDropped v w t
DropsIfEnded v w t mode = w ≡ v

-- a thread got the reply to its next operation
pub record ThreadTold (told : Bool) (v w : View) (t : ℕ) (s after : ThreadState) : Type 0 where
  pub op : Op
  pub reply : Reply
  pub next : s.op ≡ Some op
  pub takes : TakesReply s after reply
  pub history : (act : Option Act) × (w.log ≡ with_entry t v.log act)
  pub answers : told ≡ true → (registers : List Value) × Answers t v.log (values_of v t) op reply w.log registers
      × (IsEnded after.mode ⊎ (registers ≡ values_of w t))
  pub dropped : IsEnded after.mode → values_of w t ≡ replicate 16 Nil
  pub call : call_of w t ≡ None
  pub not_due : owes_silent s.mode ≡ false
  pub no_collect : MayGo s.mode → op ≢ Collect

-- What an event needs of its thread: the call in flight is of its next operation, and there is room for its reply and
-- its entry. Over some disk with this end the words are well formed.
pub record IsReady (finish : ℕ) (v : View) (t : ℕ) (s : ThreadState) : Type 0 where
  pub disk : OnDisk
  pub ends : disk.end ≡ finish
  pub stands : Standing false disk v
  pub thread : t < length v.held
  pub forwards : length v.forward ≤ most_forwards
  pub call : (c : Call) → call_of v t ≡ Some c → (s.mode ≡ Running) × (s.op ≡ Some c.op) × (c.op ≢ Collect)
  pub fits : FitsMode s.mode s.op
  pub in_range : IfSome s.op (InRange (length v.globals))
  pub ranges : s.cursor.globals ≡ length v.globals
  pub none_left : s.op ≡ None → s.cursor.operations ≡ []
  pub room : IsSome s.op → length s.replies.items < vec_capacity s.replies
  pub entries : IsSome s.op → HasRoomForEntry v
  pub few : length v.log < 2 ^ 32

-- one event of a thread, over a disk, told or not
pub record ThreadStep (told : Bool) (disk : OnDisk) (v w : View) (t : ℕ) (s after : ThreadState) : Type 0 where
  pub stands : Standing told disk w
  pub others : KeepsOthers v w t
  pub what : ((mode : Mode) × ThreadWaits v w t s after mode)
      ⊎ (ThreadGoes v w t s after ⊎ (ThreadRefused v w t s after
      ⊎ (ThreadLost told disk.end v w t s after ⊎ ThreadTold told v w t s after)))

-- and so over each disk that is seen so
abbrev pub TakesTurn : ℕ → Option (List ℕ) → View → View → ℕ → ThreadState → ThreadState → Type 0
TakesTurn finish image v w t s after = (told : Bool) (disk : OnDisk)
    → Underlies told finish image disk → Standing told disk v
    → ThreadStep told disk v w t s after

-- A new epoch, in which all stands as before: history, values and registers, and no call is in flight.
pub record Renewed (told : Bool) (disk : OnDisk) (v w : View) : Type 0 where
  pub stands : Standing told disk w
  pub quiet : IsQuiet w
  pub globals : length w.globals ≡ length v.globals
  pub words : length w.space.list ≡ length v.space.list
  pub forwards : length w.forward ≡ length v.forward
  pub threads : length w.held ≡ length v.held
  pub capacity : w.capacity ≡ v.capacity
  pub history : w.log ≡ v.log
  pub values : (t : ℕ) → values_of w t ≡ values_of v t

-- What a run knows of the stop word: it is set exactly where a thread waits, and only there calls are refused for it.
pub record KnowsStop (v : View) (states : List ThreadState) : Type 0 where
  pub waits : (t : ℕ) (s : ThreadState) → slice_get states t ≡ Some s → Waits s.mode → v.stop ≡ true
  pub stop : v.stop ≡ true → (t : ℕ) × ((s : ThreadState) × (slice_get states t ≡ Some s) × Waits s.mode)
  pub asked : (t : ℕ) (s : ThreadState) → slice_get states t ≡ Some s → s.mode ≡ Asked → v.stop ≡ true

-- what an event of a thread does to the stop word
pub record SetsStop (v w : View) (after : ThreadState) : Type 0 where
  pub waits : Waits after.mode → w.stop ≡ true
  pub stop : w.stop ≡ true → (v.stop ≡ true) ⊎ Waits after.mode
  pub stays : v.stop ≡ true → w.stop ≡ true
  pub asked : after.mode ≡ Asked → w.stop ≡ true

-- How many events a thread has at most before it waits or gets its reply.
abbrev pub turn_left : Mode → Option Call → ℕ
turn_left Running call = 1 + events_left most_forwards (stage_in call)
turn_left Due call = 1
turn_left mode call = 0

-- All threads together. It gets smaller with each event and with each safepoint.
abbrev pub potential : List ThreadState → List (Option Call) → ℕ
potential [] calls = 0
potential (s ∷ states) [] = 2000000 * jobs s.mode (length (left s)) + turn_left s.mode None + potential states []
potential (s ∷ states) (c ∷ calls) =
    2000000 * jobs s.mode (length (left s)) + turn_left s.mode c + potential states calls
