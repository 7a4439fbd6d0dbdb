-- The threads of a run between two events.
use Rattle.std.specs.Prelude.{◌≡◌, ◌≢◌, ℕ, zero, suc, ◌%◌, ◌<◌, ◌≤◌, true, List, [], ◌∷◌, ◌++◌, length, map, sum}
use Rattle.std.specs.Prelude.{slice_get, vec_capacity, Option, None, Some, IfSome, IsSome, ◌⊎◌, ◌↔◌}
use Rattle.melt_model.specs.declared.operations.Op.{Op}
use Rattle.melt_model.specs.declared.operations.Op.TheVariants.{Collect}
use Rattle.melt_model.specs.declared.operations.Reply.{Reply}
use Rattle.melt_model.specs.declared.reports.ThreadEnd.TheVariants as end
use Rattle.melt_trace.specs.Grammar.{InRange}
use Rattle.melt_trace.specs.Script.{Script, operations}
use Rattle.melt_safepoint.specs.declared.thread.Mode.{Mode}
use Rattle.melt_safepoint.specs.declared.thread.Mode.TheVariants.{Running, Due, Ended}
use Rattle.melt_safepoint.specs.declared.thread.ThreadState.{ThreadState}
use Rattle.melt_safepoint.specs.Modes.{IsEnded, owes_silent, owes, collections_for, MayGo, IsPaused, jobs, halted_mode}

-- the next operation, if there is one, and those after it
abbrev pub with_first : Option Op → List Op → List Op
with_first None ops = ops
with_first (Some o) ops = o ∷ ops

-- the operations of a thread that have no reply yet
abbrev pub left : ThreadState → List Op
left s = with_first s.op s.cursor.operations

-- the replies of all threads
abbrev pub replies_of : List ThreadState → ℕ → List Reply
replies_of [] t = []
replies_of (s ∷ states) zero = s.replies.items
replies_of (s ∷ states) (suc t) = replies_of states t

-- the last reply of a thread was that to a collection
abbrev pub HadCollect : Script → ℕ → ThreadState → Type 0
HadCollect script t s = (k : ℕ) × (length s.replies.items ≡ suc k) × (slice_get (operations script t) k ≡ Some Collect)

-- a thread has a silent collection still to come only where its last reply was that to a collection
abbrev pub OweAfterCollects : Script → List ThreadState → Type 0
OweAfterCollects script states = (t : ℕ) (s : ThreadState) → slice_get states t ≡ Some s → owes_silent s.mode ≡ true
    → HadCollect script t s

-- how many threads have a silent collection still to come
abbrev pub owing : List ThreadState → ℕ
owing states = sum (map (λ (s : ThreadState). owes s.mode) states)

-- how many replies all threads are still to get
abbrev pub to_reply : List ThreadState → ℕ
to_reply states = sum (map (λ (s : ThreadState). length (left s)) states)

-- Each thread has its replies and perhaps more, and one that has ended has no more.
pub record Later (states after : List ThreadState) : Type 0 where
  pub count : length after ≡ length states
  pub replies : (t : ℕ) → (extra : List Reply) × (replies_of after t ≡ replies_of states t ++ extra)
  pub ended : (t : ℕ) (s : ThreadState) → slice_get states t ≡ Some s → IsEnded s.mode → slice_get after t ≡ Some s

-- no heap has more forwarding words
abbrev pub most_forwards : ℕ
most_forwards = 65536

-- a thread goes on with its next operation, or has ended without one
abbrev pub RunsOrEnds : ThreadState → ThreadState → Type 0
RunsOrEnds s after = (IsSome s.op × (after ≡ record s { mode = Running }))
    ⊎ ((s.op ≡ None) × (after ≡ record s { mode = Ended end.Done }))

-- What a reply leaves of a thread. If it has ended with it, its registers hold nothing.
pub record TakesReply (s after : ThreadState) (reply : Reply) : Type 0 where
  pub replies : after.replies.items ≡ s.replies.items ++ reply ∷ []
  pub to_come : left after ≡ s.cursor.operations
  pub none_left : after.op ≡ None → after.cursor.operations ≡ []
  pub fits : (after.mode ≡ Running) × IsSome after.op
      ⊎ ((after.mode ≡ Due) ⊎ ((after.mode ≡ Ended end.Done) × (left after ≡ [])))
  pub in_range : IfSome after.op (InRange s.cursor.globals)
  pub globals : after.cursor.globals ≡ s.cursor.globals
  pub capacity : vec_capacity after.replies ≡ vec_capacity s.replies

-- Where a thread got a reply, a silent collection is due exactly where the number of its replies is a multiple of this
-- number, and the number is not 0.
abbrev pub DueBy : ℕ → ThreadState → ThreadState → Type 0
DueBy every s after = after.replies.items ≢ s.replies.items
    → ((after.mode ≡ Due) ↔ ((every ≢ 0) × (length after.replies.items % every ≡ 0)))

-- A thread before its first event.
pub record IsNewThread (ops : List Op) (globals : ℕ) (s : ThreadState) : Type 0 where
  pub to_come : left s ≡ ops
  pub none_left : s.op ≡ None → s.cursor.operations ≡ []
  pub replies : s.replies.items ≡ []
  pub capacity : length ops ≤ vec_capacity s.replies
  pub mode : ((s.mode ≡ Running) × IsSome s.op) ⊎ ((s.mode ≡ Ended end.Done) × (left s ≡ []))
  pub in_range : IfSome s.op (InRange globals)
  pub knows : s.cursor.globals ≡ globals

-- the threads of a script before their first events, and how many operations they have together
pub record AreNewThreads (script : Script) (states : List ThreadState) (amount : ℕ) : Type 0 where
  pub count : length states ≡ length script.programs
  pub each : (t : ℕ) (s : ThreadState) → slice_get states t ≡ Some s
      → IsNewThread (operations script t) script.globals s
  pub entries : amount ≡ to_reply states
  pub few : to_reply states ≤ 8388608

-- how many collections all threads wait for
abbrev pub collections_due : List ThreadState → ℕ
collections_due states = sum (map (λ (s : ThreadState). collections_for s.mode) states)

-- some thread has not ended
abbrev pub SomeGoesOn : List ThreadState → Type 0
SomeGoesOn states = (t : ℕ) × ((s : ThreadState) × (slice_get states t ≡ Some s) × (IsEnded s.mode → ⊥))

-- no thread can go on
abbrev pub AllWait : List ThreadState → Type 0
AllWait states = (t : ℕ) (s : ThreadState) → slice_get states t ≡ Some s → MayGo s.mode → ⊥

-- no thread below this one waits for a collection of its own
abbrev pub NoneBelow : (Mode → Type 0) → List ThreadState → ℕ → Type 0
NoneBelow Is states t = (u : ℕ) (s : ThreadState) → u < t → slice_get states u ≡ Some s → Is s.mode → ⊥

-- no thread waits
abbrev pub NoneWaits : List ThreadState → Type 0
NoneWaits states = (t : ℕ) (s : ThreadState) → slice_get states t ≡ Some s → IsPaused s.mode → ⊥

-- what a thread has still to do
abbrev pub jobs_of : ThreadState → ℕ
jobs_of s = jobs s.mode (length (left s))

-- a thread that has not ended is halted
abbrev pub halted : ThreadState → ThreadState
halted s = record s { mode = halted_mode s.mode }

-- and so all threads
abbrev pub AreHalted : List ThreadState → List ThreadState → Type 0
AreHalted states after = after ≡ map halted states

-- all threads have ended
abbrev pub AllEnded : List ThreadState → Type 0
AllEnded states = (t : ℕ) (s : ThreadState) → slice_get states t ≡ Some s → IsEnded s.mode
