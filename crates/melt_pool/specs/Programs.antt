-- A thread of a run by real threads, in an epoch: its operations and replies, and what its seat knows.
use Rattle.std.specs.Prelude.{◌≡◌, ◌≢◌, ◌⊎◌, ℕ, ◌+◌, ◌*◌, ◌%◌, ◌≤◌, Bool, true, List, [], ◌++◌, length, take, drop}
use Rattle.std.specs.Prelude.{replicate}
use Rattle.std.specs.Prelude.{None, Some, IfSome, Result, Ok, Err, vec_capacity}
use Rattle.std.specs.List.{count_by}
use Rattle.melt_model.specs.Standing.{Stands}
use Rattle.melt_model.specs.Thread.{own, value_in}
use Rattle.melt_model.specs.declared.config.Config.{Config}
use Rattle.melt_model.specs.declared.history.Entry.{Entry}
use Rattle.melt_model.specs.declared.history.Value.{Value}
use Rattle.melt_model.specs.declared.history.Value.TheVariants.{Nil}
use Rattle.melt_model.specs.declared.operations.Reply.{Reply}
use Rattle.melt_model.specs.declared.reports.ThreadEnd.TheVariants as end
use Rattle.melt_trace.specs.Grammar.{InRange}
use Rattle.melt_trace.specs.Script.{Script, operations}
use Rattle.melt_core.specs.Stages.{LooksAtStop}
use Rattle.melt_core.specs.declared.answer.Refusal.{Refusal}
use Rattle.melt_rule.specs.Rule.{has_cause}
use Rattle.melt_rule.specs.Seats.{EpochWords}
use Rattle.melt_epoch.specs.Ends.{view_of}
use Rattle.melt_epoch.specs.Mutators.{IsSeated, with_none}
use Rattle.melt_epoch.specs.declared.mutator.Mutator.{Mutator}
use Rattle.melt_safepoint.specs.Modes.{CallsAgain, FitsMode, ForCollection, IsEnded, Waits, mode_for, owes, owes_silent}
use Rattle.melt_safepoint.specs.Asked.{is_collect, silent_in}
use Rattle.melt_safepoint.specs.Run.{LoadsNext, WasRead}
use Rattle.melt_safepoint.specs.Threads.{jobs_of, left, TakesReply}
use Rattle.melt_safepoint.specs.declared.thread.Mode.{Mode}
use Rattle.melt_safepoint.specs.declared.thread.Mode.TheVariants.{Running, Due, Asked, Lacking, Ended}
use Rattle.melt_safepoint.specs.declared.thread.ThreadState.{ThreadState}

-- A thread of the script has replies to its first operations, and the others are to come. There is room for their
-- replies.
pub record ProgramStands (script : Script) (t : ℕ) (s : ThreadState) : Type 0 where
  pub to_come : left s ≡ drop (length s.replies.items) (operations script t)
  pub within : length s.replies.items + length (left s) ≡ length (operations script t)
  pub none_left : s.op ≡ None → s.cursor.operations ≡ []
  pub fits : FitsMode s.mode s.op
  pub in_range : IfSome s.op (InRange script.globals)
  pub globals : s.cursor.globals ≡ script.globals
  pub room : length s.replies.items + length (left s) ≤ vec_capacity s.replies

-- What the thread was told stands in a history: these replies to its first operations. What it holds by them are these
-- values, until it ends.
pub record RepliesStandIn (script : Script) (h : List Entry) (t : ℕ) (s : ThreadState) (values : List Value) : Type 0
  where
    pub registers : List Value
    pub stands : Stands h t (take (length s.replies.items) (operations script t)) s.replies.items registers
    pub in_registers : IsEnded s.mode ⊎ (registers ≡ values)

-- A thread in an epoch. What it was told stands in what its seat has seen, where the epoch is told. One that has ended
-- holds nothing. One whose seat has a cause to stop waits for that, and one that was asked to stop found the stop word
-- set. One whose call is to be made again looks at the stop word by it.
pub record Works {R : Type 0} (script : Script) (words : EpochWords) (m : Mutator R) (s : ThreadState) : Type 0 where
  pub seated : IsSeated words m
  pub program : ProgramStands script m.thread s
  pub replies_stand : words.start.began.told ≡ true → RepliesStandIn script (view_of m).seen m.thread s m.values
  pub dropped : IsEnded s.mode → m.values ≡ replicate 16 Nil
  pub waits : has_cause (view_of m) ≡ true → Waits s.mode
  pub asked : s.mode ≡ Asked → (view_of m).stopped ≡ true
  pub looks : CallsAgain s.mode → IfSome s.op (LooksAtStop (value_in m.values))
  pub globals : words.start.began.globals ≡ script.globals

-- Why a thread may have ended in an epoch, over a disk that ends at this word, and what its reader has counted then.
abbrev pub EndsWell : Bool → ℕ → Script → ℕ → ℕ → ℕ → Mode → Type 0
EndsWell told finish script t count faults (Ended end.Done) = count ≡ length (operations script t)
EndsWell told finish script t count faults (Ended (end.OutOfHeap held_words need)) = ⊥
EndsWell told finish script t count faults (Ended end.DiskFault) = LoadsNext script t count × (1 ≤ faults)
EndsWell told finish script t count faults (Ended (end.Damaged home at word)) =
    (told ≡ true → ⊥) × LoadsNext script t count
    × ((config : Config) → finish ≤ config.disk → WasRead config home at word)
EndsWell told finish script t count faults (Ended end.Halted) = ⊥
EndsWell told finish script t count faults mode = Unit {0}

-- the same of a thread and its reader
abbrev pub HasEndedWell : {R : Type 0} → (R → ℕ) → Bool → ℕ → Script → Mutator R → ThreadState → Type 0
HasEndedWell {R} faults told finish script m s = (q : R) → m.reader ≡ Some q
    → EndsWell told finish script m.thread (length s.replies.items) (faults q) s.mode

-- A thread takes what its call came to: the reply, or why it was refused.
abbrev pub Took : ThreadState → ThreadState → Result Reply Refusal → Type 0
Took s after (Ok reply) = TakesReply s after reply
Took s after (Err refusal) = after ≡ record s { mode = mode_for refusal }

-- how many `collect`s of a thread were answered
abbrev pub collects_in : Script → ℕ → ThreadState → ℕ
collects_in script t s = count_by is_collect (take (length s.replies.items) (operations script t))

-- From here to there no silent collection was made for a thread: it has those still to come that it had, and one for
-- each that its replies since brought.
abbrev pub OwesSilent : ℕ → ThreadState → ThreadState → Type 0
OwesSilent every s after = silent_in every (length after.replies.items) + owes s.mode
    ≡ silent_in every (length s.replies.items) + owes after.mode

-- a silent collection is due after so many replies
abbrev pub IsDueAfter : ℕ → ℕ → Type 0
IsDueAfter every count = (every ≢ 0) × (count ≢ 0) × (count % every ≡ 0)

-- a silent collection is still to come for a thread only where one was to come before, with the same replies, or where
-- its last reply brought one
abbrev pub DueOnly : ℕ → ThreadState → ThreadState → Type 0
DueOnly every s after = owes_silent after.mode ≡ true
    → ((owes_silent s.mode ≡ true) × (after.replies.items ≡ s.replies.items))
    ⊎ IsDueAfter every (length after.replies.items)

-- A thread went on in an epoch: it has the replies that it had, and perhaps more. No `collect` was answered, and no
-- silent collection made. It has no more to do than before, and no more entries than replies since.
pub record ThreadWentOn {R : Type 0} (every : ℕ) (script : Script) (m n : Mutator R) (s after : ThreadState) : Type 0
  where
    pub thread : n.thread ≡ m.thread
    pub extra : List Reply
    pub grows : after.replies.items ≡ s.replies.items ++ extra
    pub owes : OwesSilent every s after
    pub due : DueOnly every s after
    pub collects : collects_in script m.thread after ≡ collects_in script m.thread s
    pub less : jobs_of after ≤ jobs_of s
    pub entries : length (own (view_of n).seen m.thread) + length s.replies.items
        ≤ length (own (view_of m).seen m.thread) + length after.replies.items

-- a thread that waits now, and did not wait for a collection of its own before, has a seat with a cause to stop
abbrev pub WaitsByCause : {R : Type 0} → Mode → Mode → Mutator R → Type 0
WaitsByCause before after n = (ForCollection before → ⊥) → Waits after → has_cause (view_of n) ≡ true

-- the mutator of a thread that goes on in this mode: one that has ended holds nothing
abbrev pub dropped_for : {R : Type 0} → Mode → Mutator R → Mutator R
dropped_for (Ended e) m = with_none m
dropped_for mode m = m

-- a call that was refused in an epoch before is made again
abbrev pub mode_again : Mode → Mode
mode_again Asked = Running
mode_again Lacking = Running
mode_again mode = mode

abbrev pub made_again : ThreadState → ThreadState
made_again s = record s { mode = mode_again s.mode }

-- 1 for a thread that neither waits nor has ended
abbrev pub one_going : Mode → ℕ
one_going Running = 1
one_going Due = 1
one_going mode = 0

-- how much a thread has still to do before it waits or has ended
abbrev pub turns_left : ThreadState → ℕ
turns_left s = 2 * length (left s) + one_going s.mode
