-- What a call of a thread comes to.
use Rattle.std.specs.Prelude.{◌≡◌, ◌⊎◌, ℕ, ◌+◌, ◌<◌, ◌≤◌, true, false, List, ◌++◌, length, None, Some}
use Rattle.std.specs.Prelude.{Result, Ok, Err, IfErr}
use Rattle.atomic_table.specs.declared.shared.Seat.{Seat}
use Rattle.melt_model.specs.History.{Legal, made}
use Rattle.melt_model.specs.Thread.{own, value_in}
use Rattle.melt_model.specs.declared.history.Act.TheVariants.{Make}
use Rattle.melt_model.specs.declared.history.Entry.{Entry}
use Rattle.melt_model.specs.declared.history.Value.{Value}
use Rattle.melt_model.specs.declared.operations.Op.{Op}
use Rattle.melt_model.specs.declared.operations.Reply.{Reply}
use Rattle.melt_model.specs.declared.operations.Reply.TheVariants.{Nil, Range}
use Rattle.melt_word.specs.Words.{cost_of}
use Rattle.melt_word.specs.declared.header.Shape.{Shape}
use Rattle.melt_core.specs.Answering.{Answers}
use Rattle.melt_core.specs.Stages.{LooksAtStop}
use Rattle.melt_core.specs.declared.answer.Pause.TheVariants.{Asked, Space}
use Rattle.melt_core.specs.declared.answer.Refusal.{Refusal}
use Rattle.melt_core.specs.declared.answer.Refusal.TheVariants.{Pause}
use Rattle.melt_rule.specs.Making.{FirstFree}
use Rattle.melt_rule.specs.Rule.{Has, has_cause}
use Rattle.melt_rule.specs.Seats.{knows_of}
use Rattle.melt_rule.specs.Tells.{Adds, HasAll, Polls, Sees, Since, view_after, caused}
use Rattle.melt_rule.specs.declared.view.Doing.{Doing}
use Rattle.melt_rule.specs.declared.view.Doing.TheVariants.{Claimed}
use Rattle.melt_rule.specs.declared.view.View.{View}
use Rattle.melt_epoch.specs.Mutators.{with_reference}
use Rattle.melt_epoch.specs.declared.mutator.Mutator.{Mutator}

-- A call was answered. After all that was seen before and what others added since, history, registers and reply are
-- those that the operation has by its meaning, where the epoch is told. Told or not, it has one entry at most.
pub record Replies (v w : View) (old new : List Value) (o : Op) (reply : Reply) : Type 0 where
  pub between : List Entry
  pub answers : v.began.told ≡ true → Answers v.thread (v.seen ++ between) old o reply w.seen new
  pub legal : v.began.told ≡ true → Legal w.seen v.began.globals
  pub since : Since v.began w.seen
  pub own_same : own (v.seen ++ between) v.thread ≡ own v.seen v.thread
  pub own_few : length (own w.seen v.thread) ≤ length (own v.seen v.thread) + 1

-- A call was answered, or refused, which leaves the registers and has no entry.
abbrev pub Comes : View → View → List Value → List Value → Op → Result Reply Refusal → Type 0
Comes v w old new o (Ok reply) = Replies v w old new o reply
Comes v w old new o (Err refusal) = Sees v w.seen × (new ≡ old)

-- What a call leaves of the causes and counts of its seat: it claimed so many words, and won so many commits, in at
-- most so many steps, all of which are counted. It may know more.
pub record Counts (v w : View) (words wins most : ℕ) : Type 0 where
  pub thread : w.thread ≡ v.thread
  pub parts : w.parts ≡ v.parts
  pub away : w.away ≡ v.away
  pub began : w.began ≡ v.began
  pub known : HasAll v.known w.known
  pub asked : w.asked ≡ v.asked
  pub spaced : w.spaced ≡ v.spaced
  pub forwarded : w.forwarded ≡ v.forwarded
  pub claimed : w.claimed ≡ v.claimed + words
  pub over : w.over ≡ v.over
  pub won : w.won ≡ v.won + wins
  pub steps : w.steps ≤ v.steps + most
  pub counted : v.steps ≤ w.steps

-- The words that the call claimed, from the first free place that it found on, end past the last one: it has the cause
-- space since.
pub record Lacked (v w : View) (need most : ℕ) : Type 0 where
  pub thread : w.thread ≡ v.thread
  pub parts : w.parts ≡ v.parts
  pub away : w.away ≡ v.away
  pub began : w.began ≡ v.began
  pub known : HasAll v.known w.known
  pub asked : w.asked ≡ v.asked
  pub spaced : w.spaced ≡ true
  pub forwarded : w.forwarded ≡ v.forwarded
  pub claimed : w.claimed ≡ v.claimed + need
  pub over : w.over ≡ v.over + 1
  pub won : w.won ≡ v.won
  pub steps : w.steps ≤ v.steps + most
  pub counted : v.steps ≤ w.steps
  pub found : ℕ
  pub first : FirstFree v found
  pub past : v.began.size + 1 < found + need

-- All forwarding words send other homes: the call has the cause forward since. It may have claimed words before.
pub record Filled (v w : View) (words most : ℕ) : Type 0 where
  pub thread : w.thread ≡ v.thread
  pub parts : w.parts ≡ v.parts
  pub away : w.away ≡ v.away
  pub began : w.began ≡ v.began
  pub known : HasAll v.known w.known
  pub asked : w.asked ≡ v.asked
  pub spaced : w.spaced ≡ v.spaced
  pub forwarded : w.forwarded ≡ true
  pub claimed : w.claimed ≡ v.claimed + words
  pub over : w.over ≡ v.over
  pub won : w.won ≡ v.won
  pub steps : w.steps ≤ v.steps + most
  pub counted : v.steps ≤ w.steps

-- On its way the call came to this: it has no entry yet.
pub record IsOnItsWay (v w : View) (words wins most : ℕ) (doing : Doing) : Type 0 where
  pub sees : Sees v w.seen
  pub counts : Counts v w words wins most
  pub at : w.doing ≡ Some doing

-- The call was refused as its first step, which was its only one, found the stop word set.
abbrev pub WasAsked : View → View → Refusal → Type 0
WasAsked v w refusal = (refusal ≡ Pause Asked) × Polls v w true

-- A call that claims no words: what it comes to, which it does in so many steps, and why it is refused. Only an
-- operation that looks at the stop word is.
pub record Plain (v w : View) (old new : List Value) (o : Op) (steps : ℕ) (result : Result Reply Refusal) : Type 0 where
  pub comes : Comes v w old new o result
  pub counts : Counts v w 0 0 steps
  pub refused : IfErr result (WasAsked v w)
  pub looks : IfErr result (λ refusal. LooksAtStop (value_in old) o)

-- the same of the seats of a mutator before and after, which else stays
abbrev pub IsPlain : {R : Type 0} → Mutator R → Mutator R → Op → ℕ → Result Reply Refusal → Type 0
IsPlain m n o steps result = (n ≡ record m { seat = n.seat })
    × ((s t : Seat ℕ View) → m.seat ≡ Some s → n.seat ≡ Some t
    → Plain (knows_of s) (knows_of t) m.values n.values o steps result)

-- So many words of the own region after its first were filled.
abbrev pub FillsRegion : View → View → ℕ → ℕ → Type 0
FillsRegion v w address stored = (z : Shape) → v.doing ≡ Some (Claimed address z 0)
    → IsOnItsWay v w 0 0 stored (Claimed address z stored)

-- An object of this shape was made at the address.
pub record Made (v w : View) (z : Shape) (address : ℕ) : Type 0 where
  pub adds : Adds v w.seen (Make z.refs z.nums)
  pub counts : Counts v w (cost_of z) 0 (cost_of z + 2)
  pub names : Has w.known address (made (v.seen ++ adds.between))

-- Its words end past the last one, so that the call was refused.
pub record LacksRoomToMake (v w : View) (z : Shape) (refusal : Refusal) : Type 0 where
  pub is : refusal ≡ Pause (Space (cost_of z))
  pub sees : Sees v w.seen
  pub lacked : Lacked v w (cost_of z) 3

-- The call found the stop word set.
pub record Asks (v w : View) (refusal : Refusal) : Type 0 where
  pub was : WasAsked v w refusal
  pub sees : Sees v w.seen
  pub counts : Counts v w 0 0 1

-- what a call that makes an object comes to, by its address
abbrev pub Makes : View → View → Shape → Result ℕ Refusal → Type 0
Makes v w z (Ok address) = Made v w z address
Makes v w z (Err refusal) = Asks v w refusal ⊎ LacksRoomToMake v w z refusal

-- And by the registers.
abbrev pub MakesFor : View → View → List Value → List Value → Op → Shape → Result Reply Refusal → Type 0
MakesFor v w old new o z (Ok reply) = Replies v w old new o reply × Counts v w (cost_of z) 0 (cost_of z + 2)
MakesFor v w old new o z (Err refusal) = (new ≡ old) × (Asks v w refusal ⊎ LacksRoomToMake v w z refusal)

-- and by the mutator, whose thread and reader stay
abbrev pub IsMade : {R : Type 0} → Mutator R → Mutator R → Op → Shape → Result Reply Refusal → Type 0
IsMade m n o z result = (n.thread ≡ m.thread) × (n.reader ≡ m.reader)
    × ((s t : Seat ℕ View) → m.seat ≡ Some s → n.seat ≡ Some t
    → MakesFor (knows_of s) (knows_of t) m.values n.values o z result)

-- What a call leaves of its mutator, but for the seat and the reader: one that was answered lets this register hold an
-- address, and stand for a value, and changes no other; one that was refused changes none.
abbrev pub HoldsOnly : {R : Type 0} → Mutator R → Mutator R → ℕ → Result Reply Refusal → Type 0
HoldsOnly m n dst (Ok Nil) = n ≡ record m { seat = n.seat; reader = n.reader }
HoldsOnly m n dst (Ok Range) = n ≡ record m { seat = n.seat; reader = n.reader }
HoldsOnly m n dst (Ok answer) =
    (address : ℕ) × (value : Value)
    × (n ≡ with_reference (record m { seat = n.seat; reader = n.reader }) dst address value)
HoldsOnly m n dst (Err refusal) = n ≡ record m { seat = n.seat; reader = n.reader }

-- The thread asked all to stop, by one step. It has that cause, where it had none.
pub record HasAsked (v w : View) : Type 0 where
  pub sees : Sees v w.seen
  pub is : w ≡ caused (view_after v w.seen v.known None)
  pub thread : w.thread ≡ v.thread
  pub began : w.began ≡ v.began
  pub known : w.known ≡ v.known
  pub cause : (has_cause v ≡ true → w.asked ≡ v.asked) × (has_cause v ≡ false → w.asked ≡ true)
  pub spaced : w.spaced ≡ v.spaced
  pub forwarded : w.forwarded ≡ v.forwarded
  pub claimed : w.claimed ≡ v.claimed
  pub over : w.over ≡ v.over
  pub won : w.won ≡ v.won
  pub steps : w.steps ≡ v.steps + 1

-- the same of the seats of a mutator before and after, which else stays
abbrev pub IsAsked : {R : Type 0} → Mutator R → Mutator R → Type 0
IsAsked m n = (n ≡ record m { seat = n.seat })
    × ((s t : Seat ℕ View) → m.seat ≡ Some s → n.seat ≡ Some t → HasAsked (knows_of s) (knows_of t))
