-- What a thread does next, or waits for.
use Rattle.std.specs.Prelude.{◌≡◌, ◌≢◌, ℕ, ◌+◌, ◌*◌, Bool, true, false, if◌then◌else◌, Option, None, Some, IfSome, IsSome}
use Rattle.melt_model.specs.declared.operations.Op.{Op}
use Rattle.melt_model.specs.declared.operations.Op.TheVariants.{Collect}
use Rattle.melt_model.specs.declared.reports.ThreadEnd.TheVariants as end
use Rattle.melt_core.specs.declared.answer.Pause.TheVariants as pause
use Rattle.melt_core.specs.declared.answer.Refusal.{Refusal}
use Rattle.melt_core.specs.declared.answer.Refusal.TheVariants as refusal
use Rattle.melt_safepoint.specs.declared.thread.Mode.{Mode}
use Rattle.melt_safepoint.specs.declared.thread.Mode.TheVariants.{Running, Due, Silent, Collecting, Asked, Lacking}
use Rattle.melt_safepoint.specs.declared.thread.Mode.TheVariants.{Ended}
use Rattle.melt_safepoint.specs.Needs.{CanLackRoom}
use Rattle.melt_safepoint.specs.Run.{is_lost}

-- a thread that neither waits nor has ended
abbrev pub MayGo : Mode → Type 0
MayGo Running = Unit {0}
MayGo Due = Unit {0}
MayGo mode = ⊥

abbrev pub IsEnded : Mode → Type 0
IsEnded (Ended e) = Unit {0}
IsEnded mode = ⊥

-- a thread has ended for want of room
abbrev pub HadNoRoom : Mode → Type 0
HadNoRoom (Ended (end.OutOfHeap held_words need)) = Unit {0}
HadNoRoom mode = ⊥

-- What the mode of a thread says of its next operation: one that runs has one; one that waits for its own collection
-- has that; one that was asked to stop has another, and one that lacked room one that can.
abbrev pub FitsMode : Mode → Option Op → Type 0
FitsMode Running op = IsSome op
FitsMode Due op = Unit {0}
FitsMode Silent op = Unit {0}
FitsMode Collecting op = op ≡ Some Collect
FitsMode Asked op = IsSome op × (op ≢ Some Collect)
FitsMode Lacking op = IsSome op × (op ≢ Some Collect) × IfSome op CanLackRoom
FitsMode (Ended e) op = Unit {0}

-- a thread has a silent collection still to come
abbrev pub owes_silent : Mode → Bool
owes_silent Due = true
owes_silent Silent = true
owes_silent mode = false

-- and so as a number, 1 for such a thread and else 0
abbrev pub owes : Mode → ℕ
owes mode = if owes_silent mode then 1 else 0

-- how a thread goes on whose call paused for this cause, or whose record was not read, or is none
abbrev pub mode_for : Refusal → Mode
mode_for (refusal.Pause pause.Asked) = Asked
mode_for (refusal.Pause (pause.Space need)) = Lacking
mode_for (refusal.Pause pause.Forward) = Lacking
mode_for refusal.DiskFault = Ended end.DiskFault
mode_for (refusal.Damaged damaged) = Ended (end.Damaged damaged.home damaged.at damaged.word)

-- the words for want of which a call was refused, if it was
abbrev pub words_lacked_by : Refusal → Option ℕ
words_lacked_by (refusal.Pause (pause.Space need)) = Some need
words_lacked_by why = None

-- a thread has ended as it could not read the disk
abbrev pub lost_mode : Mode → Bool
lost_mode (Ended e) = is_lost e
lost_mode mode = false

-- and so as a number, 1 for such a thread and else 0
abbrev pub lost : Mode → ℕ
lost mode = if lost_mode mode then 1 else 0

-- a thread waits for a collection of its own
abbrev pub ForCollection : Mode → Type 0
ForCollection Silent = Unit {0}
ForCollection Collecting = Unit {0}
ForCollection mode = ⊥

-- how many collections a thread waits for
abbrev pub collections_for : Mode → ℕ
collections_for Silent = 1
collections_for Collecting = 1
collections_for mode = 0

-- a thread waits for a collection of its own, or for room
abbrev pub Waits : Mode → Type 0
Waits Lacking = Unit {0}
Waits mode = ForCollection mode

-- the call of a thread was refused, and is to be made again
abbrev pub CallsAgain : Mode → Type 0
CallsAgain Asked = Unit {0}
CallsAgain Lacking = Unit {0}
CallsAgain mode = ⊥

-- a thread waits, for whatever
abbrev pub IsPaused : Mode → Type 0
IsPaused Asked = Unit {0}
IsPaused mode = Waits mode

-- what a thread has still to do: two for each operation, one for a silent collection, one for its end
abbrev pub jobs : Mode → ℕ → ℕ
jobs (Ended e) count = 0
jobs Due count = 2 + 2 * count
jobs Silent count = 2 + 2 * count
jobs mode count = 1 + 2 * count

-- how a thread has ended that is halted, unless it had ended before
abbrev pub halted_mode : Mode → Mode
halted_mode (Ended e) = Ended e
halted_mode m = Ended end.Halted
