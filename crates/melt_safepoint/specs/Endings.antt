-- Why the threads of a run have ended, while it goes on, and at which moments its collections were made.
use Rattle.std.specs.Prelude.{◌≡◌, ℕ, zero, suc, ◌≤◌, Bool, true, false, List, [], ◌∷◌, length, slice_get, Some, ◌⊎◌}
use Rattle.melt_model.specs.declared.config.Config.{Config}
use Rattle.melt_model.specs.declared.history.Entry.{Entry}
use Rattle.melt_model.specs.declared.reports.Journal.{Journal}
use Rattle.melt_model.specs.declared.reports.ThreadEnd.TheVariants as end
use Rattle.melt_trace.specs.Script.{Script, operations}
use Rattle.melt_record.specs.declared.damage.Damaged.{Damaged}
use Rattle.melt_core.specs.declared.answer.Refusal.{Refusal}
use Rattle.melt_core.specs.declared.answer.Refusal.TheVariants as refusal
use Rattle.melt_core.specs.StaleBits.{Sight}
use Rattle.melt_safepoint.specs.declared.thread.Mode.{Mode}
use Rattle.melt_safepoint.specs.declared.thread.Mode.TheVariants.{Ended}
use Rattle.melt_safepoint.specs.declared.thread.ThreadState.{ThreadState}
use Rattle.melt_safepoint.specs.Cuts.{Occasion, AreMoments, Cut, HadOwn, IsAmong, IsDue, Moment, NotAfter}
use Rattle.melt_safepoint.specs.Run.{LoadsNext, WasRead}
use Rattle.melt_safepoint.specs.Modes.{IsEnded, MayGo}
use Rattle.melt_safepoint.specs.Staying.{KeepsBits}
use Rattle.melt_safepoint.specs.Threads.{replies_of}

-- whether a thread has ended; and so of one of the run, where those that it lacks have
abbrev pub has_gone : Mode → Bool
has_gone (Ended e) = true
has_gone mode = false

abbrev pub gone_in : List ThreadState → ℕ → Bool
gone_in [] u = true
gone_in (s ∷ states) zero = has_gone s.mode
gone_in (s ∷ states) (suc u) = gone_in states u

-- the moment at which the run is
abbrev pub now : List Entry → List ThreadState → Cut
now log states = record { entries = length log; replies = λ u. length (replies_of states u); ended = gone_in states }

-- the threads that had ended at the moment have ended
abbrev pub GoneIn : List ThreadState → Cut → Type 0
GoneIn states cut = (u : ℕ) (s : ThreadState) → slice_get states u ≡ Some s → cut.ended u ≡ true → IsEnded s.mode

-- These are the moments of a run so far, none of which is after the one at which it is. There is one for each thread that
-- has ended for want of room, and for no other.
pub record HaveMoments (script : Script) (log : List Entry) (states : List ThreadState) (config : Config)
    (journal : List Journal) (moments : List Moment) : Type 0 where
  pub are : AreMoments script log (replies_of states) config journal moments
  pub past : (i : ℕ) (m : Moment) → slice_get moments i ≡ Some m → NotAfter m.cut (now log states)
  pub gone : (t held_words need : ℕ) (s : ThreadState) → slice_get states t ≡ Some s
      → s.mode ≡ Ended (end.OutOfHeap held_words need) → IsAmong moments (Occasion.no_room t held_words need)
  pub real : (t held_words need : ℕ) → IsAmong moments (Occasion.no_room t held_words need)
      → (s : ThreadState) × (slice_get states t ≡ Some s) × (s.mode ≡ Ended (end.OutOfHeap held_words need))

-- a run has moments
abbrev pub SomeMoments : Script → List Entry → List ThreadState → Config → List Journal → Type 0
SomeMoments script log states config journal =
    (moments : List Moment) × HaveMoments script log states config journal moments

-- A run has moments to which its stale bits are tied, and what lies on its disk.
pub record TiedMoments (script : Script) (s : Sight) (states : List ThreadState) (config : Config)
    (journal : List Journal) : Type 0 where
  pub moments : List Moment
  pub have : HaveMoments script s.log states config journal moments
  pub bits : KeepsBits script moments s

-- The same at a safepoint: a thread that may go on has just had a collection of its own, silent or asked for.
pub record RestMoments (script : Script) (s : Sight) (states : List ThreadState) (config : Config)
    (journal : List Journal) : Type 0 where
  pub tied : TiedMoments script s states config journal
  pub own : (t : ℕ) (x : ThreadState) → slice_get states t ≡ Some x → MayGo x.mode
      → IsDue config (length x.replies.items) ⊎ HadOwn script tied.moments (now s.log states) t

-- Why a thread may have ended. For one that had no room the moments of the run tell.
abbrev pub EndsSo : Bool → Script → List Entry → List ThreadState → Config → ℕ → Mode → Type 0
EndsSo told script log states config t (Ended end.Done) =
    length (replies_of states t) ≡ length (operations script t)
EndsSo told script log states config t (Ended (end.OutOfHeap held_words need)) = Unit {0}
EndsSo told script log states config t (Ended end.DiskFault) =
    LoadsNext script t (length (replies_of states t))
EndsSo told script log states config t (Ended (end.Damaged home at word)) =
    (told ≡ true → ⊥) × LoadsNext script t (length (replies_of states t)) × WasRead config home at word
EndsSo told script log states config t (Ended end.Halted) = ⊥
EndsSo told script log states config t mode = Unit {0}

-- A record on disk is none, as was seen in the event of a thread over a disk that ends there.
pub record SeesDamage (told : Bool) (finish : ℕ) (damaged : Damaged) : Type 0 where
  pub untold : told ≡ true → ⊥
  pub read : (config : Config) → finish ≤ config.disk → WasRead config damaged.home damaged.at damaged.word

-- what is said of the refusal by which a thread has ended
abbrev pub IsLostBy : Bool → ℕ → Refusal → Type 0
IsLostBy told finish (refusal.Pause cause) = ⊥
IsLostBy told finish refusal.DiskFault = Unit {0}
IsLostBy told finish (refusal.Damaged damaged) = SeesDamage told finish damaged
