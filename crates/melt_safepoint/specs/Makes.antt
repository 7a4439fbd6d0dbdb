-- Which collections a safepoint makes.
use Rattle.std.specs.Prelude.{◌≡◌, ℕ, zero, suc, ◌≤◌, ◌⊎◌, Bool, List, Option, None, Some, slice_set}
use Rattle.melt_model.specs.declared.config.Config.{Config}
use Rattle.melt_model.specs.declared.reports.Journal.{Journal}
use Rattle.melt_model.specs.declared.reports.Phase.TheVariants.{Move}
use Rattle.melt_model.specs.declared.reports.ThreadEnd.TheVariants.{OutOfHeap}
use Rattle.melt_trace.specs.Script.{Script}
use Rattle.melt_core.specs.Epochs.{HasDropped}
use Rattle.melt_safepoint.specs.declared.thread.Mode.TheVariants.{Ended, Lacking}
use Rattle.melt_safepoint.specs.declared.thread.ThreadState.{ThreadState}
use Rattle.melt_safepoint.specs.Epochs.{EndsEpoch, GoesOnFrom}
use Rattle.melt_safepoint.specs.Journals.{OneMore, Planned}
use Rattle.melt_safepoint.specs.Passing.{WaitsForRoom, IsLacking, NoneLacks}
use Rattle.melt_safepoint.specs.Rows.{AwaitsCall, Row, journal_of}
use Rattle.melt_safepoint.specs.Shown.{Shown}
use Rattle.melt_safepoint.specs.Threads.{NoneBelow, collections_due}

-- A Move was made, whatever was planned, the last of so many that were forced in a row. After it the thread awaited
-- its call, over what was shown then, and an epoch began with that.
pub record MovesOnce (told : Bool) (script : Script) (config : Config) (forced : ℕ) (old new : Row) (t : ℕ)
    (lacks : Option ℕ) : Type 0 where
  pub shown : Shown
  pub mid : Row
  pub moved : OneMore Move (journal_of old) (journal_of mid)
  pub states : mid.states ≡ old.states
  pub awaits : AwaitsCall told script config shown forced mid t
  pub called : EndsEpoch shown (Some t) mid new lacks

-- The thread ended, as its call lacked so many words: it dropped its registers.
pub record EndsForRoom (old new : Row) (t need : ℕ) : Type 0 where
  pub s : ThreadState
  pub held : ℕ
  pub was : IsLacking old.states t s
  pub drops : HasDropped old.view new.view t
  pub states : new.states ≡ slice_set old.states t (record s { mode = Ended (OutOfHeap held need) })
  pub collector : new.collector ≡ old.collector

-- the thread ended so, and the others went on
pub record GoesOnWithout (old new : Row) (t need : ℕ) : Type 0 where
  pub shown : Shown
  pub gone : Row
  pub ends : EndsForRoom old gone t need
  pub goes : GoesOnFrom shown gone new

-- So many Moves were made after a call that lacked words, each after the first one as the call lacked words once
-- more; and where it lacked words after the last, its thread ended.
abbrev pub MovesAfter : Bool → Script → Config → (forced n : ℕ) → Row → Row → (t need : ℕ) → Type 0
MovesAfter told script config forced zero lacked new t need = GoesOnWithout lacked new t need
MovesAfter told script config forced (suc n) lacked new t need =
    ((n ≡ 0) × MovesOnce told script config (suc forced) lacked new t None)
    ⊎ ((more : ℕ) × ((again : Row) × MovesOnce told script config (suc forced) lacked again t (Some more)
    × MovesAfter told script config (suc forced) n again new t more))

-- and two at most
abbrev pub MovesFew : Bool → Script → Config → Row → Row → (t need : ℕ) → Type 0
MovesFew told script config lacked new t need = (n : ℕ) × (n ≤ 2)
    × MovesAfter told script config 0 n lacked new t need

-- An epoch began with the call of a thread, and two Moves at most were made, only where that lacked words.
abbrev pub MakesRoom : Bool → Script → Config → Shown → Row → Row → ℕ → Type 0
MakesRoom told script config shown old new t = EndsEpoch shown (Some t) old new None
    ⊎ ((need : ℕ) × ((lacked : Row) × EndsEpoch shown (Some t) old lacked (Some need)
    × MovesFew told script config lacked new t need))

-- one where there was none
abbrev pub if_none_was : ℕ → ℕ
if_none_was zero = 1
if_none_was (suc n) = 0

-- What is collected for a thread that waits for room: one collection as it was planned, where no thread waited for one
-- of its own; and Moves. In between, over what is shown, it awaits its call, with which an epoch begins.
pub record MakesForRoom (told : Bool) (script : Script) (config : Config) (due : ℕ) (own : List Journal) (new : Row)
    (t : ℕ) : Type 0 where
  pub shown : Shown
  pub mid : Row
  pub planned : Planned config (if_none_was due) own (journal_of mid)
  pub awaits : AwaitsCall told script config shown 0 mid t
  pub makes : MakesRoom told script config shown mid new t

-- no thread lacked room, and all went on after their own collections
pub record GoesOnAfter (own : List Journal) (new : Row) : Type 0 where
  pub shown : Shown
  pub mid : Row
  pub after : journal_of mid ≡ own
  pub goes : GoesOnFrom shown mid new

-- The collections of a safepoint: one as it was planned for each thread that waits for one of its own, and then those
-- for the lowest thread that waits for room, if there is one. There are no others.
pub record MakesCollections (told : Bool) (script : Script) (config : Config) (old new : Row) : Type 0 where
  pub own : List Journal
  pub asked : Planned config (collections_due old.states) (journal_of old) own
  pub room : (NoneLacks old.states × GoesOnAfter own new)
      ⊎ ((t : ℕ) × WaitsForRoom old.states t × NoneBelow (λ mode. mode ≡ Lacking) old.states t
      × MakesForRoom told script config (collections_due old.states) own new t)
