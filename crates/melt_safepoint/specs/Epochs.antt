-- An epoch of a run: its threads go on, each as far as it can.
use Rattle.std.specs.Prelude.{◌≡◌, ℕ, ◌<◌, ◌≤◌, ◌⊎◌, Bool, true, List, map, sum, slice_get, Option, None, Some, IfSome}
use Rattle.melt_model.specs.declared.config.Config.{Config}
use Rattle.melt_trace.specs.Script.{Script}
use Rattle.melt_core.specs.StaleBits.{BitsTold, sight}
use Rattle.melt_safepoint.specs.Collections.{NoneForwarded}
use Rattle.melt_safepoint.specs.Passing.{NoneOwn, OneWaits}
use Rattle.melt_safepoint.specs.Rows.{AwaitsCall, LacksWords, Row, RunStands}
use Rattle.melt_safepoint.specs.Shown.{Shown}
use Rattle.melt_safepoint.specs.Threads.{AllEnded, AllWait, jobs_of}
use Rattle.melt_safepoint.specs.declared.thread.Mode.TheVariants.{Asked}
use Rattle.melt_safepoint.specs.declared.thread.ThreadState.{ThreadState}

-- what all threads have still to do
abbrev pub to_do : List ThreadState → ℕ
to_do states = sum (map jobs_of states)

-- An epoch may begin: no forwarding word is filled, and no thread waits for a collection. One that lacked room may make
-- its call before all others, after a collection.
abbrev pub MayRunEpoch : Bool → Script → Config → Shown → Option ℕ → Row → Type 0
MayRunEpoch told script config shown None run =
    RunStands told script config shown run × NoneForwarded run.view × NoneOwn run.states
MayRunEpoch told script config shown (Some t) run = (forced : ℕ) × AwaitsCall told script config shown forced run t

abbrev pub SomeMayRun : Shown → Option ℕ → Row → Type 0
SomeMayRun shown first run = (told : Bool) × (script : Script) × (config : Config)
    × MayRunEpoch told script config shown first run

-- No thread can go on; and where one was asked to stop, some thread waits for more than that.
pub record RestsWell (states : List ThreadState) : Type 0 where
  pub waits : AllWait states
  pub asked : (t : ℕ) (s : ThreadState) → slice_get states t ≡ Some s → s.mode ≡ Asked → OneWaits states

-- All threads went on until they wait or have ended. They have no more to do than before, and where the call of one was
-- made first, less. What became of each stale bit meanwhile is told by the history.
pub record RunsEpoch (shown : Shown) (first : Option ℕ) (old new : Row) : Type 0 where
  pub keeps : (told : Bool) (script : Script) (config : Config) → MayRunEpoch told script config shown first old
      → RunStands told script config shown new
  pub bits : (told : Bool) (script : Script) (config : Config) → MayRunEpoch told script config shown first old
      → told ≡ true → BitsTold (sight old.view) (sight new.view)
  pub rests : RestsWell new.states
  pub less : to_do new.states ≤ to_do old.states
  pub first_less : IfSome first (λ t. to_do new.states < to_do old.states)
  pub collector : new.collector ≡ old.collector

-- The call that was made first lacked so many words, and nothing else was done. Stale bits are told as above.
pub record LacksFirst (shown : Shown) (t need : ℕ) (old new : Row) : Type 0 where
  pub keeps : (told : Bool) (script : Script) (config : Config) (forced : ℕ)
      → AwaitsCall told script config shown forced old t → LacksWords told script config shown forced new t need
  pub bits : (told : Bool) (script : Script) (config : Config) (forced : ℕ)
      → AwaitsCall told script config shown forced old t → told ≡ true → BitsTold (sight old.view) (sight new.view)
  pub states : new.states ≡ old.states
  pub collector : new.collector ≡ old.collector

-- how an epoch has ended
abbrev pub EndsEpoch : Shown → Option ℕ → Row → Row → (lacks : Option ℕ) → Type 0
EndsEpoch shown first old new None = RunsEpoch shown first old new
EndsEpoch shown None old new (Some need) = ⊥
EndsEpoch shown (Some t) old new (Some need) = LacksFirst shown t need old new

-- a run whose threads have all ended is left as it is, and any other goes on in an epoch
abbrev pub GoesOnFrom : Shown → Row → Row → Type 0
GoesOnFrom shown old new = (AllEnded old.states × (new ≡ old)) ⊎ RunsEpoch shown None old new
