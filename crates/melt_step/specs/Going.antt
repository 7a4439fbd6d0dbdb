-- A run by the written order inside an epoch.
use Rattle.std.specs.Prelude.{◌≡◌, ◌≢◌, ℕ, ◌<◌, ◌≤◌, Bool, true, false, List, [], ◌++◌, length, Option, None, Some}
use Rattle.std.specs.Prelude.{slice_get, slice_set}
use Rattle.melt_model.specs.declared.config.Config.{Config}
use Rattle.melt_model.specs.declared.history.Entry.{Entry}
use Rattle.melt_model.specs.declared.reports.Journal.{Journal}
use Rattle.melt_trace.specs.Script.{Script}
use Rattle.melt_scion.specs.Heaps.{OnDisk}
use Rattle.melt_core.specs.StaleBits.{TiedTo, sight}
use Rattle.melt_core.specs.Views.{IsQuiet, Standing, View, call_of, view}
use Rattle.melt_safepoint.specs.Collections.{MadeSoFar}
use Rattle.melt_safepoint.specs.Counts.{CountsCollections}
use Rattle.melt_safepoint.specs.Cuts.{Moment}
use Rattle.melt_safepoint.specs.Endings.{HaveMoments}
use Rattle.melt_safepoint.specs.Epochs.{LacksFirst}
use Rattle.melt_safepoint.specs.Passing.{CalledAt, IsLacking}
use Rattle.melt_safepoint.specs.Rows.{AwaitsCall, CollectorStands, Row, RunStands}
use Rattle.melt_safepoint.specs.Shown.{Shown, Underlies}
use Rattle.melt_safepoint.specs.Staying.{KeepsBits}
use Rattle.melt_safepoint.specs.Tables.{TableStands, potential}
use Rattle.melt_model.specs.declared.operations.Op.{Op}
use Rattle.melt_model.specs.declared.operations.Op.TheVariants.{Collect}
use Rattle.melt_safepoint.specs.declared.thread.Mode.TheVariants.{Running}
use Rattle.melt_safepoint.specs.Threads.{DueBy}
use Rattle.melt_safepoint.specs.declared.thread.ThreadState.{ThreadState}
use Rattle.melt_step.specs.Lone.{CalledAlone}
use Rattle.melt_step.specs.Made.{MakesInUse}
use Rattle.melt_step.specs.Tied.{KeepsTied}
use Rattle.melt_step.specs.Stored.{view_by}
use Rattle.melt_step.specs.declared.machine.Ordered.{Ordered}

-- what a run by the written order shows
abbrev pub core_view : {stored : ℕ} → Ordered stored → View
core_view it = view it.core

-- and to the engine, which knows by its type whether it stores its history
abbrev pub kept_view : {stored : ℕ} → Ordered stored → View
kept_view {stored} it = view_by stored it.core

-- The moments of a run inside an epoch that began so, and that wrote so much more into the history: those with which it
-- began, to which stale bits were tied then.
pub record MomentsSince (begun : View) (script : Script) (log : List Entry) (states : List ThreadState) (config : Config)
    (journal : List Journal) : Type 0 where
  pub moments : List Moment
  pub have : HaveMoments script log states config journal moments
  pub past : (i : ℕ) (m : Moment) → slice_get moments i ≡ Some m → m.cut.entries ≤ length begun.log
  pub bits : KeepsBits script moments (sight begun)
  pub more : List Entry
  pub grown : log ≡ begun.log ++ more
  pub disk : OnDisk
  pub stood : Standing true disk begun

-- A run stands inside an epoch that began so as between two, but that calls may be in flight. The stale bit is tied to
-- the history since.
pub record StandsInside (begun : View) (told : Bool) (script : Script) (config : Config) (shown : Shown) (run : Row)
    : Type 0 where
  pub disk : OnDisk
  pub under : Underlies told shown.end shown.image disk
  pub none_free : disk.free_homes ≡ []
  pub table : TableStands told script config disk run.view run.states
  pub words : run.words ≡ config.heap
  pub every : run.every ≡ config.every
  pub told_is : run.told ≡ told
  pub collector : CollectorStands config shown run.collector
  pub moments : told ≡ true
      → MomentsSince begun script run.view.log run.states config run.collector.journal.items
  pub made : told ≡ true → MadeSoFar config run.view run.collector.journal.items
  pub counts : CountsCollections script config 0 run.states (length run.collector.journal.items)
  pub tied : told ≡ true → TiedTo begun run.view

-- for some script, over homes that end so and the words that a reader tells
abbrev pub SomeStandsInside : ℕ → Option (List ℕ) → Row → Type 0
SomeStandsInside finish image run = (shown : Shown) × (shown.end ≡ finish) × (shown.image ≡ image)
    × ((told : Bool) × (script : Script) × (config : Config) × (begun : View)
    × StandsInside begun told script config shown run)

-- for each script for which the run stood, told or not, it stands
abbrev pub KeepsGoing : Shown → Row → Row → Type 0
KeepsGoing shown old new = (begun : View) (told : Bool) (script : Script) (config : Config)
    → StandsInside begun told script config shown old → StandsInside begun told script config shown new

-- and so after the epoch, where no call is in flight, with the stale bit tied to its history
abbrev pub ComesToRest : Shown → Row → Row → Type 0
ComesToRest shown old new = (begun : View) (told : Bool) (script : Script) (config : Config)
    → StandsInside begun told script config shown old
    → RunStands told script config shown new × (told ≡ true → TiedTo begun new.view)

-- A run has less to do than before, events counted too.
abbrev pub IsNearer : Row → Row → Type 0
IsNearer old new = potential new.states new.view.calls < potential old.states old.view.calls

-- A call that was made alone for the thread, over what is seen, and may have lacked so many words: the core and the
-- state of the thread are new, what it made is in use, and the stale bit stays tied to the history.
pub record MakesCall (shown : Shown) (old new : Row) (t : ℕ) (lacks : Option ℕ) : Type 0 where
  pub s : ThreadState
  pub after : ThreadState
  pub op : Op
  pub was : IsLacking old.states t s
  pub next : s.op ≡ Some op
  pub called : CalledAlone shown.end shown.image old.view new.view t s after op lacks
  pub due : DueBy old.every s after
  pub makes : MakesInUse shown.end shown.image old.view new.view
  pub ties : KeepsTied shown.end shown.image old.view new.view t
  pub states : new.states ≡ slice_set old.states t after
  pub collector : new.collector ≡ old.collector
  pub words : new.words ≡ old.words
  pub every : new.every ≡ old.every
  pub told : new.told ≡ old.told

-- The call of the thread was made, by the first events of an epoch: it has less to do, and waits for nothing.
pub record MadeCall (shown : Shown) (old new : Row) (t : ℕ) : Type 0 where
  pub keeps : (told : Bool) (script : Script) (config : Config) (forced : ℕ)
      → AwaitsCall told script config shown forced old t → StandsInside old.view told script config shown new
  pub quiet : IsQuiet new.view
  pub stop : new.view.stop ≡ false
  pub called : CalledAt old.states new.states t

-- the call was made, or lacked so many words
abbrev pub CallsFirst : Shown → Row → Row → ℕ → Option ℕ → Type 0
CallsFirst shown old new t None = MadeCall shown old new t
CallsFirst shown old new t (Some need) = LacksFirst shown t need old new

-- The thread is to begin the call of this operation.
pub record IsNextCall (v : View) (t : ℕ) (s : ThreadState) (o : Op) : Type 0 where
  pub running : s.mode ≡ Running
  pub next : s.op ≡ Some o
  pub no_collect : o ≢ Collect
  pub first : call_of v t ≡ None
