-- What runs the epochs of a run, and what is asked of it.
use Rattle.std.specs.Prelude.{◌≡◌, ℕ, ◌≤◌, Bool, List, length, Option, Result, Err, IfOk, IfErr, OnOk, OnErr}
use Rattle.std.specs.declared.alloc.Global.{Global}
use denote.Ref.{MutBor}
use denote.Param.Members.{Shared}
use Rattle.melt_io.specs.Outside.{Rose}
use Rattle.melt_model.specs.declared.history.Entry.{Entry}
use Rattle.melt_move.specs.Planned.{phase_done}
use Rattle.melt_core.specs.Views.{View}
use Rattle.melt_safepoint.specs.Collections.{CollectsCore, IsRefusedCore, MayCollect}
use Rattle.melt_safepoint.specs.Epochs.{EndsEpoch, SomeMayRun}
use Rattle.melt_safepoint.specs.Lends.{LendsAtMost}
use Rattle.melt_safepoint.specs.Losses.{CountsLosses}
use Rattle.melt_safepoint.specs.Rows.{RefusalStores, StopCounts, StopKeeps, StopStores, StopsBut, row_of}
use Rattle.melt_safepoint.specs.Spaces.{Sees}
use Rattle.melt_safepoint.specs.Writes.{RefusalWrote, WroteSince}
use Rattle.melt_safepoint.specs.declared.collector.Collector.{Collector}
use Rattle.melt_safepoint.specs.declared.collector.CollectRefusal.{CollectRefusal}
use Rattle.melt_safepoint.specs.declared.collector.CollectRefusal.TheVariants.{DiskFault}
use Rattle.melt_safepoint.specs.declared.ending.Left.{Left}
use Rattle.melt_safepoint.specs.declared.ending.Stop.{Stop}
use Rattle.melt_safepoint.specs.declared.engine.Engine.{Engine}
use Rattle.melt_safepoint.specs.declared.run.Run.{Run}

-- A collection between two epochs: the one that was planned, or a Move where that was forced. It lends no reader.
pub record CollectsSo {E S : Type 0} (view : E → View) (stored : List Entry → List Entry) (sees : Sees S)
    (machine : E) (old new : Collector) (space later : S) (force : Bool) (result : Result E CollectRefusal) : Type 0
  where
    pub collected : IfOk result (λ (after : E). CollectsCore (phase_done force old.plan.next) (sees.shown space)
        (sees.shown later) (view machine) (view after) old new)
    pub refused : IfErr result (IsRefusedCore (phase_done force old.plan.next) (sees.shown space) (sees.shown later)
        (view machine))
    pub stores : IfErr result (RefusalStores stored)
    pub journal_stays : OnErr result (new.journal.items ≡ old.journal.items)
    pub failed : (left : Left) → result ≡ Err (DiskFault left) → Rose (sees.faults space) (sees.faults later)
    pub same_disk : sees.name later ≡ sees.name space
    pub count : sees.faults space ≤ sees.faults later
    pub read_faults : sees.read_faults later ≡ sees.read_faults space
    pub lends : sees.lends later ≡ sees.lends space
    pub wrote : OnOk result (WroteSince old.journal.items new.journal.items (sees.writes space) (sees.writes later))
    pub refused_wrote : IfErr result (RefusalWrote (sees.writes space) (sees.writes later))

-- An epoch: the threads go on, each as far as it can. Where one is to be the first, it makes its call before all
-- others, and where that lacks words, no other goes on: these words are answered.
pub record RunsSo {E S : Type 0} (view : E → View) (stored : List Entry → List Entry) (sees : Sees S) (run : Run E)
    (space later : S) (first : Option ℕ) (result : Result (Run E × Option ℕ) Stop) : Type 0 where
  pub ends : IfOk result (λ (done : Run E × Option ℕ). EndsEpoch (sees.shown space) first (row_of view run)
      (row_of view done.0) done.1)
  pub shown : sees.shown later ≡ sees.shown space
  pub same_disk : sees.name later ≡ sees.name space
  pub writes : sees.writes later ≡ sees.writes space
  pub count : sees.faults space ≤ sees.faults later
  pub lost : IfOk result (λ (done : Run E × Option ℕ). CountsLosses run.states.items done.0.states.items
      (sees.read_faults space) (sees.read_faults later))
  pub stopped : IfErr result (StopsBut (sees.shown space) (sees.shown later) (row_of view run))
  pub stop_counts : IfErr result (λ (stop : Stop). StopCounts stop run.states.items (sees.faults space)
      (sees.faults later) (sees.read_faults space) (sees.read_faults later))
  pub stop_keeps : IfErr result (StopKeeps run.collector.journal.items)
  pub stores : IfErr result (StopStores stored)

module _ {C F E S : Type 0}
    (collect : Shared C (E × (Global × (MutBor Collector × (MutBor S × (Bool × Unit {0})))))
    (Result E CollectRefusal × (MutBor Collector × (MutBor S × Unit {0}))))
    (epoch : Shared F (Run E × (Global × (MutBor S × (Option ℕ × Unit {0}))))
    (Result (Run E × Option ℕ) Stop × (MutBor S × Unit {0}))) (view : E → View)
    (stored : List Entry → List Entry) (sees : Sees S) (by : Engine C F) where
  -- It makes collections and runs epochs, whenever these may be.
  pub record IsEngine : Type 0 where
    pub may_collect : (machine : E) (alloc : Global) (c : MutBor Collector) (space : MutBor S) (force : Bool)
        → MayCollect (sees.shown space.now).end (view machine)
        → collect.pre by.collect (machine, (alloc, (c, (space, (force, tt)))))
    pub collects : (machine : E) (alloc : Global) (c d : MutBor Collector) (space later : MutBor S) (force : Bool)
        (result : Result E CollectRefusal)
        → collect.post by.collect (machine, (alloc, (c, (space, (force, tt))))) (result, (d, (later, tt)))
        → CollectsSo view stored sees machine c.now d.now space.now later.now force result
    pub may_run : (run : Run E) (alloc : Global) (space : MutBor S) (first : Option ℕ)
        → SomeMayRun (sees.shown space.now) first (row_of view run)
        → epoch.pre by.run_epoch (run, (alloc, (space, (first, tt))))
    pub runs : (run : Run E) (alloc : Global) (space later : MutBor S) (first : Option ℕ)
        (result : Result (Run E × Option ℕ) Stop)
        → epoch.post by.run_epoch (run, (alloc, (space, (first, tt)))) (result, (later, tt))
        → RunsSo view stored sees run space.now later.now first result

  -- it lends so many readers at most for an epoch of so many threads
  pub record LendsEach (readers : ℕ → ℕ) : Type 0 where
    pub each : (run : Run E) (alloc : Global) (space later : MutBor S) (first : Option ℕ)
        (result : Result (Run E × Option ℕ) Stop)
        → epoch.post by.run_epoch (run, (alloc, (space, (first, tt)))) (result, (later, tt))
        → LendsAtMost (readers (length run.states.items)) (sees.lends space.now) (sees.lends later.now)
