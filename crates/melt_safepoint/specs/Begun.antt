-- What is asked of a run and its engine before the first epoch.
use Rattle.std.specs.Prelude.{◌≡◌, ℕ, Bool, List, [], Option, Result}
use Rattle.std.specs.declared.alloc.Global.{Global}
use denote.Ref.{MutBor}
use denote.Param.Members.{Shared}
use Rattle.melt_model.specs.declared.history.Entry.{Entry}
use Rattle.melt_core.specs.Views.{View}
use Rattle.melt_safepoint.specs.Collections.{NoneForwarded}
use Rattle.melt_safepoint.specs.Engines.{IsEngine}
use Rattle.melt_safepoint.specs.Losses.{losses}
use Rattle.melt_safepoint.specs.Passing.{NoneOwn}
use Rattle.melt_safepoint.specs.Rows.{SomeStands, journal_of, row_of}
use Rattle.melt_safepoint.specs.Spaces.{Sees}
use Rattle.melt_safepoint.specs.declared.collector.Collector.{Collector}
use Rattle.melt_safepoint.specs.declared.collector.CollectRefusal.{CollectRefusal}
use Rattle.melt_safepoint.specs.declared.ending.Stop.{Stop}
use Rattle.melt_safepoint.specs.declared.engine.Engine.{Engine}
use Rattle.melt_safepoint.specs.declared.run.Run.{Run}

-- The engine makes collections and runs epochs, and the run may be passed to it: it stands, with no forwarding word
-- filled and no thread that waits for a collection, and no thread was lost and no collection made so far.
pub record IsBegun {C F E S : Type 0}
    (collect : Shared C (E × (Global × (MutBor Collector × (MutBor S × (Bool × Unit {0})))))
    (Result E CollectRefusal × (MutBor Collector × (MutBor S × Unit {0}))))
    (epoch : Shared F (Run E × (Global × (MutBor S × (Option ℕ × Unit {0}))))
    (Result (Run E × Option ℕ) Stop × (MutBor S × Unit {0}))) (view : E → View)
    (stored : List Entry → List Entry) (sees : Sees S) (by : Engine C F) (space : S) (run : Run E) : Type 0 where
  pub engine : IsEngine collect epoch view stored sees by
  pub stands : SomeStands (sees.shown space) (row_of view run)
  pub settled : NoneForwarded (view run.machine)
  pub own : NoneOwn run.states.items
  pub none_lost : losses run.states.items ≡ 0
  pub none_made : journal_of (row_of view run) ≡ []
