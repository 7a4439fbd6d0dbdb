-- To what the stale bit is tied: what an epoch shows of it when it begins, between two steps, and when it has ended.
use Rattle.std.specs.Prelude.{ℕ, List, [], ◌∷◌, ◌==◌, if◌then◌else◌, Option, None}
use Rattle.std.specs.Option.{option_or}
use Rattle.melt_model.specs.declared.history.Entry.{Entry}
use Rattle.melt_space.specs.Space.{word_at}
use Rattle.melt_scion.specs.Placed.{Maps}
use Rattle.melt_scion.specs.State.{State}
use Rattle.melt_core.specs.StaleBits.{Sight, sight_of}
use Rattle.melt_core.specs.declared.call.Stage.{Stage}
use Rattle.melt_rule.specs.Shown.{maps_at, staged}
use Rattle.melt_rule.specs.declared.began.Began.{Began}
use Rattle.melt_rule.specs.declared.view.View.{View}

-- no call is in flight
abbrev pub no_calls : ℕ → Option Stage
no_calls t = None

-- as it begins
abbrev pub first_sight : Began → Sight
first_sight b = record {
  log = b.history;
  maps = maps_at b;
  word = word_at (record { list = b.words; used = 0 });
  stage = no_calls;
}

-- the stage of the call of a thread, where the view is that of its seat
abbrev pub own_stage : View → ℕ → Option Stage
own_stage v t = if v.thread == t then staged v.doing else None

-- and of all seats
abbrev pub stage_at : List View → ℕ → Option Stage
stage_at [] t = None
stage_at (v ∷ views) t = option_or (own_stage v t) (stage_at views t)

-- as it has ended
abbrev pub last_sight : List Entry → Maps → State → Sight
last_sight h maps s = sight_of h maps s no_calls
