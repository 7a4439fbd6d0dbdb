-- Whether a run stores its history, which its type says.
use Rattle.std.specs.Prelude.{ℕ, ◌==◌, Bool, true, false, [], None}
use Rattle.melt_core.specs.Views.{View, stores, view}
use Rattle.melt_core.specs.declared.machine.Core.{Core}

-- What is shown where a history is to be stored or not, and is or is not. A core that does otherwise shows no names, so
-- that it stands for no history.
abbrev pub shown_as : (stored does : Bool) → View → View
shown_as true true v = v
shown_as false false v = v
shown_as true false v = record v { names = None; log = [] }
shown_as false true v = record v { names = None; log = [] }

abbrev pub stored_view : Bool → View → View
stored_view stored v = shown_as stored (stores v) v

-- what is shown of a core of a run of this type: its history is to be stored where the number is 1
abbrev pub view_by : ℕ → Core → View
view_by stored core = stored_view (stored == 1) (view core)
