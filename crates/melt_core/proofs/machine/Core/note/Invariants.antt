use Rattle.std.specs.Prelude.{[], ◌∷◌, ◌++◌}
use Rattle.melt_core.specs.Answering.{entry}
use Rattle.melt_core.specs.Noted.{act_named}
use Rattle.melt_core.specs.Views.{View, maps, view}
use Rattle.melt_core.proofs.machine.Core.note.Given as goal

abbrev pub ghost-pick : goal.ghost-pick
ghost-pick a =
    let from = a.from.now in
    let v : View = view from.0.now in v.log ++ entry from.1 (act_named (maps v) from.2) ∷ []
