use Rattle.std.specs.Prelude.{[], ◌∷◌, slice_index_or, slice_set}
use Rattle.melt_links.proofs.links.Links.push_front.Given as goal

abbrev pub ghost-pick : goal.ghost-pick
ghost-pick a =
    let from = a.from.now in slice_set from.0.now from.1 (from.2 ∷ slice_index_or from.0.now from.1 [])
