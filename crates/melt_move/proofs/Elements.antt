-- An element of a list that a loop reads by its index.
use Rattle.std.proofs.Common.{◌≡◌, ℕ, ◌<◌, List, length, sym, ◌∙◌, ap}
use Rattle.std.specs.Prelude.{slice_get, slice_index_or, Some}
use Rattle.std.proofs.lemmas.Option.{slice_get-get_or}

pub read_at : {X : Type 0} (items all : List X) (i : ℕ) (d : X) → items ≡ all → i < length items
    → slice_get all i ≡ Some (slice_index_or items i d)
read_at {X = X} items all i d same below =
    ap (λ (l : List X). slice_get l i) (sym same) ∙ slice_get-get_or items i d below
