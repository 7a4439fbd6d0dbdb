-- How the words that a run makes are bounded by its collections.
use Rattle.std.specs.Prelude.{◌+◌, ◌*◌, ◌≤◌, List, length}
use Rattle.melt_model.specs.declared.config.Config.{Config}
use Rattle.melt_model.specs.declared.history.Entry.{Entry}
use Rattle.melt_model.specs.declared.reports.Journal.{Journal}
use Rattle.melt_core.specs.Made.{made_words}

-- Before the first collection, and after each, no more words were made than the heap has.
abbrev pub MakesWithin : Config → List Entry → List Journal → Type 0
MakesWithin config log journal = made_words log ≤ config.heap * (length journal + 1)
