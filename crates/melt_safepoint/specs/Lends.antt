-- How often readers are lent, by the collections that are made.
use Rattle.std.specs.Prelude.{ℕ, ◌+◌, ◌*◌, ◌≤◌, List, length}
use Rattle.melt_model.specs.declared.reports.Journal.{Journal}
use Rattle.melt_safepoint.specs.Run.{HasRisen}

-- An epoch lends so many readers at most.
pub record LendsAtMost (readers lends lends_after : ℕ) : Type 0 where
  pub few : lends_after ≤ lends + readers
  pub rises : HasRisen lends lends_after

-- Each epoch lent so many readers at most, and no more epochs were begun than collections were made, but for so many.
pub record LendsFew (readers more lends lends_after : ℕ) (js later : List Journal) : Type 0 where
  pub epochs : ℕ
  pub lent : lends_after ≤ lends + readers * epochs
  pub few : epochs + length js ≤ length later + more
  pub grows : length js ≤ length later
  pub rises : HasRisen lends lends_after

-- no more of them than two for each collection, but for so many
pub record LendsTwice (readers more lends lends_after : ℕ) (js later : List Journal) : Type 0 where
  pub epochs : ℕ
  pub lent : lends_after ≤ lends + readers * epochs
  pub few : epochs + 2 * length js ≤ 2 * length later + more
  pub rises : HasRisen lends lends_after
