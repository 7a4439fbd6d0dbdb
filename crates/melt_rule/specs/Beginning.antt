-- What has to hold where an epoch begins.
use Rattle.std.specs.Prelude.{◌≡◌, ℕ, ◌+◌, ◌^◌, ◌<◌, ◌≤◌, true, List, length, Some, slice_index}
use Rattle.melt_model.specs.History.{Legal}
use Rattle.melt_scion.specs.GhostMaps.{named}
use Rattle.melt_scion.specs.Placed.{Holds}
use Rattle.melt_scion.specs.Scions.{EachOnce}
use Rattle.melt_scion.specs.State.{IsFresh}
use Rattle.melt_rule.specs.Rule.{Has}
use Rattle.melt_rule.specs.Shown.{free_place, globals_from, maps_at, shows, space_in}
use Rattle.melt_rule.specs.declared.began.Start.{Start}

-- The words stand for the history, which is legal, by the maps. Nothing was claimed past the last word, no forwarding
-- word is filled, and the stop word is not set. What registers hold are objects without the stale bit. One thread takes
-- part, or several up to 8, each once.
pub record MayBegin (start : Start) (words : List ℕ) : Type 0 where
  pub size : length words ≡ globals_from + start.began.globals + start.began.forwards + start.began.size
  pub few_words : length words ≤ 2 ^ 32
  pub legal : start.began.told ≡ true → Legal start.began.history start.began.globals
  pub holds : Holds start.began.told start.began.history (maps_at start.began) (shows start.began words)
  pub space : start.began.words ≡ (space_in start.began words).list
  pub first : 1 ≤ start.began.free
  pub free : slice_index words free_place ≡ start.began.free
  pub room : start.began.free ≤ start.began.size + 1
  pub unfilled : (p : ℕ) → p < start.began.forwards → (shows start.began words).forward p ≡ 0
  pub goes_on : slice_index words 0 ≡ 0
  pub held : (address n : ℕ) → Has start.held address n → named start.began.maps.addresses address ≡ Some n
  pub fresh : (address n : ℕ) → Has start.held address n → IsFresh (shows start.began words) address
  pub some_thread : 1 ≤ length start.began.threads
  pub few : length start.began.threads ≤ 8
  pub each_once : EachOnce start.began.threads
