-- What is so where an epoch has ended: of its words, and of the view of the seat that took in all others.
use Rattle.std.specs.Prelude.{◌≡◌, ◌≢◌, ◌⊎◌, ℕ, ◌+◌, ◌<◌, true, false, List, length, Some, slice_index}
use mathlib.Core.Option.{some}
use lib.ListN.{get_elem?}
use Rattle.melt_model.specs.History.{Legal}
use Rattle.melt_model.specs.Thread.{own}
use Rattle.melt_scion.specs.GhostMaps.{named}
use Rattle.melt_scion.specs.Placed.{Maps, Holds}
use Rattle.melt_scion.specs.State.{State, IsFresh}
use Rattle.melt_core.specs.StaleBits.{BitsTold}
use Rattle.melt_rule.specs.Rule.{Has, Begins, MadeStay, Saw, threads_of, filled_count, has_cause, is_lacking}
use Rattle.melt_rule.specs.Shown.{globals_from, shows}
use Rattle.melt_rule.specs.Sights.{first_sight, last_sight}
use Rattle.melt_rule.specs.declared.began.Began.{Began}
use Rattle.melt_rule.specs.declared.began.Start.{Start}
use Rattle.melt_rule.specs.declared.view.Away.{Away}
use Rattle.melt_rule.specs.declared.view.View.{View}

-- What the view has seen is the history of the epoch. It is legal and begins with the history before the epoch; each
-- thread had seen a beginning of it with all its own entries; and other threads have no entry since.
pub record HistoryEnds (start : Start) (v : View) : Type 0 where
  pub legal : start.began.told ≡ true → Legal v.seen start.began.globals
  pub since : Begins start.began.history v.seen
  pub mine : Saw v.seen v.thread v.mine
  pub away : (p : ℕ) (a : Away) → get_elem? v.away p ≡ some a → Saw v.seen a.thread a.seen
  pub strangers : (t : ℕ) → ((p : ℕ) → get_elem? (threads_of v) p ≡ some t → ⊥)
      → own v.seen t ≡ own start.began.history t

-- The maps have what they had at the beginning and what the view knows, and no more. What it knows has no stale bit.
pub record MapsEnd (b : Began) (maps : Maps) (s : State) (v : View) : Type 0 where
  pub homes : (home : ℕ) → maps.home home ≡ named b.maps.homes home
  pub begun : (address n : ℕ) → named b.maps.addresses address ≡ Some n → maps.address address ≡ Some n
  pub known : (address n : ℕ) → Has v.known address n → maps.address address ≡ Some n
  pub only : (address n : ℕ) → maps.address address ≡ Some n
      → (named b.maps.addresses address ≡ Some n) ⊎ Has v.known address n
  pub fresh : (address n : ℕ) → Has v.known address n → IsFresh s address

-- What the view has counted and found is so: of the first free place, of the forwarding words, and of the stop word.
pub record CountsEnd (b : Began) (stop : ℕ) (s : State) (v : View) : Type 0 where
  pub free : s.free ≡ b.free + v.claimed
  pub spaced : v.spaced ≡ true → b.size + 1 < s.free
  pub won : filled_count s.forward b.forwards ≡ v.won
  pub forwarded : v.forwarded ≡ true → (p : ℕ) → p < b.forwards → s.forward p ≢ 0
  pub bit : (stop ≡ 0) ⊎ (stop ≡ 1)
  pub stopped : v.stopped ≡ true → stop ≡ 1
  pub caused : stop ≡ 1 → has_cause v ≡ true
  pub sets : has_cause v ≡ true → is_lacking v.doing ≡ false → stop ≡ 1

-- The words stand for the history that the view has seen. Where it is told, each object that was made in the epoch has
-- an address, and the words have the stale bit as the history says.
pub record HasEnded (start : Start) (words : List ℕ) (v : View) : Type 0 where
  pub size : length words ≡ globals_from + start.began.globals + start.began.forwards + start.began.size
  pub maps : Maps
  pub holds : Holds start.began.told v.seen maps (shows start.began words)
  pub history : HistoryEnds start v
  pub named : MapsEnd start.began maps (shows start.began words) v
  pub counts : CountsEnd start.began (slice_index words 0) (shows start.began words) v
  pub stay : start.began.told ≡ true → MadeStay start.began.history v.seen maps
  pub bits : start.began.told ≡ true
      → BitsTold (first_sight start.began) (last_sight v.seen maps (shows start.began words))
