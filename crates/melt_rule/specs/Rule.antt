-- The rule: what holds of the words of an epoch and of the views of its seats between any two steps.
use Rattle.std.specs.Prelude.{◌≡◌, ◌≢◌, ◌⊎◌, ℕ, zero, suc, ◌+◌, ◌*◌, ◌<◌, ◌≤◌, ◌||◌, Bool, true, false}
use Rattle.std.specs.Prelude.{List, [], ◌∷◌, ◌++◌, length, map, Option, None, Some, slice_index}
use Rattle.std.specs.List.{sum_by}
use mathlib.Core.Option.{some}
use lib.ListN.{get_elem?}
use Rattle.atomic_table.specs.Table.{State as Table}
use Rattle.melt_model.specs.History.{Legal, made, shape}
use Rattle.melt_model.specs.Thread.{own}
use Rattle.melt_model.specs.declared.history.Entry.{Entry}
use Rattle.melt_word.specs.declared.header.Shape.{Shape}
use Rattle.melt_record.specs.declared.head.Kind.TheVariants.{Body}
use Rattle.melt_scion.specs.GhostMaps.{named}
use Rattle.melt_scion.specs.Placed.{Maps, Holds, HeadIs}
use Rattle.melt_scion.specs.Regions.{Apart}
use Rattle.melt_scion.specs.State.{State, IsFresh}
use Rattle.melt_rule.specs.Giving.{spent_view}
use Rattle.melt_core.specs.StaleBits.{Tied, sight_of}
use Rattle.melt_rule.specs.Shown.{base_at, shows, globals_from, Knows, owned}
use Rattle.melt_rule.specs.Sights.{first_sight, stage_at}
use Rattle.melt_rule.specs.declared.began.Began.{Began}
use Rattle.melt_rule.specs.declared.began.Pair.{Pair}
use Rattle.melt_rule.specs.declared.began.Start.{Start}
use Rattle.melt_rule.specs.declared.view.Away.{Away}
use Rattle.melt_rule.specs.declared.view.Doing.{Doing}
use Rattle.melt_rule.specs.declared.view.Doing.TheVariants.{Cleared, Lacking, LackingCopy}
use Rattle.melt_rule.specs.declared.view.View.{View}

-- the list has the pair
abbrev pub Has : List Pair → ℕ → ℕ → Type 0
Has pairs address n = (i : ℕ) × (get_elem? pairs i ≡ some (record { address = address; object = n }))

-- the second history is the first, and more after it
abbrev pub Begins : List Entry → List Entry → Type 0
Begins g h = (more : List Entry) × (g ++ more ≡ h)

-- Each object that was made after the first history has an address.
abbrev pub MadeStay : List Entry → List Entry → Maps → Type 0
MadeStay g h maps = (n : ℕ) → made g ≤ n → n < made h → (a : ℕ) × (maps.address a ≡ Some n)

-- some seat knows the pair
pub record Knowing (views : List View) (address n : ℕ) : Type 0 where
  pub seat : ℕ
  pub view : View
  pub at : get_elem? views seat ≡ some view
  pub knows : Has view.known address n

-- What a thread has seen is a beginning of the history, and has all entries of the thread.
pub record Saw (h : List Entry) (thread : ℕ) (seen : List Entry) : Type 0 where
  pub begins : Begins seen h
  pub own_same : own h thread ≡ own seen thread

-- What is true of what a seat knows. Its view has the state with which the epoch began. It and its own thread have seen
-- beginnings of the history, each with all entries of the thread. What it knows of addresses and of its call is so.
pub record SeatStands (b : Began) (maps : Maps) (s : State) (h : List Entry) (v : View) : Type 0 where
  pub began : v.began ≡ b
  pub seen : Saw h v.thread v.seen
  pub mine : Saw h v.thread v.mine
  pub known : (address n : ℕ) → Has v.known address n → maps.address address ≡ Some n
  pub fresh : (address n : ℕ) → Has v.known address n → IsFresh s address
  pub doing : Knows b.told maps s v.rest v.doing

-- the threads that a seat speaks for, its own first
abbrev pub threads_of : View → List ℕ
threads_of v = v.thread ∷ map (λ (a : Away). a.thread) v.away

-- the thread takes part in the epoch
abbrev pub TakesPart : Began → ℕ → Type 0
TakesPart b t = (p : ℕ) × (get_elem? b.threads p ≡ some t)

-- some seat has seen the whole history
pub record Whole (h : List Entry) (views : List View) : Type 0 where
  pub seat : ℕ
  pub view : View
  pub at : get_elem? views seat ≡ some view
  pub live : 0 < view.parts
  pub seen : view.seen ≡ h

-- The two maps are those of the beginning, and the pairs that seats know.
pub record MapsStand (b : Began) (maps : Maps) (views : List View) : Type 0 where
  pub homes : (home : ℕ) → maps.home home ≡ named b.maps.homes home
  pub begun : (address n : ℕ) → named b.maps.addresses address ≡ Some n → maps.address address ≡ Some n
  pub only : (address n : ℕ) → maps.address address ≡ Some n
      → (named b.maps.addresses address ≡ Some n) ⊎ Knowing views address n

-- The object of a home has the shape of the Body that stands there on disk, if one does.
abbrev pub BodiesTell : Began → Type 0
BodiesTell b = (home n : ℕ) (z : Shape) → named b.maps.homes home ≡ Some n
    → HeadIs (base_at b) home (record { shape = z; kind = Body })
    → shape b.history n ≡ Some (record { refs = z.refs; nums = z.nums })

-- 1 for a word that is filled
abbrev pub filled_one : ℕ → ℕ
filled_one zero = 0
filled_one (suc word) = 1

-- how many of the first n words are filled
abbrev pub filled_count : (ℕ → ℕ) → ℕ → ℕ
filled_count word zero = 0
filled_count word (suc n) = filled_count word n + filled_one (word n)

-- What the numbers in views add up to. Each claim that ends past the last word is of a seat that lacks words since;
-- with as many such claims as there are threads at most, the first free place stays small.
pub record SumsStand (b : Began) (threads : ℕ) (s : State) (views : List View) : Type 0 where
  pub parts : sum_by (λ (v : View). v.parts) views ≡ threads
  pub free : s.free ≡ b.free + sum_by (λ (v : View). v.claimed) views
  pub bound : s.free ≤ b.size + 1 + 126 * sum_by (λ (v : View). v.over) views
  pub over : (id : ℕ) (v : View) → get_elem? views id ≡ some v → v.over ≤ v.parts
  pub won : filled_count s.forward b.forwards ≡ sum_by (λ (v : View). v.won) views

-- a view has a cause to stop
abbrev pub has_cause : View → Bool
has_cause v = v.asked || (v.spaced || v.forwarded)

-- The call claimed words that end past the last one: its next step sets the stop word.
abbrev pub is_lacking : Option Doing → Bool
is_lacking (Some (Lacking need)) = true
is_lacking (Some (LackingCopy search shape)) = true
is_lacking doing = false

-- The call is to read the slot of its look next: the object that it found there has no stale bit by now.
abbrev pub is_reading : Option Doing → Bool
is_reading (Some (Cleared place found target)) = true
is_reading doing = false

-- Either way it may not be left as it is.
abbrev pub is_bound : Option Doing → Bool
is_bound doing = is_lacking doing || is_reading doing

-- The stop word is set where a seat has a cause, once the call that found it has set it, and only where some seat has
-- one. What a cause and a word that was found set say is so.
pub record StopStands (b : Began) (stop : ℕ) (s : State) (views : List View) : Type 0 where
  pub bit : (stop ≡ 0) ⊎ (stop ≡ 1)
  pub caused : stop ≡ 1 → (id : ℕ) × (v : View) × (get_elem? views id ≡ some v) × (has_cause v ≡ true)
  pub sets : (id : ℕ) (v : View) → get_elem? views id ≡ some v → has_cause v ≡ true → is_lacking v.doing ≡ false
      → stop ≡ 1
  pub stopped : (id : ℕ) (v : View) → get_elem? views id ≡ some v → v.stopped ≡ true → stop ≡ 1
  pub spaced : (id : ℕ) (v : View) → get_elem? views id ≡ some v → v.spaced ≡ true → b.size + 1 < s.free
  pub lacks : (id : ℕ) (v : View) → get_elem? views id ≡ some v → v.over ≢ 0 → v.spaced ≡ true
  pub forwarded : (id : ℕ) (v : View) → get_elem? views id ≡ some v → v.forwarded ≡ true → (p : ℕ) → p < b.forwards
      → s.forward p ≢ 0

-- There is one history. It is legal, and the words stand for it. Each seat that is not spent knows what is so, and one
-- that is spent knows and counts nothing; no thread has two seats; no word belongs to two calls. No thread but those
-- that take part has an entry since the beginning. What a Body on disk says of the shape of its object stays so where
-- the object comes back. Where it is told, each object that was made since the beginning has an address, and the stale
-- bit is tied to the history since then.
pub record Kept (start : Start) (words : List ℕ) (views : List View) : Type 0 where
  pub history : List Entry
  pub maps : Maps
  pub size : length words ≡ globals_from + start.began.globals + start.began.forwards + start.began.size
  pub legal : start.began.told ≡ true → Legal history start.began.globals
  pub holds : Holds start.began.told history maps (shows start.began words)
  pub first : 1 ≤ start.began.free
  pub few : length start.began.threads ≤ 8
  pub bodies : start.began.told ≡ true → BodiesTell start.began
  pub maps_stand : MapsStand start.began maps views
  pub seats : (id : ℕ) (v : View) → get_elem? views id ≡ some v → 0 < v.parts
      → SeatStands start.began maps (shows start.began words) history v
  pub away : (id p : ℕ) (v : View) (a : Away) → get_elem? views id ≡ some v → 0 < v.parts → get_elem? v.away p ≡ some a
      → Saw history a.thread a.seen
  pub spent : (id : ℕ) (v : View) → get_elem? views id ≡ some v → v.parts ≡ 0 → v ≡ spent_view
  pub distinct : (i j p q t : ℕ) (v w : View) → get_elem? views i ≡ some v → get_elem? views j ≡ some w → 0 < v.parts
      → 0 < w.parts → get_elem? (threads_of v) p ≡ some t → get_elem? (threads_of w) q ≡ some t → (i ≡ j) × (p ≡ q)
  pub apart : (i j : ℕ) (v w : View) → i ≢ j → get_elem? views i ≡ some v → get_elem? views j ≡ some w → 0 < v.parts
      → 0 < w.parts → Apart (owned v.doing) (owned w.doing)
  pub whole : Whole history views
  pub members : (id p t : ℕ) (v : View) → get_elem? views id ≡ some v → 0 < v.parts
      → get_elem? (threads_of v) p ≡ some t → TakesPart start.began t
  pub since : Begins start.began.history history
  pub stay : start.began.told ≡ true → MadeStay start.began.history history maps
  pub strangers : (t : ℕ) → ((id p : ℕ) (v : View) → get_elem? views id ≡ some v → 0 < v.parts
      → get_elem? (threads_of v) p ≡ some t → ⊥) → own history t ≡ own start.began.history t
  pub sums : SumsStand start.began (length start.began.threads) (shows start.began words) views
  pub stop : StopStands start.began (slice_index words 0) (shows start.began words) views
  pub tied : start.began.told ≡ true
      → Tied (first_sight start.began) (sight_of history maps (shows start.began words) (stage_at views))

abbrev pub Rule : Start → Table ℕ View → Type 0
Rule start table = Kept start table.words table.views

abbrev pub first_or_0 : List ℕ → ℕ
first_or_0 [] = 0
first_or_0 (t ∷ ts) = t

abbrev pub others_of : List ℕ → List ℕ
others_of [] = []
others_of (t ∷ ts) = ts

-- the view of the first seat: it speaks for all threads, of which all but the first are away
abbrev pub first_view : Start → View
first_view start = record {
  parts = length start.began.threads;
  thread = first_or_0 start.began.threads;
  began = start.began;
  seen = start.began.history;
  mine = start.began.history;
  known = start.held;
  doing = None;
  rest = [];
  claimed = 0;
  over = 0;
  won = 0;
  steps = 0;
  away = map (λ t. record { thread = t; seen = start.began.history }) (others_of start.began.threads);
  stopped = false;
  asked = false;
  spaced = false;
  forwarded = false;
}
