-- The state of a core that the words of an epoch show, and what is known of a call over it.
use Rattle.std.specs.Prelude.{ℕ, ◌+◌, Bool, List, [], ◌∷◌, map, take, drop, slice_index, Option, None, Some}
use Rattle.std.specs.Option.{option_map}
use Rattle.melt_word.specs.declared.header.Shape.{Shape}
use Rattle.melt_space.specs.Space.{SpaceWords, word_at}
use Rattle.melt_scion.specs.GhostMaps.{named}
use Rattle.melt_scion.specs.Heaps.{scion_in}
use Rattle.melt_scion.specs.Placed.{Maps}
use Rattle.melt_scion.specs.Regions.{Region, no_region}
use Rattle.melt_scion.specs.State.{Base, Home, State}
use Rattle.melt_core.specs.Known.{Known, region_of}
use Rattle.melt_core.specs.declared.call.Access.TheVariants.{Get}
use Rattle.melt_core.specs.declared.call.Stage.{Stage}
use Rattle.melt_core.specs.declared.call.Stage.TheVariants as stage
use Rattle.melt_core.specs.declared.call.Task.TheVariants.{LoadGlobal}
use Rattle.melt_rule.specs.declared.began.Began.{Began}
use Rattle.melt_rule.specs.declared.view.Doing.{Doing}
use Rattle.melt_rule.specs.declared.view.Doing.TheVariants.{Polled, Headed, Looked, Cleared, Claimed, Lacking}
use Rattle.melt_rule.specs.declared.view.Doing.TheVariants.{Searching, Missed, Copying, Copied, Retrying, LackingCopy}

abbrev pub home_of : ℕ × Shape → Home
home_of home = record { at = home.0; shape = home.1 }

-- what no step changes
abbrev pub base_at : Began → Base
base_at b = record {
  size = b.size;
  globals = b.globals;
  forwards = b.forwards;
  scion = scion_in b.scions;
  end = b.end;
  homes = map home_of b.homes;
  free_homes = b.free_homes;
  image = slice_index b.image;
}

-- the maps with which an epoch begins
abbrev pub maps_at : Began → Maps
maps_at b = record { address = named b.maps.addresses; home = named b.maps.homes }

-- The words of an epoch are, in this order: the stop word, the first free place, the globals, the forwarding words, and
-- the words of the space. After the stop word and the first free place stand seven words each that nobody uses, so
-- that a line of the cache, which has eight, holds no two of stop word, first free place and globals.
abbrev pub free_place : ℕ
free_place = 8

abbrev pub globals_from : ℕ
globals_from = 16

-- the words before the globals
abbrev pub leading_words : (stop free : ℕ) → List ℕ
leading_words stop free = stop ∷ 0 ∷ 0 ∷ 0 ∷ 0 ∷ 0 ∷ 0 ∷ 0 ∷ free ∷ 0 ∷ 0 ∷ 0 ∷ 0 ∷ 0 ∷ 0 ∷ 0 ∷ []

abbrev pub globals_in : Began → List ℕ → List ℕ
globals_in b words = take b.globals (drop globals_from words)

abbrev pub forwards_in : Began → List ℕ → List ℕ
forwards_in b words = take b.forwards (drop (globals_from + b.globals) words)

abbrev pub space_in : Began → List ℕ → SpaceWords
space_in b words = record { list = drop (globals_from + b.globals + b.forwards) words; used = 0 }

-- where the word of a global stands, a forwarding word, and the word of an address; these begin at 1, and not at 0
abbrev pub global_place : ℕ → ℕ
global_place g = globals_from + g

abbrev pub forward_place : Began → ℕ → ℕ
forward_place b p = globals_from + b.globals + p

abbrev pub word_place : Began → ℕ → ℕ
word_place b address = 15 + b.globals + b.forwards + address

-- the state of the words, registers aside
abbrev pub shows : Began → List ℕ → State
shows b words = record {
  base = base_at b;
  free = slice_index words free_place;
  word = word_at (space_in b words);
  global = slice_index (globals_in b words);
  forward = slice_index (forwards_in b words);
  register = λ t r. 0;
}

-- the stage of the core at which the call is, whatever it is to do
abbrev pub core_stage : Doing → Stage
core_stage Polled = stage.Polled (LoadGlobal 0 0)
core_stage (Headed address shape) = stage.Headed address shape (Get 0)
core_stage (Looked place found target) = stage.Looked place found target 0
core_stage (Cleared place found target) = stage.Cleared place found target 0
core_stage (Claimed address shape stored) = stage.Claimed address shape stored 0
core_stage (Lacking need) = stage.Lacking need
core_stage (Searching search) = stage.Searching search
core_stage (Missed search) = stage.Missed search
core_stage (Copying a stored) = stage.Copying a stored
core_stage (Copied a) = stage.Copied a
core_stage (Retrying a) = stage.Retrying a
core_stage (LackingCopy search shape) = stage.LackingCopy search shape

abbrev pub staged : Option Doing → Option Stage
staged doing = option_map core_stage doing

-- what is known of a call, and the words that it owns
abbrev pub Knows : Bool → Maps → State → List ℕ → Option Doing → Type 0
Knows told maps s rest None = Unit {0}
Knows told maps s rest (Some doing) = Known told maps s rest (core_stage doing)

abbrev pub owned : Option Doing → Region
owned None = no_region
owned (Some doing) = region_of (core_stage doing)
