-- A run at rest between two epochs, and with what the next one begins. That is told by what the run has at hand, so a
-- run carries nothing else from one epoch into the next.
use Rattle.std.specs.Prelude.{◌≡◌, ℕ, zero, suc, ◌+◌, ◌^◌, ◌≤◌, Bool, true, List, [], ◌∷◌, length, map, All}
use Rattle.std.specs.Prelude.{Option, None, Some}
use Rattle.std.specs.Option.{option_map, option_map_or, option_and_then}
use Rattle.melt_model.specs.History.{Legal, shape}
use Rattle.melt_model.specs.History as model
use Rattle.melt_model.specs.declared.history.Entry.{Entry}
use Rattle.melt_word.specs.Words.{cost_of}
use Rattle.melt_word.specs.declared.header.Shape.{Shape}
use Rattle.melt_scion.specs.GhostMaps.{named}
use Rattle.melt_scion.specs.Heaps.{HasMaps, IsSettled, OnDisk, state_of}
use Rattle.melt_scion.specs.Placed.{Holds, Maps}
use Rattle.melt_scion.specs.Scions.{EachOnce}
use Rattle.melt_scion.specs.declared.heap.Heap.{Heap}
use Rattle.melt_rule.specs.Shown.{globals_from}
use Rattle.melt_rule.specs.declared.began.Began.{Began}
use Rattle.melt_rule.specs.declared.began.Pair.{Pair}
use Rattle.melt_rule.specs.declared.began.Start.{Start}
use Rattle.melt_epoch.specs.Ends.{HoldsValues}
use Rattle.melt_epoch.specs.declared.mutator.Mutator.{Mutator}
use Rattle.melt_safepoint.specs.Shown.{Underlies}
use Rattle.melt_pool.specs.declared.rest.Paused.{Paused}

-- the shape of the object that has this home
abbrev pub shape_at : List Entry → List (ℕ × ℕ) → ℕ → Option Shape
shape_at h homes home = option_map (λ (z : model.Shape). record { refs = z.refs; nums = z.nums })
    (option_and_then (shape h) (named homes home))

-- the homes that lie one after the other from this word on, each with the shape of its object, of so many at most
abbrev pub homes_along : List Entry → List (ℕ × ℕ) → (most from : ℕ) → List (ℕ × Shape)
homes_along h homes zero from = []
homes_along h homes (suc most) from =
    option_map_or (λ (z : Shape). (from, z) ∷ homes_along h homes most (from + cost_of z)) (shape_at h homes from) []

-- the pairs, and one more where an object is named at an address that is not 0
abbrev pub pair_onto : List (ℕ × ℕ) → ℕ → List Pair → List Pair
pair_onto addresses zero pairs = pairs
pair_onto addresses (suc a) pairs =
    option_map_or (λ (n : ℕ). record { address = suc a; object = n } ∷ pairs) (named addresses (suc a)) pairs

-- one more for each register
abbrev pub pairs_onto : List (ℕ × ℕ) → List ℕ → List Pair → List Pair
pairs_onto addresses [] pairs = pairs
pairs_onto addresses (address ∷ regs) pairs = pair_onto addresses address (pairs_onto addresses regs pairs)

-- the objects that registers hold
abbrev pub pairs_held : {R : Type 0} → List (ℕ × ℕ) → List (Mutator R) → List Pair
pairs_held addresses [] = []
pairs_held addresses (m ∷ ms) = pairs_onto addresses m.registers.regs (pairs_held addresses ms)

-- the words that are told, where any are
abbrev pub words_told : Option (List ℕ) → List ℕ
words_told None = []
words_told (Some words) = words

-- what the reader of the first mutator tells
abbrev pub first_image : {R : Type 0} → (R → Option (List ℕ)) → List (Mutator R) → Option (List ℕ)
first_image image [] = None
first_image image (m ∷ ms) = option_and_then image m.reader

-- With what an epoch begins, over a disk whose homes end at this word and none of which is free.
abbrev pub start_of : {R : Type 0} → (R → Option (List ℕ)) → Bool → Heap → List Entry → ℕ → List (Mutator R) → Start
start_of {R} image told heap h end ms = record {
  began = record {
    history = h;
    threads = map (λ (m : Mutator R). m.thread) ms;
    told = told;
    size = length heap.space.list;
    globals = length heap.globals;
    forwards = length heap.forward;
    scions = heap.scions;
    end = end;
    homes = homes_along h heap.maps.homes end 1;
    free_homes = [];
    image = words_told (first_image image ms);
    free = heap.space.used + 1;
    words = heap.space.list;
    maps = heap.maps;
  };
  held = pairs_held heap.maps.addresses ms;
}

-- A mutator at rest has no seat, but a reader of the disk, which tells these words or none. Its registers stand for
-- their values.
pub record RestsOn {R : Type 0} (image : R → Option (List ℕ)) (words : Option (List ℕ)) (maps : Maps) (heap : Heap)
    (disk : OnDisk) (m : Mutator R) : Type 0 where
  pub unseated_yet : m.seat ≡ None
  pub reader : R
  pub there : m.reader ≡ Some reader
  pub tells : image reader ≡ words
  pub size : length m.values ≡ 16
  pub values : HoldsValues maps (state_of heap [] disk) m

-- A run at rest: the heap stands for the history, over a disk that is seen so. The heap keeps no names, has forwarding
-- words, none of which is filled, and is small enough for the words of an epoch.
pub record IsAtRest {R : Type 0} (image : R → Option (List ℕ)) (told : Bool) (heap : Heap) (h : List Entry) (end : ℕ)
    (ms : List (Mutator R)) : Type 0 where
  pub words : Option (List ℕ)
  pub maps : Maps
  pub disk : OnDisk
  pub under : Underlies told end words disk
  pub none_free : disk.free_homes ≡ []
  pub has_maps : HasMaps heap maps
  pub nameless : heap.names ≡ None
  pub settled : IsSettled heap
  pub some_forward : 1 ≤ length heap.forward
  pub holds : Holds told h maps (state_of heap [] disk)
  pub legal : told ≡ true → Legal h (length heap.globals)
  pub few_globals : length heap.globals ≤ 255
  pub few_words : globals_from + length heap.globals + length heap.forward + length heap.space.list ≤ 2 ^ 32
  pub some_thread : 1 ≤ length ms
  pub few : length ms ≤ 8
  pub each_once : EachOnce (map (λ (m : Mutator R). m.thread) ms)
  pub each : All (RestsOn image words maps heap disk) ms

-- what is fixed when the next epoch of a run begins
abbrev pub began_at : {R : Type 0} → (R → Option (List ℕ)) → Paused → List (Mutator R) → Began
began_at image p ms = (start_of image p.told p.heap p.pass p.end ms).began
