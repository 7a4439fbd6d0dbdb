-- What a run of real threads shows between two epochs, by its parts: heap, history and registers. Its heap keeps no
-- names; for contracts they are made of the maps that it has for them.
use Rattle.std.specs.Prelude.{◌≡◌, ℕ, ◌+◌, ◌^◌, ◌≤◌, false, List, length, replicate, slice_get, None, Some}
use Rattle.std.specs.Option.{is_some}
use Rattle.melt_model.specs.History.{made}
use Rattle.melt_model.specs.declared.history.Entry.{Entry}
use Rattle.melt_scion.specs.declared.heap.Heap.{Heap}
use Rattle.melt_scion.specs.declared.registers.Registers.{Registers}
use Rattle.melt_core.specs.Epochs.{NamesWithin}
use Rattle.melt_core.specs.Views.{View, max_rest, names_for, values_of}
use Rattle.melt_epoch.specs.declared.mutator.Mutator.{Mutator}
use Rattle.melt_rule.specs.Shown.{globals_from}
use Rattle.melt_safepoint.specs.Resting.{Beside, rest_view}

-- no history of a run is longer
abbrev pub most_entries : ℕ
most_entries = 8388608

-- what stands beside the heap: no call is in flight
abbrev pub beside_of : Heap → List Entry → List Registers → Beside
beside_of heap h registers = record {
  names = Some (names_for (length heap.space.list) heap.maps);
  held = registers;
  calls = replicate (length registers) None;
  records = replicate (length registers) (replicate max_rest 0);
  log = h;
  capacity = most_entries;
  made = made h;
}

abbrev pub parts_view : Heap → List Entry → List Registers → View
parts_view heap h registers = rest_view heap (beside_of heap h registers)

-- A heap that keeps no names, and is small enough for the words of an epoch. Its maps name addresses of its words
-- alone.
pub record IsNameless (heap : Heap) : Type 0 where
  pub nameless : is_some heap.names ≡ false
  pub within : NamesWithin heap
  pub some_forward : 1 ≤ length heap.forward
  pub few_globals : length heap.globals ≤ 255
  pub few_words : globals_from + length heap.globals + length heap.forward + length heap.space.list ≤ 2 ^ 32

-- The mutator of a thread between two epochs has neither a seat nor a reader. It has the values that its registers
-- stand for, which are kept apart.
pub record IsAway {R : Type 0} (v : View) (t : ℕ) (m : Mutator R) : Type 0 where
  pub thread : m.thread ≡ t
  pub no_seat : is_some m.seat ≡ false
  pub no_reader : is_some m.reader ≡ false
  pub size : length m.values ≡ 16
  pub values : m.values ≡ values_of v t

-- and so those of all threads, 8 at most
pub record AreAway {R : Type 0} (v : View) (registers : List Registers) (ms : List (Mutator R)) : Type 0 where
  pub count : length ms ≡ length registers
  pub few : length ms ≤ 8
  pub each : (t : ℕ) (m : Mutator R) → slice_get ms t ≡ Some m → IsAway v t m
