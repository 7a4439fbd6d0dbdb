-- An epoch on any well-formed heap, over a disk of which nothing is told, with the empty history; and the heap
-- afterwards.
use Rattle.std.proofs.Common.{◌≡◌, ℕ, ◌+◌, ◌<◌, false, List, [], ◌∷◌, length}
use Rattle.std.proofs.Common.{refl, sym, ◌∙◌, ap, subst, arith, inl}
use Rattle.std.proofs.Math.Path.{fun_ext}
use Rattle.std.proofs.lemmas.List.{length-map, length-replicate, length-set}
use Rattle.std.proofs.lemmas.List.Elements.{All-cons, All-nil, All-set}
use Rattle.std.specs.Prelude.{◌/◌, Option, None, Result, Ok, Err, IfOk, ◌^◌, All, map, slice_set}
use Rattle.melt_model.specs.declared.words.NoMemory.{NoMemory}
use Rattle.melt_model.specs.declared.history.Entry.{Entry}
use Rattle.melt_model.specs.declared.history.Value.TheVariants.{Nil}
use Rattle.melt_scion.specs.GhostMaps.{NamePairs, named}
use Rattle.melt_scion.specs.Heaps.{AreScionsFor, HasMaps, HasNames, IsNewHeap, NamesMade, no_homes_on, state_of}
use Rattle.melt_scion.specs.Placed.{FormedWords, Maps}
use Rattle.melt_scion.specs.declared.heap.Heap.{Heap}
use Rattle.melt_scion.specs.declared.heap.Names.{Names}
use Rattle.melt_scion.proofs.ScionTables.{empty_is_table}
use Rattle.melt_scion.proofs.Starting.{Formed_start, new_heap_empty, settled_gaps}
use Rattle.melt_rule.specs.Seats.{EpochWords}
use Rattle.melt_rule.specs.Shown.{maps_at}
use Rattle.melt_rule.specs.declared.began.Began.{Began}
use Rattle.melt_rule.specs.declared.began.Start.{Start}
use Rattle.melt_move.specs.Collecting.{IsFormedOn}
use Rattle.melt_epoch.specs.Ends.{HasEnded, HasJoined, HeapBegins, HistoryBegins, MutatorBegins}
use Rattle.melt_epoch.specs.Ends.{MutatorsBegin, disk_of, unseated}
use Rattle.melt_epoch.specs.Mutators.{HasReader, IsSeated}
use Rattle.melt_epoch.specs.Tests.{HasBegun, MayCall, eight}
use Rattle.melt_epoch.specs.declared.epoch.Epoch.{Epoch}
use Rattle.melt_epoch.specs.declared.mutator.Mutator.{Mutator}
use Rattle.melt_epoch.proofs.Empty.{begun_all, eight_once, none_held}
use Rattle.melt_epoch_tests.specs.Scenes.{AreNew, GoesOnScene, IsNewMutator, IsReadyHeap}
use Rattle.melt_epoch_tests.proofs.OtherDisk.{words_on_other}

-- what such an epoch begins with
abbrev pub untold_start : Heap → ℕ → Start
untold_start heap end = record {
  began = record {
    history = [];
    threads = eight;
    told = false;
    size = length heap.space.list;
    globals = length heap.globals;
    forwards = length heap.forward;
    scions = heap.scions;
    end = end;
    homes = [];
    free_homes = [];
    image = [];
    free = heap.space.used + 1;
    words = heap.space.list;
    maps = heap.maps;
  };
  held = [];
}

-- the maps of a heap that keeps no names are those for contracts
maps_are : (heap : Heap) (maps : Maps) → heap.names ≡ None → HasMaps heap maps
    → maps ≡ record { address = named heap.maps.addresses; home = named heap.maps.homes }
maps_are heap maps nameless has =
    let both : HasNames None heap.maps maps = subst (λ (o : Option Names). HasNames o heap.maps maps) nameless has in
    ap (λ (address : ℕ → Option ℕ). record { address = address; home = maps.home }) (fun_ext both.0)
    ∙ ap (λ (home : ℕ → Option ℕ). record { address = named heap.maps.addresses; home = home }) (fun_ext both.1)

threads_are : {R : Type 0} (ts : List ℕ) (ms : List (Mutator R)) → AreNew ts ms
    → map (λ (m : Mutator R). m.thread) ms ≡ ts
threads_are [] [] none = refl
threads_are [] (m ∷ ms) none = elim none [ ]
threads_are (t ∷ ts) [] none = elim none [ ]
threads_are {R} (t ∷ ts) (m ∷ ms) (new, rest) =
    ap (λ (x : ℕ). x ∷ map (λ (m : Mutator R). m.thread) ms) new.thread_is
    ∙ ap (λ (xs : List ℕ). t ∷ xs) (threads_are ts ms rest)

module _ (heap : Heap) (end : ℕ) (formed : IsFormedOn heap [] end) (ready : IsReadyHeap heap) where
  abbrev start : Start
  start = untold_start heap end

  formed_words : FormedWords (maps_at start.began) (state_of heap [] (disk_of start.began))
  formed_words = words_on_other (maps_at start.began) heap [] [] formed.disk (disk_of start.began) formed.end_is
      (subst (λ (maps : Maps). FormedWords maps (state_of heap [] formed.disk))
      (maps_are heap formed.maps ready.nameless formed.names) formed.formed.words)

  pub untold_heap : HeapBegins start.began heap end
  untold_heap = record {
    size = refl;
    globals = refl;
    forwards = refl;
    scions = refl;
    ends = refl;
    free = refl;
    words = refl;
    maps = refl;
    nameless = ready.nameless;
    settled = ready.settled;
    few_globals = ready.few_globals;
    few_words =
        let small : length heap.space.list < 2 ^ 30 = formed_words.small in
        omega (arith, ready.few_globals, ready.few_forwards, small);
  }

  pub untold_history : HistoryBegins start heap []
  untold_history = record {
    history_is = refl;
    legal = λ told. absurd (cc);
    holds = record {
      formed = formed_words;
      no_gaps = settled_gaps (state_of heap [] (disk_of start.began)) ready.settled;
      tells = λ told. absurd (cc);
    };
    held = λ address n has. absurd (cc);
    fresh = λ address n has. absurd (cc);
  }

  new_begins : {R : Type 0} (image : R → Option (List ℕ)) (t : ℕ) (m : Mutator R) → IsNewMutator t m
      → MutatorBegins image start m
  new_begins image t m new = record {
    unseated_yet = new.unseated;
    reader = new.reader;
    there = new.there;
    tells = λ told. absurd (cc);
    size = ap length new.values ∙ length-replicate 16 Nil;
    registers = none_held [] m.registers.regs m.values new.registers new.values;
  }

  all_begin : {R : Type 0} (image : R → Option (List ℕ)) (ts : List ℕ) (ms : List (Mutator R)) → AreNew ts ms
      → All (MutatorBegins image start) ms
  all_begin {R} image [] [] none = All-nil (MutatorBegins image start)
  all_begin {R} image [] (m ∷ ms) none = elim none [ ]
  all_begin {R} image (t ∷ ts) [] none = elim none [ ]
  all_begin {R} image (t ∷ ts) (m ∷ ms) (new, rest) =
      All-cons (MutatorBegins image start) m ms (new_begins image t m new) (all_begin image ts ms rest)

  pub untold_mutators : {R : Type 0} (image : R → Option (List ℕ)) (ms : List (Mutator R)) → AreNew eight ms
      → MutatorsBegin image start ms
  untold_mutators {R} image ms new =
      let threads : map (λ (m : Mutator R). m.thread) ms ≡ eight = threads_are eight ms new in
      let size : length ms ≡ 8 = sym (length-map ms (λ (m : Mutator R). m.thread)) ∙ ap length threads in
      record {
        some_thread = omega (arith, size);
        few = omega (arith, size);
        threads = threads;
        each_once = eight_once;
        each = all_begin image eight ms new;
      }

  pub untold_goes : {R : Type 0} (image : R → Option (List ℕ)) (result : Result Epoch NoMemory)
      (ms olds : List (Mutator R)) → AreNew eight olds → map unseated ms ≡ olds
      → IfOk result (λ (epoch : Epoch). epoch.words.start ≡ start)
      → IfOk result (λ (epoch : Epoch). All (HasJoined epoch.words) ms)
      → IfOk result (λ (epoch : Epoch). All (HasReader image epoch.words) ms)
      → IfOk result (λ (epoch : Epoch). GoesOnScene image epoch ms (length heap.globals) end)
  untold_goes {R} image (Ok epoch) ms olds new kept is joined readers =
      let threads : map (λ (m : Mutator R). m.thread) olds ≡ eight = threads_are eight olds new in
      let size : length olds ≡ 8 = sym (length-map olds (λ (m : Mutator R). m.thread)) ∙ ap length threads in
      record {
        begun = begun_all image (Ok epoch) start ms olds (omega (arith, size)) (sym size) kept is joined readers;
        globals_is = ap (λ (s : Start). s.began.globals) (sym is);
        end_is = ap (λ (s : Start). s.began.end) is;
        scions = subst (λ (s : Start). AreScionsFor s.began.size s.began.scions) (sym is) formed.made.scions;
      }
  untold_goes image (Err refused) ms olds new kept is joined readers = tt

-- Where a mutator stands at its place again that may make calls, all may.
pub begun_set : {R : Type 0} (image : R → Option (List ℕ)) (words : EpochWords) (ms : List (Mutator R)) (k : ℕ)
    (m : Mutator R) → MayCall image words m → HasBegun image words ms → HasBegun image words (slice_set ms k m)
begun_set {R} image words ms k m (seated, has) (may, all) =
    let size : length (slice_set ms k m) ≡ length ms = length-set ms k m in (
      record {
        some_thread = omega (arith, size, may.some_thread);
        all = size ∙ may.all;
        seated = All-set (IsSeated words) ms k m seated may.seated;
      },
      All-set (HasReader image words) ms k m has all,
    )

-- after an epoch that began so
pub ended_formed : {R : Type 0} (b : Began) (ms : List (Mutator R)) (heap : Heap) (h : List Entry) (end : ℕ)
    → HasEnded b ms heap h → b.end ≡ end → AreScionsFor b.size b.scions → IsFormedOn heap [] end
ended_formed b ms heap h end ended ends scions = record {
  maps = ended.maps;
  disk = disk_of b;
  end_is = ends;
  names = ended.has_maps;
  made = record {
    scions = subst (λ (size : ℕ). AreScionsFor size heap.scions) (sym ended.heap_ends.size)
        (subst (AreScionsFor b.size) (sym ended.heap_ends.scions) scions);
    names = subst (NamesMade (length heap.space.list)) (sym ended.heap_ends.nameless) tt;
  };
  formed = record { words = ended.holds.formed; registers = λ t r. inl refl };
}

abbrev no_maps : Maps
no_maps = record { address = λ a. None; home = λ home. None }

-- and on a new heap, over a disk without homes
pub new_formed : (heap : Heap) (words globals forwards : ℕ) → words < 2 ^ 30
    → IsNewHeap words globals forwards false heap → IsFormedOn heap [] 1
new_formed heap words globals forwards small new = record {
  maps = no_maps;
  disk = no_homes_on;
  end_is = refl;
  names = subst (λ (o : Option Names). HasNames o heap.maps no_maps) (sym new.names)
      (subst (λ (pairs : NamePairs). HasNames None pairs no_maps) (sym new.maps) (λ a. refl, λ home. refl));
  made = record {
    scions = subst (λ (size : ℕ). AreScionsFor size heap.scions) (sym new.space.size)
        (subst (AreScionsFor words) (sym new.scions) (record {
          is_table = empty_is_table (words / 2);
          size = length-replicate (words / 2) None;
        }));
    names = subst (NamesMade (length heap.space.list)) (sym new.names) tt;
  };
  formed = Formed_start no_maps (state_of heap [] no_homes_on) (record { address = λ a. refl; home = λ home. refl })
      (new_heap_empty heap [] words globals forwards false small new) (λ t r. refl);
}
