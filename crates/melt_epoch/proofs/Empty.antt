-- An epoch begins on a new heap, over a disk that has no words, with the empty history.
use Rattle.std.proofs.Common.{◌≡◌, ◌≢◌, ℕ, ◌+◌, ◌<◌, ◌≤◌, false, true, List, [], ◌∷◌, length, replicate}
use Rattle.std.proofs.Common.{refl, sym, ◌∙◌, ap, subst, arith, inl, inr}
use Rattle.std.proofs.lemmas.Bool.{cases_lt}
use Rattle.std.proofs.lemmas.List.{get_or-replicate, get_or_past, length-map, length-replicate}
use Rattle.std.proofs.lemmas.List.Elements.{All-cons, All-nil}
use Rattle.std.proofs.lemmas.List.Kept.{AllPairs-cons}
use Rattle.std.specs.Prelude.{zero, suc, Option, None, Some, ◌^◌, All, AllPairs, Result, Ok, Err, IfOk, map}
use Rattle.std.specs.Prelude.{slice_index, slice_index_or}
use Rattle.melt_model.specs.declared.history.Value.{Value}
use Rattle.melt_model.specs.declared.history.Value.TheVariants.{Nil}
use Rattle.melt_model.specs.declared.words.NoMemory.{NoMemory}
use Rattle.melt_scion.proofs.Starting.{FormedWords_start, IsEmpty, NoGaps_start, NoObjects, Tells_start}
use Rattle.melt_scion.proofs.Starting.{new_heap_empty, nothing_at}
use Rattle.melt_scion.specs.State.{State}
use Rattle.melt_scion.specs.GhostMaps.{no_pairs}
use Rattle.melt_scion.specs.Heaps.{IsNewHeap, state_of, no_homes_on}
use Rattle.melt_scion.specs.Scions.{EachOnce}
use Rattle.melt_scion.specs.declared.heap.Heap.{Heap}
use Rattle.melt_rule.specs.Shown.{maps_at}
use Rattle.melt_rule.specs.Seats.{EpochWords}
use Rattle.melt_rule.specs.declared.began.Pair.{Pair}
use Rattle.melt_rule.specs.declared.began.Start.{Start}
use Rattle.melt_epoch.specs.Ends.{HasJoined, HeapBegins, HistoryBegins, MayEnd, MutatorBegins, disk_of, unseated}
use Rattle.melt_epoch.specs.Mutators.{HasReader, StandFor}
use Rattle.melt_epoch.specs.Tests.{AllMayStart, HasBegun, MayStart, eight}
use Rattle.melt_epoch.specs.declared.epoch.Epoch.{Epoch}
use Rattle.melt_epoch.specs.declared.mutator.Mutator.{Mutator}

-- what such an epoch begins with, of these threads
abbrev pub empty_start : List ℕ → Heap → Start
empty_start threads heap = record {
  began = record {
    history = [];
    threads = threads;
    told = true;
    size = length heap.space.list;
    globals = length heap.globals;
    forwards = length heap.forward;
    scions = heap.scions;
    end = 1;
    homes = [];
    free_homes = [];
    image = [];
    free = 1;
    words = heap.space.list;
    maps = no_pairs;
  };
  held = [];
}

module _ (threads : List ℕ) (heap : Heap) (words globals forwards : ℕ) (small : words < 2 ^ 30)
    (few : globals < 256) (fewer : forwards < 256) (new : IsNewHeap words globals forwards false heap) where
  abbrev start : Start
  start = empty_start threads heap

  nothing : NoObjects (maps_at start.began)
  nothing = record { address = λ a. refl; home = λ home. refl }

  begins_empty : IsEmpty (state_of heap [] (disk_of start.began))
  begins_empty =
      let empty : IsEmpty (state_of heap [] no_homes_on) =
      new_heap_empty heap [] words globals forwards false small new in
      record {
        small = empty.small;
        forwards = empty.forwards;
        scions = empty.scions;
        end = refl;
        homes = refl;
        free_homes = refl;
        globals = empty.globals;
      }

  pub new_heap_begins : HeapBegins start.began heap 1
  new_heap_begins = record {
    size = refl;
    globals = refl;
    forwards = refl;
    scions = refl;
    ends = refl;
    free = ap (λ used. used + 1) new.space.used;
    words = refl;
    maps = new.maps;
    nameless = new.names;
    settled = λ p. ap (λ xs. slice_index xs p) new.nothing_forwarded ∙ nothing_at forwards p;
    few_globals =
        let size : length heap.globals ≡ globals = ap length new.globals_hold_nothing ∙ length-replicate globals 0 in
        omega (arith, size, few);
    few_words =
        let g : length heap.globals ≡ globals = ap length new.globals_hold_nothing ∙ length-replicate globals 0 in
        let f : length heap.forward ≡ forwards = ap length new.nothing_forwarded ∙ length-replicate forwards 0 in
        let s : length heap.space.list ≡ words = new.space.size in
        omega (arith, g, f, s, few, fewer, small);
  }

  abbrev state : State
  state = state_of heap [] (disk_of start.began)

  pub no_history_begins : HistoryBegins start heap []
  no_history_begins = record {
    history_is = refl;
    legal = λ told p e there. let none : None ≡ Some e = there in absurd (cc);
    holds = record {
      formed = FormedWords_start (maps_at start.began) state nothing begins_empty;
      no_gaps = NoGaps_start (maps_at start.began) state nothing begins_empty;
      tells = λ told. Tells_start (maps_at start.began) state nothing begins_empty;
    };
    held = λ address n has. absurd (cc);
    fresh = λ address n has. absurd (cc);
  }

-- Mutators that have just joined all take part, with as many threads as there are of them.
joined_end : {R : Type 0} (words : EpochWords) (s : Start) (ms olds : List (Mutator R)) → 1 ≤ length olds
    → length s.began.threads ≡ length olds → map unseated ms ≡ olds → words.start ≡ s
    → All (HasJoined words) ms → MayEnd words ms
joined_end {R} words s ms olds some_ all same is joined =
    let size : length ms ≡ length olds = sym (length-map ms unseated) ∙ ap length same in
    let threads : length words.start.began.threads ≡ length olds =
    ap (λ (x : Start). length x.began.threads) is ∙ all in
    record {
      some_thread = omega (arith, size, some_);
      all = size ∙ sym threads;
      seated = λ k d below. (joined k d below).seated;
    }

-- Where an epoch began, each may make calls.
pub begun_all : {R : Type 0} (image : R → Option (List ℕ)) (result : Result Epoch NoMemory) (s : Start)
    (ms olds : List (Mutator R)) → 1 ≤ length olds → length s.began.threads ≡ length olds → map unseated ms ≡ olds
    → IfOk result (λ (epoch : Epoch). epoch.words.start ≡ s)
    → IfOk result (λ (epoch : Epoch). All (HasJoined epoch.words) ms)
    → IfOk result (λ (epoch : Epoch). All (HasReader image epoch.words) ms)
    → IfOk result (λ (epoch : Epoch). HasBegun image epoch.words ms)
begun_all image (Ok epoch) s ms olds some_ all same is joined readers =
    (joined_end epoch.words s ms olds some_ all same is joined, readers)
begun_all image (Err refused) s ms olds some_ all same is joined readers = tt

-- registers that all hold nothing stand for values that all are Nil
pub none_held : (held : List Pair) (regs : List ℕ) (values : List Value) → regs ≡ replicate 16 0
    → values ≡ replicate 16 Nil → StandFor held regs values
none_held held regs values none nils r =
    inl (
      ap (λ (xs : List ℕ). slice_index xs r) none ∙ nothing_at 16 r,
      ap (λ (xs : List Value). slice_index_or xs r Nil) nils ∙ elim (cases_lt r 16) [
        | inl below ↦ get_or-replicate 16 r Nil Nil below
        | inr above ↦ get_or_past (replicate 16 Nil) r Nil
            (omega (arith, length-replicate {A = Value} 16 Nil, above))
      ],
    )

-- a new mutator with a reader of no words may begin one
pub new_may_start : {R : Type 0} (image : R → Option (List ℕ)) (m : Mutator R) (reader : R)
    → image reader ≡ Some [] → m.seat ≡ None → m.reader ≡ Some reader
    → m.registers.regs ≡ replicate 16 0 → m.values ≡ replicate 16 Nil → MayStart image m
new_may_start image m reader tells none there regs values s empty = record {
  unseated_yet = none;
  reader = reader;
  there = there;
  tells = λ told. tells ∙ ap Some (sym empty);
  size = ap length values ∙ length-replicate 16 Nil;
  registers = none_held s.held m.registers.regs m.values regs values;
}

-- no two numbers of none are the same
none_same : AllPairs (λ (x y : ℕ). x ≢ y) []
none_same i j d less within = absurd (omega arith)

pub one_may_start : {R : Type 0} (image : R → Option (List ℕ)) (m : Mutator R) → MayStart image m
    → AllMayStart image (m ∷ [])
one_may_start {R} image m may s empty threads = record {
  some_thread = omega arith;
  few = omega arith;
  threads = threads;
  each_once = subst EachOnce threads
      (AllPairs-cons (λ (x y : ℕ). x ≢ y) m.thread [] (All-nil (λ (y : ℕ). m.thread ≢ y)) none_same);
  each = All-cons (MutatorBegins image s) m [] (may s empty) (All-nil (MutatorBegins image s));
}

pub two_may_start : {R : Type 0} (image : R → Option (List ℕ)) (m n : Mutator R) → m.thread ≢ n.thread
    → MayStart image m → MayStart image n → AllMayStart image (m ∷ n ∷ [])
two_may_start {R} image m n differ may also s empty threads = record {
  some_thread = omega arith;
  few = omega arith;
  threads = threads;
  each_once = subst EachOnce threads
      (AllPairs-cons (λ (x y : ℕ). x ≢ y) m.thread (n.thread ∷ [])
      (All-cons (λ (y : ℕ). m.thread ≢ y) n.thread [] differ (All-nil (λ (y : ℕ). m.thread ≢ y)))
      (AllPairs-cons (λ (x y : ℕ). x ≢ y) n.thread [] (All-nil (λ (y : ℕ). n.thread ≢ y)) none_same));
  each = All-cons (MutatorBegins image s) m (n ∷ []) (may s empty)
      (All-cons (MutatorBegins image s) n [] (also s empty) (All-nil (MutatorBegins image s)));
}

-- each of eight numbers stands at its own place
at_place : (k d : ℕ) → k < 8 → slice_index_or eight k d ≡ k
at_place zero d below = refl
at_place (suc zero) d below = refl
at_place (suc (suc zero)) d below = refl
at_place (suc (suc (suc zero))) d below = refl
at_place (suc (suc (suc (suc zero)))) d below = refl
at_place (suc (suc (suc (suc (suc zero))))) d below = refl
at_place (suc (suc (suc (suc (suc (suc zero)))))) d below = refl
at_place (suc (suc (suc (suc (suc (suc (suc zero))))))) d below = refl
at_place (suc (suc (suc (suc (suc (suc (suc (suc k)))))))) d below = absurd (omega arith)

pub eight_once : EachOnce eight
eight_once i j d before below same =
    let a = at_place i d (omega arith) in
    let b = at_place j d below in
    omega arith

-- They are mutators of these threads, and each may begin.
abbrev pub StartAs : {R : Type 0} → (R → Option (List ℕ)) → List ℕ → List (Mutator R) → Type 0
StartAs image [] [] = Unit {0}
StartAs image [] (m ∷ ms) = ⊥
StartAs image (t ∷ ts) [] = ⊥
StartAs image (t ∷ ts) (m ∷ ms) = ((m.thread ≡ t) × MayStart image m) × StartAs image ts ms

threads_of : {R : Type 0} (image : R → Option (List ℕ)) (ts : List ℕ) (ms : List (Mutator R)) → StartAs image ts ms
    → map (λ (m : Mutator R). m.thread) ms ≡ ts
threads_of image [] [] none = refl
threads_of image [] (m ∷ ms) none = elim none [ ]
threads_of image (t ∷ ts) [] none = elim none [ ]
threads_of {R} image (t ∷ ts) (m ∷ ms) (is, rest) =
    ap (λ (x : ℕ). x ∷ map (λ (m : Mutator R). m.thread) ms) is.0
    ∙ ap (λ (xs : List ℕ). t ∷ xs) (threads_of image ts ms rest)

all_begin : {R : Type 0} (image : R → Option (List ℕ)) (s : Start) → s.began.image ≡ [] → (ts : List ℕ)
    (ms : List (Mutator R)) → StartAs image ts ms → All (MutatorBegins image s) ms
all_begin image s empty [] [] none = All-nil (MutatorBegins image s)
all_begin image s empty [] (m ∷ ms) none = elim none [ ]
all_begin image s empty (t ∷ ts) [] none = elim none [ ]
all_begin image s empty (t ∷ ts) (m ∷ ms) (is, rest) =
    All-cons (MutatorBegins image s) m ms (is.1 s empty) (all_begin image s empty ts ms rest)

pub eight_may_start : {R : Type 0} (image : R → Option (List ℕ)) (ms : List (Mutator R)) → StartAs image eight ms
    → AllMayStart image ms
eight_may_start {R} image ms starts s empty threads =
    let are : map (λ (m : Mutator R). m.thread) ms ≡ eight = threads_of image eight ms starts in
    let size : length ms ≡ 8 = sym (length-map ms (λ (m : Mutator R). m.thread)) ∙ ap length are in
    record {
      some_thread = omega (arith, size);
      few = omega (arith, size);
      threads = threads;
      each_once = subst EachOnce (sym are ∙ threads) eight_once;
      each = all_begin image s empty eight ms starts;
    }
