-- Where an epoch begins: what its words show, and what the seats that were given know.
use Rattle.std.proofs.Common.{◌≡◌, ℕ, suc, ◌+◌, ◌<◌, ◌≤◌, true, List, [], ◌∷◌, ◌++◌, length, map, get_or}
use Rattle.std.proofs.Common.{refl, sym, ◌∙◌, ap, subst, arith, append-nil}
use Rattle.std.proofs.lemmas.List.{length-append, length-map}
use Rattle.std.specs.Prelude.{Option, None, Some, All}
use Rattle.melt_model.specs.History.{Legal}
use Rattle.melt_model.specs.declared.history.Entry.{Entry}
use Rattle.melt_scion.specs.Heaps.{scion_in, state_of}
use Rattle.melt_scion.specs.Heaps.{base_of}
use Rattle.melt_scion.specs.Placed.{Holds}
use Rattle.melt_scion.specs.State.{Base, IsFresh, State}
use Rattle.melt_scion.specs.declared.heap.Heap.{Heap}
use Rattle.melt_scion.specs.declared.heap.Names.{Names}
use Rattle.melt_rule.proofs.Laying.{parts_shown, space_laid, state_by}
use Rattle.melt_rule.specs.Beginning.{MayBegin}
use Rattle.melt_rule.specs.Rule.{is_bound}
use Rattle.melt_rule.specs.Seats.{EpochWords}
use Rattle.melt_rule.specs.Shown.{base_at, globals_from, maps_at, shows}
use Rattle.melt_rule.specs.Tells.{Sees}
use Rattle.melt_rule.specs.declared.began.Began.{Began}
use Rattle.melt_rule.specs.declared.began.Pair.{Pair}
use Rattle.melt_rule.specs.declared.began.Start.{Start}
use Rattle.melt_rule.specs.declared.view.View.{View}
use Rattle.melt_epoch.proofs.Mutating.{get_map}
use Rattle.melt_epoch.specs.Ends.{HasJoined, HeapBegins, HistoryBegins, MutatorBegins, MutatorsBegin}
use Rattle.melt_epoch.specs.Ends.{disk_of, unseated, view_in}
use Rattle.melt_epoch.specs.Epochs.{Fits}
use Rattle.melt_epoch.specs.Gathering.{IsGiven, fresh_view, words_of_heap}
use Rattle.melt_epoch.specs.Mutators.{HasReader, StandFor}
use Rattle.melt_epoch.specs.declared.mutator.Mutator.{Mutator}

-- the sizes and scions of a heap are those of an epoch
pub same_base : (b : Began) (heap : Heap) → length heap.space.list ≡ b.size → length heap.globals ≡ b.globals
    → length heap.forward ≡ b.forwards → heap.scions ≡ b.scions → base_at b ≡ base_of heap (disk_of b)
same_base b heap size globals forwards scions = λ i. record (base_at b) {
  size = sym size i;
  globals = sym globals i;
  forwards = sym forwards i;
  scion = scion_in (sym scions i);
}

-- the state of the parts of a heap is that of the heap
pub same_parts : (b : Began) (heap : Heap) → length heap.space.list ≡ b.size → length heap.globals ≡ b.globals
    → length heap.forward ≡ b.forwards → heap.scions ≡ b.scions
    → state_by b (heap.space.used + 1) heap.globals heap.forward heap.space ≡ state_of heap [] (disk_of b)
same_parts b heap size globals forwards scions =
    ap (λ (base : Base). record (state_by b (heap.space.used + 1) heap.globals heap.forward heap.space) { base = base })
    (same_base b heap size globals forwards scions)

module _ (start : Start) (heap : Heap) (end : ℕ) (history : List Entry) (begins : HeapBegins start.began heap end)
    (stands : HistoryBegins start heap history) where
  abbrev b : Began
  b = start.began

  -- what the words show is the state of the heap
  pub heap_shown : shows b (words_of_heap heap) ≡ state_of heap [] (disk_of b)
  heap_shown =
      parts_shown b 0 (heap.space.used + 1) heap.globals heap.forward heap.space begins.globals begins.forwards
      ∙ same_parts b heap begins.size begins.globals begins.forwards begins.scions

  words_size : length (words_of_heap heap) ≡ globals_from + b.globals + b.forwards + b.size
  words_size =
      let after = length-append heap.forward heap.space.list in
      let all = length-append heap.globals (heap.forward ++ heap.space.list) in
      omega (arith, after, all, begins.size, begins.globals, begins.forwards)

  pub words_begin : {R : Type 0} (image : R → Option (List ℕ)) (ms : List (Mutator R)) → MutatorsBegin image start ms
      → heap.space.used ≤ length heap.space.list → MayBegin start (words_of_heap heap)
  words_begin {R} image ms mutators within =
      let many : length ms ≡ length b.threads =
      sym (length-map ms (λ (m : Mutator R). m.thread)) ∙ ap length mutators.threads in
      record {
        size = words_size;
        few_words = omega (arith, words_size, begins.few_words);
        legal = λ told. subst (λ (h : List Entry). Legal h b.globals) stands.history_is (stands.legal told);
        holds = subst (Holds b.told b.history (maps_at b)) (sym heap_shown)
            (subst (λ (h : List Entry). Holds b.told h (maps_at b) (state_of heap [] (disk_of b))) stands.history_is
            stands.holds);
        space = sym begins.words ∙ sym (space_laid b 0 (heap.space.used + 1) heap.globals heap.forward heap.space
            begins.globals begins.forwards);
        first = let free = begins.free in omega arith;
        free = begins.free;
        room = let free = begins.free in let size = begins.size in omega arith;
        unfilled = λ p below. ap (λ (s : State). s.forward p) heap_shown ∙ begins.settled p;
        goes_on = refl;
        held = stands.held;
        fresh = λ address n has. subst (λ (s : State). IsFresh s address) (sym heap_shown) (stands.fresh address n has);
        some_thread = let some_ = mutators.some_thread in omega arith;
        few = let few = mutators.few in omega arith;
        each_once = mutators.each_once;
      }

  pub epoch_fits : (words : EpochWords) → words.start ≡ start → Fits words heap end
  epoch_fits words is = subst (λ (s : Start). Fits (record { id = words.id; start = s }) heap end) (sym is) (record {
    size = begins.size;
    globals = begins.globals;
    forwards = begins.forwards;
    few = let f = begins.forwards in let w = begins.few_words in omega arith;
    scions = begins.scions;
    reach = λ scion home address live.
        let formed = stands.holds.formed in
        let named = (formed.scions scion (record { home = home; address = address }) live).named in
        let object = (formed.objects address named.0 named.1).1 in
        let within = object.within in
        let size = begins.size in
        omega arith;
    nameless = λ (names : Names) is. let none : None ≡ Some names = sym begins.nameless ∙ is in cc;
    ends = begins.ends;
  })

-- what a seat sees at the beginning is sound
fresh_sees : (start : Start) (t : ℕ) → (start.began.told ≡ true → Legal start.began.history start.began.globals)
    → Sees (fresh_view start t) start.began.history
fresh_sees start t legal = record {
  begins = ([], append-nil start.began.history);
  since = record { begins = ([], append-nil start.began.history); strangers = λ u none. refl };
  legal = legal;
  own_same = refl;
}

module _ {R : Type 0} where
  -- the mutators are in their order
  same_at : (ms olds : List (Mutator R)) (k : ℕ) (d : Mutator R) → map unseated ms ≡ map unseated olds → k < length ms
      → (k < length olds) × (unseated (get_or ms k d) ≡ unseated (get_or olds k d))
  same_at ms olds k d same below =
      let size : length ms ≡ length olds =
      sym (length-map ms unseated) ∙ (ap length same ∙ length-map olds unseated) in
      let there : k < length olds = omega arith in (
        there,
        sym (get_map unseated ms k d d below)
            ∙ (ap (λ (l : List (Mutator R)). get_or l k d) same ∙ get_map unseated olds k d d there),
      )

  -- the readers stay
  pub all_readers : (image : R → Option (List ℕ)) (words : EpochWords) (ms olds : List (Mutator R))
      → map unseated ms ≡ map unseated olds → All (MutatorBegins image words.start) olds
      → All (HasReader image words) ms
  all_readers image words ms olds same begin k d below =
      let at = same_at ms olds k d same below in
      let begins = begin k d at.0 in
      record {
        reader = begins.reader;
        there = ap (λ (m : Mutator R). m.reader) at.1 ∙ begins.there;
        tells = begins.tells;
      }

module _ {R : Type 0} (image : R → Option (List ℕ)) (words : EpochWords)
    (legal : words.start.began.told ≡ true → Legal words.start.began.history words.start.began.globals) where
  -- the mutator that was given its seat
  pub joined : (m old : Mutator R) → unseated m ≡ unseated old → MutatorBegins image words.start old → IsGiven words m
      → HasJoined words m
  joined m old same begins given =
      let v : View = fresh_view words.start m.thread in
      let here : view_in m.seat ≡ v = ap view_in given.there ∙ given.knows in
      record {
        seated = record {
          seat = given.seat;
          there = given.there;
          idle = record {
            is_seat = given.is;
            goes_on = ap (λ (x : View). is_bound x.doing) given.knows;
            sound = subst (λ (x : View). Sees x x.seen) (sym given.knows) (fresh_sees words.start m.thread legal);
            own = ap (λ (x : View). x.mine) given.knows ∙ sym (ap (λ (x : View). x.seen) given.knows);
          };
          thread = ap (λ (x : View). x.thread) given.knows;
          one = ap (λ (x : View). x.parts) given.knows;
          alone = ap (λ (x : View). x.away) given.knows;
          size = ap (λ (x : Mutator R). length x.values) same ∙ begins.size;
          registers = subst (λ (known : List Pair). StandFor known m.registers.regs m.values)
              (sym (ap (λ (x : View). x.known) given.knows))
              (subst (λ (x : Mutator R). StandFor words.start.held x.registers.regs x.values) (sym same)
              begins.registers);
        };
        known = ap (λ (x : View). x.known) here;
        seen = ap (λ (x : View). x.seen) here;
        claimed = ap (λ (x : View). x.claimed) here;
        over = ap (λ (x : View). x.over) here;
        won = ap (λ (x : View). x.won) here;
        steps = ap (λ (x : View). x.steps) here;
        stopped = ap (λ (x : View). x.stopped) here;
        asked = ap (λ (x : View). x.asked) here;
        spaced = ap (λ (x : View). x.spaced) here;
        forwarded = ap (λ (x : View). x.forwarded) here;
      }

  pub all_joined : (ms olds : List (Mutator R)) → map unseated ms ≡ map unseated olds
      → All (MutatorBegins image words.start) olds → All (IsGiven words) ms → All (HasJoined words) ms
  all_joined ms olds same begin given k d below =
      let at = same_at ms olds k d same below in
      joined (get_or ms k d) (get_or olds k d) at.1 (begin k d at.0) (given k d below)

-- mutators without seats are so as well where those are taken away
pub none_seated : {R : Type 0} (image : R → Option (List ℕ)) (start : Start) (ms : List (Mutator R))
    → All (MutatorBegins image start) ms → map unseated ms ≡ ms
none_seated image start [] all = refl
none_seated {R} image start (m ∷ ms) all =
    let first : m.seat ≡ None = (all 0 m (omega arith)).unseated_yet in
    λ i. record m { seat = sym first i } ∷ none_seated image start ms (λ k d below. all (suc k) d (omega arith)) i
