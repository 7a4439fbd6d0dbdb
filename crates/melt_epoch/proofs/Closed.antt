-- Where an epoch has ended: its words stand in the heap again, and the seat that took in all others tells of them.
use Rattle.std.proofs.Common.{◌≡◌, ℕ, zero, suc, ◌+◌, ◌-◌, ◌<◌, ◌≤◌}
use Rattle.std.proofs.Common.{List, [], ◌∷◌, length, map, get_or, drop, take, true}
use Rattle.std.proofs.Common.{refl, sym, ◌∙◌, ap, subst, arith, inl, inr}
use Rattle.std.proofs.lemmas.List.{get_or-drop, length-drop, length-take}
use Rattle.std.specs.List.{sum_by}
use Rattle.std.specs.Option.{option_map}
use Rattle.std.specs.Prelude.{All, Option, None, Some, min, slice_index}
use lib.ListN.{get_elem?}
use mathlib.Core.Option.{some}
use Rattle.atomic_table.proofs.Lists.{at_map}
use Rattle.melt_model.specs.Thread.{value_in}
use Rattle.melt_model.specs.declared.history.Value.{Value}
use Rattle.melt_model.specs.declared.history.Value.TheVariants.{Ref}
use Rattle.melt_space.specs.Space.{word_at}
use Rattle.melt_scion.specs.GhostMaps.{NamePairs}
use Rattle.melt_scion.specs.Heaps.{HasNames, state_of}
use Rattle.melt_scion.specs.Placed.{Holds, Maps, MayHold, value_at}
use Rattle.melt_scion.specs.State.{State}
use Rattle.melt_scion.specs.declared.heap.Heap.{Heap}
use Rattle.melt_scion.specs.declared.heap.Names.{Names as HeapNames}
use Rattle.melt_core.specs.StaleBits.{BitsTold}
use Rattle.melt_rule.proofs.Laying.{state_by}
use Rattle.melt_rule.specs.Ending.{HasEnded as WordsEnd, HistoryEnds as HistorySeen}
use Rattle.melt_rule.specs.Rule.{Has, Saw, filled_count, has_cause, threads_of}
use Rattle.melt_rule.specs.Seats.{EpochWords}
use Rattle.melt_rule.specs.Shown.{forwards_in, free_place, globals_from, globals_in, shows}
use Rattle.melt_rule.specs.Sights.{first_sight, last_sight}
use Rattle.melt_rule.specs.Tells.{Names}
use Rattle.melt_rule.specs.declared.began.Began.{Began}
use Rattle.melt_rule.specs.declared.began.Start.{Start}
use Rattle.melt_rule.specs.declared.view.View.{View}
use Rattle.melt_epoch.proofs.Begun.{same_parts}
use Rattle.melt_epoch.proofs.Gathered.{Back, all_flag, all_has, all_only, all_sum, all_threads, away_is, away_of}
use Rattle.melt_epoch.proofs.Gathered.{comes_back, contains_at, gathered_first, some_cause, stands_at}
use Rattle.melt_epoch.proofs.InUse.{SameInUse, bits_in_use, fresh_in_use, holds_in_use}
use Rattle.melt_epoch.proofs.Paired.{pairs_name, pairs_with}
use Rattle.melt_epoch.specs.Ends.{HasEnded, HeapEnds, HistoryEnds, HoldsValues, MapsEnd}
use Rattle.melt_epoch.specs.Ends.{MayEnd, disk_of, free_after, view_of}
use Rattle.melt_epoch.specs.Epochs.{Fits}
use Rattle.melt_epoch.specs.Gathering.{PutsBack, gathered_all}
use Rattle.melt_epoch.specs.declared.mutator.Mutator.{Mutator}

none_of : {A : Type 0} (o : Option A) → ((x : A) → o ≡ Some x → ⊥) → o ≡ None
none_of None never = refl
none_of (Some x) never = absurd (never x refl)

-- what each thread had seen
pub history_ends : {R : Type 0} (start : Start) (ms : List (Mutator R)) (v : View) → 1 ≤ length ms → All Back ms
    → v ≡ gathered_all (map view_of ms) → HistorySeen start v → HistoryEnds start.began ms v.seen
history_ends start [] v some_ back gathers h = absurd (omega arith)
history_ends {R} start (m ∷ ms) v some_ back gathers h = record {
  legal = h.legal;
  since = h.since;
  saw = saw_at;
  strangers = λ t none. h.strangers t (λ p at. none (contains_at (map (λ (x : Mutator R). x.thread) (m ∷ ms)) p t
      (subst (λ (l : List ℕ). get_elem? l p ≡ some t) (ap threads_of gathers ∙ all_threads m ms back) at)));
}
  where
    first : Back m
    first = back 0 m (omega arith)

    saw_at : All (λ (x : Mutator R). Saw v.seen x.thread (view_of x).seen) (m ∷ ms)
    saw_at zero d below =
        subst (λ (t : ℕ). Saw v.seen t (view_of m).seen)
        (ap (λ (x : View). x.thread) gathers
        ∙ (gathered_first (λ (x : View). x.thread) (λ x w. refl) (view_of m) ms ∙ first.thread))
        (subst (Saw v.seen v.thread)
        (ap (λ (x : View). x.mine) gathers
        ∙ (gathered_first (λ (x : View). x.mine) (λ x w. refl) (view_of m) ms ∙ first.own))
        h.mine)
    saw_at (suc k) d below =
        let there : k < length ms = omega arith in
        let x : Mutator R = get_or ms k d in
        let its : Back x = back (suc k) d below in
        let at : get_elem? v.away k ≡ some (away_of x) =
        ap (λ (y : View). get_elem? y.away k) gathers
        ∙ (ap (λ l. get_elem? l k) (away_is m ms back) ∙ at_map away_of ms k x (stands_at ms k d there)) in
        subst (λ (t : ℕ). Saw v.seen t (view_of x).seen) its.thread
        (subst (Saw v.seen (view_of x).thread) its.own (h.away k (away_of x) at))

held_stands : (maps : Maps) (a n : ℕ) → maps.address a ≡ Some n → 1 ≤ a → value_at maps a ≡ Some (Ref n)
held_stands maps zero n is first = absurd (omega arith)
held_stands maps (suc k) n is first = ap (option_map Ref) is

module _ {R : Type 0} (words : EpochWords) (ms : List (Mutator R)) (may : MayEnd words ms) (old new : Heap) (end : ℕ)
    (fits : Fits words old end) (pairs : NamePairs) (ended : List ℕ) (v : View)
    (gathers : v ≡ gathered_all (map view_of ms)) (has : WordsEnd words.start ended v)
    (puts : PutsBack (record old { maps = pairs }) new ended) where
  abbrev b : Began
  b = words.start.began

  back : All Back ms
  back k d below = comes_back words (get_or ms k d) (may.seated k d below)

  new_globals : new.globals ≡ globals_in b ended
  new_globals = puts.globals ∙ ap (λ (n : ℕ). take n (drop globals_from ended)) fits.globals

  new_forwards : new.forward ≡ forwards_in b ended
  new_forwards =
      puts.forwards
      ∙ (ap (λ (n : ℕ). take n (drop (globals_from + length old.globals) ended)) fits.forwards
      ∙ ap (λ (n : ℕ). take b.forwards (drop (globals_from + n) ended)) fits.globals)

  size_is : length new.space.list ≡ b.size
  size_is = puts.size ∙ fits.size

  globals_are : length new.globals ≡ b.globals
  globals_are =
      let dropped = length-drop globals_from ended in
      let taken = length-take b.globals (drop globals_from ended) in
      let same = ap length new_globals in
      let all = has.size in
      omega arith

  forwards_are : length new.forward ≡ b.forwards
  forwards_are =
      let dropped = length-drop (globals_from + b.globals) ended in
      let taken = length-take b.forwards (drop (globals_from + b.globals) ended) in
      let same = ap length new_forwards in
      let all = has.size in
      omega arith

  scions_are : new.scions ≡ b.scions
  scions_are = puts.scions ∙ fits.scions

  abbrev before : State
  before = shows b ended

  abbrev after : State
  after = state_of new [] (disk_of b)

  abbrev by_parts : State
  by_parts = state_by b (new.space.used + 1) new.globals new.forward new.space

  rests : by_parts ≡ after
  rests = same_parts b new size_is globals_are forwards_are scions_are

  used_is : new.space.used ≡ min (slice_index ended free_place - 1) b.size
  used_is = puts.used ∙ ap (λ (n : ℕ). min (slice_index ended free_place - 1) n) fits.size

  -- a word in use is that of the table
  word_same : (k : ℕ) → k < before.free → k < before.base.size + 1 → word_at new.space k ≡ before.word k
  word_same zero below within = refl
  word_same (suc k) below within =
      let from : ℕ = globals_from + b.globals + b.forwards in
      let in_use : k < new.space.used = omega (arith, used_is, below, within) in
      puts.space k in_use
      ∙ (ap (λ (n : ℕ). slice_index ended (globals_from + n + length old.forward + k)) fits.globals
      ∙ (ap (λ (n : ℕ). slice_index ended (globals_from + b.globals + n + k)) fits.forwards
      ∙ sym (get_or-drop from ended k 0)))

  in_use_stays : SameInUse before after
  in_use_stays = subst (SameInUse before) rests (record {
    base = refl;
    ends = λ end below within. omega (arith, used_is, below, within);
    word = word_same;
    global = λ g. ap (λ (l : List ℕ). slice_index l g) new_globals;
    forward = λ p. ap (λ (l : List ℕ). slice_index l p) new_forwards;
  })

  holds_on : Holds b.told v.seen has.maps after
  holds_on = holds_in_use b.told v.seen has.maps before after in_use_stays has.holds

  claimed_is : v.claimed ≡ sum_by (λ (m : Mutator R). (view_of m).claimed) ms
  claimed_is = ap (λ (x : View). x.claimed) gathers ∙ all_sum (λ (x : View). x.claimed) (λ x w. refl) refl ms

  won_is : v.won ≡ sum_by (λ (m : Mutator R). (view_of m).won) ms
  won_is = ap (λ (x : View). x.won) gathers ∙ all_sum (λ (x : View). x.won) (λ x w. refl) refl ms

  free_is : slice_index ended free_place ≡ free_after b ms
  free_is = has.counts.free ∙ ap (λ (n : ℕ). b.free + n) claimed_is

  nameless_is : new.names ≡ None
  nameless_is = puts.names ∙ none_of old.names fits.nameless

  heap_ends : HeapEnds b ms new
  heap_ends = record {
    size = size_is;
    globals = globals_are;
    forwards = forwards_are;
    scions = scions_are;
    nameless = nameless_is;
    used = used_is ∙ ap (λ (n : ℕ). min (n - 1) b.size) free_is;
    won = ap (λ (l : List ℕ). filled_count (slice_index l) b.forwards) new_forwards ∙ (has.counts.won ∙ won_is);
    spaced = λ k d below is. subst (λ (n : ℕ). b.size + 1 < n) free_is (has.counts.spaced
        (ap (λ (x : View). x.spaced) gathers ∙ all_flag (λ (x : View). x.spaced) (λ x w. refl) ms k d below is));
    forwarded = λ k d below is p within empty. has.counts.forwarded
        (ap (λ (x : View). x.forwarded) gathers ∙ all_flag (λ (x : View). x.forwarded) (λ x w. refl) ms k d below is)
        p within (ap (λ (l : List ℕ). slice_index l p) (sym new_forwards) ∙ empty);
    stops = λ k d below is. some_cause ms (ap has_cause (sym gathers) ∙ has.counts.caused (has.counts.stopped
        (ap (λ (x : View). x.stopped) gathers ∙ all_flag (λ (x : View). x.stopped) (λ x w. refl) ms k d below is)));
  }

  maps_end : MapsEnd b ms has.maps
  maps_end = record {
    homes = has.named.homes;
    begun = has.named.begun;
    known = λ a n some_. has.named.known a n
        (subst (λ (x : View). Has x.known a n) (sym gathers) (all_has ms a n some_));
    only = λ a n is. elim (has.named.only a n is) [
      | inl begun ↦ inl begun
      | inr knows ↦ inr (all_only ms a n (subst (λ (x : View). Has x.known a n) gathers knows))
    ];
  }

  -- what a register of a mutator holds
  module _ (m : Mutator R) (k : ℕ) (at : get_elem? ms k ≡ some m) (its : Back m) where
    in_all : (a n : ℕ) → Has (view_of m).known a n → Has v.known a n
    in_all a n knows =
        subst (λ (x : View). Has x.known a n) (sym gathers)
        (all_has ms a n (record { place = k; mutator = m; at = at; is = knows }))

    register_stands : (a : ℕ) (value : Value) → Names (view_of m).known a value
        → (value_at has.maps a ≡ Some value) × MayHold has.maps after a
    register_stands a value (inl none) =
        (ap (value_at has.maps) none.0 ∙ sym (ap (λ (x : Value). Some x) none.1), inl none.0)
    register_stands a value (inr object) =
        let n = object.0 in
        let knows = in_all a n object.2 in
        let is = has.named.known a n knows in
        let first = (has.holds.formed.objects a n is).1.first in (
          held_stands has.maps a n is first ∙ sym (ap (λ (x : Value). Some x) object.1),
          inr (
            (n, is),
            fresh_in_use has.maps before after has.holds.formed in_use_stays a (n, is) (has.named.fresh a n knows),
          ),
        )

    holds_values : HoldsValues has.maps after m
    holds_values = record {
      stand = λ r. (register_stands (slice_index m.registers.regs r) (value_in m.values r) (its.registers r)).0;
      hold = λ r. (register_stands (slice_index m.registers.regs r) (value_in m.values r) (its.registers r)).1;
    }

  bits_end : b.told ≡ true → BitsTold (first_sight b) (last_sight v.seen has.maps after)
  bits_end told =
      bits_in_use has.maps before after has.holds.formed in_use_stays (first_sight b) v.seen (has.bits told)

  -- The heap after the epoch, where its pairs were picked.
  pub epoch_ended : pairs ≡ record { addresses = pairs_with v.known b.maps.addresses; homes = b.maps.homes }
      → HasEnded b ms new v.seen
  epoch_ended picked = record {
    history = history_ends words.start ms v may.some_thread back gathers has.history;
    heap_ends = heap_ends;
    maps = has.maps;
    has_maps = subst (λ (names : Option HeapNames). HasNames names new.maps has.maps) (sym nameless_is)
        (subst (λ (p : NamePairs). HasNames None p has.maps) (sym (puts.maps ∙ picked)) (
          pairs_name has.maps.address v.known b.maps.addresses has.named.begun has.named.known has.named.only,
          has.named.homes,
        ));
    named = maps_end;
    holds = holds_on;
    registers = λ k d below. holds_values (get_or ms k d) k (stands_at ms k d below) (back k d below);
    stay = has.stay;
    bits = bits_end;
  }
