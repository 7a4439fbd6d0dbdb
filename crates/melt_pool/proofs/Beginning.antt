-- A run at rest may begin an epoch.
use Rattle.std.proofs.Common.{◌≡◌, ℕ, zero, suc, ◌≤◌, List, [], ◌∷◌, length, map, refl, sym, ◌∙◌, ap, subst, arith, inl}
use Rattle.std.proofs.Common.{inr}
use Rattle.std.proofs.Common.{true, false}
use Rattle.std.specs.Prelude.{All, Bool, IsSome, Option, None, Some, slice_get, slice_index}
use Rattle.std.specs.Option.{option_map, option_and_then}
use Rattle.melt_model.specs.Thread.{value_in}
use Rattle.melt_model.specs.declared.history.Entry.{Entry}
use Rattle.melt_model.specs.declared.history.Value.TheVariants.{Nil, Ref}
use Rattle.melt_scion.specs.GhostMaps.{named}
use Rattle.melt_scion.specs.Heaps.{HasNames, OnDisk, Shows, state_of}
use Rattle.melt_scion.specs.Placed.{Holds, Maps, value_at}
use Rattle.melt_scion.specs.State.{IsFresh, State}
use Rattle.melt_scion.specs.declared.heap.Heap.{Heap}
use Rattle.melt_scion.specs.declared.heap.Names.{Names as HeapNames}
use Rattle.melt_core.proofs.Disks.{fresh_on, holds_on}
use Rattle.melt_rule.specs.Shown.{home_of, maps_at}
use Rattle.melt_rule.specs.Tells.{Names}
use Rattle.melt_rule.specs.declared.began.Began.{Began}
use Rattle.melt_rule.specs.declared.began.Start.{Start}
use Rattle.melt_epoch.specs.Ends.{HeapBegins, HistoryBegins, MutatorBegins, MutatorsBegin, disk_of}
use Rattle.melt_epoch.specs.declared.mutator.Mutator.{Mutator}
use Rattle.melt_pool.specs.Beginning.{IsAtRest, RestsOn, first_image, homes_along, start_of, words_told}
use Rattle.melt_pool.proofs.Holding.{has_held, held_by}
use Rattle.melt_pool.proofs.Homes.{homes_are}
use Rattle.melt_pool.proofs.Passing.{all_at, all_by}

-- words that are told are those that are shown
told_words : (words : Option (List ℕ)) (image : ℕ → ℕ) → IsSome words → Shows words image → (k : ℕ)
    → image k ≡ slice_index (words_told words) k
told_words None image some_ shows k = absurd (let none : Option (List ℕ) = None in let no : IsSome none = some_ in cc)
told_words (Some words) image some_ shows k = shows k

are_some : (words : Option (List ℕ)) → IsSome words → words ≡ Some (words_told words)
are_some None some_ = absurd (let none : Option (List ℕ) = None in let no : IsSome none = some_ in cc)
are_some (Some words) some_ = refl

-- what the first reader tells is what all tell
first_tells : {R : Type 0} (image : R → Option (List ℕ)) (words : Option (List ℕ)) (maps : Maps) (heap : Heap)
    (disk : OnDisk) (ms : List (Mutator R)) → 1 ≤ length ms → All (RestsOn image words maps heap disk) ms
    → first_image image ms ≡ words
first_tells image words maps heap disk [] some_ each = absurd (omega (arith, some_))
first_tells image words maps heap disk (m ∷ ms) some_ each =
    let first : RestsOn image words maps heap disk m =
    all_at (RestsOn image words maps heap disk) (m ∷ ms) 0 m each refl in
    ap (option_and_then image) first.there ∙ first.tells

module _ {R : Type 0} (image : R → Option (List ℕ)) (told : Bool) (heap : Heap) (h : List Entry) (end : ℕ)
    (ms : List (Mutator R)) (rest : IsAtRest image told heap h end ms) where
  abbrev start : Start
  start = start_of image told heap h end ms

  abbrev b : Began
  b = start.began

  abbrev s : State
  s = state_of heap [] rest.disk

  abbrev t : State
  t = state_of heap [] (disk_of b)

  ends : (disk_of b).end ≡ s.base.end
  ends = sym rest.under.ends

  names_are : ((address : ℕ) → rest.maps.address address ≡ named heap.maps.addresses address)
      × ((home : ℕ) → rest.maps.home home ≡ named heap.maps.homes home)
  names_are = subst (λ (o : Option HeapNames). HasNames o heap.maps rest.maps) rest.nameless rest.has_maps

  maps_same : rest.maps ≡ maps_at b
  maps_same = λ i. record { address = λ a. names_are.0 a i; home = λ k. names_are.1 k i }

  words_are : first_image image ms ≡ rest.words
  words_are = first_tells image rest.words rest.maps heap rest.disk ms rest.some_thread rest.each

  -- where words are told, the disk with which the epoch begins is the one over which the heap stands
  disk_same : told ≡ true → rest.disk ≡ disk_of b
  disk_same tells =
      let shown = rest.under.tells tells in
      let homes : rest.disk.homes ≡ map home_of b.homes =
      sym (homes_are h rest.maps s heap.maps.homes (rest.holds.tells tells) rest.none_free names_are.1)
      ∙ ap (λ (n : ℕ). map home_of (homes_along h heap.maps.homes n 1)) rest.under.ends in
      let words : (k : ℕ) → rest.disk.image k ≡ slice_index b.image k =
      λ k. told_words rest.words rest.disk.image shown.0 shown.1 k
      ∙ ap (λ (o : Option (List ℕ)). slice_index (words_told o) k) (sym words_are) in
      λ i. record {
        end = rest.under.ends i;
        homes = homes i;
        free_homes = rest.none_free i;
        image = λ k. words k i;
      }

  -- so the heap stands for the history over it; untold, it does over each disk with this end
  holds_there : Holds told h (maps_at b) t
  holds_there = subst (λ (m : Maps). Holds told h m t) maps_same (by_told told refl)
    where
      by_told : (x : Bool) → told ≡ x → Holds told h rest.maps t
      by_told true is = subst (λ (d : OnDisk). Holds told h rest.maps (state_of heap [] d)) (disk_same is) rest.holds
      by_told false is =
          subst (λ (x : Bool). Holds x h rest.maps t) (sym is)
          (holds_on rest.maps s (disk_of b) ends h (subst (λ (x : Bool). Holds x h rest.maps s) is rest.holds))

  rests_at : (k : ℕ) (m : Mutator R) → slice_get ms k ≡ Some m → RestsOn image rest.words rest.maps heap rest.disk m
  rests_at k m at = all_at (RestsOn image rest.words rest.maps heap rest.disk) ms k m rest.each at

  -- what registers hold has no stale bit
  fresh_there : (a n : ℕ) (k r : ℕ) (m : Mutator R) → slice_get ms k ≡ Some m → slice_index m.registers.regs r ≡ a
      → 1 ≤ a → IsFresh t a
  fresh_there a n k r m at holds first = elim ((rests_at k m at).values.hold r) [
    | inl none ↦ absurd (omega (arith, none, holds, first))
    | inr may ↦ subst (IsFresh t) holds (fresh_on rest.maps s (disk_of b) ends (slice_index m.registers.regs r) may.1)
  ]

  pub heap_begins : HeapBegins b heap end
  heap_begins = record {
    size = refl;
    globals = refl;
    forwards = refl;
    scions = refl;
    ends = refl;
    free = refl;
    words = refl;
    maps = refl;
    nameless = rest.nameless;
    settled = rest.settled;
    few_globals = rest.few_globals;
    few_words = rest.few_words;
  }

  pub history_begins : HistoryBegins start heap h
  history_begins = record {
    history_is = refl;
    legal = rest.legal;
    holds = holds_there;
    held = λ a n has. (held_by heap.maps.addresses ms a n has).is_named;
    fresh = λ a n has.
        let by = held_by heap.maps.addresses ms a n has in
        fresh_there a n by.place by.register by.mutator by.there by.holds by.first;
  }

  -- a register stands for its value, by the pairs
  register_stands : (k r : ℕ) (m : Mutator R) → slice_get ms k ≡ Some m
      → Names start.held (slice_index m.registers.regs r) (value_in m.values r)
  register_stands k r m at = by_address (slice_index m.registers.regs r) refl ((rests_at k m at).values.stand r)
    where
      by_object : (a : ℕ) (o : Option ℕ) → slice_index m.registers.regs r ≡ suc a → rest.maps.address (suc a) ≡ o
          → option_map Ref o ≡ Some (value_in m.values r) → Names start.held (suc a) (value_in m.values r)
      by_object a None holds is stands = absurd (let no : None ≡ Some (value_in m.values r) = stands in cc)
      by_object a (Some n) holds is stands =
          let value : value_in m.values r ≡ Ref n =
          let both : Some (Ref n) ≡ Some (value_in m.values r) = stands in cc in
          inr (n, value, has_held heap.maps.addresses ms k r a n m at holds (sym (names_are.0 (suc a)) ∙ is))

      by_address : (a : ℕ) → slice_index m.registers.regs r ≡ a → value_at rest.maps a ≡ Some (value_in m.values r)
          → Names start.held a (value_in m.values r)
      by_address zero holds stands =
          inl (refl, let both : Some Nil ≡ Some (value_in m.values r) = stands in cc)
      by_address (suc a) holds stands = by_object a (rest.maps.address (suc a)) holds refl stands

  pub mutators_begin : MutatorsBegin image start ms
  mutators_begin = record {
    some_thread = rest.some_thread;
    few = rest.few;
    threads = refl;
    each_once = rest.each_once;
    each = all_by (MutatorBegins image start) ms (λ k m at.
        let is = rests_at k m at in
        record {
          unseated_yet = is.unseated_yet;
          reader = is.reader;
          there = is.there;
          tells = λ tells.
              is.tells
              ∙ (are_some rest.words (rest.under.tells tells).0
              ∙ ap (λ (o : Option (List ℕ)). Some (words_told o)) (sym words_are));
          size = is.size;
          registers = λ r. register_stands k r m at;
        });
  }
