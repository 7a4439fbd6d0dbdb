-- One object after the other is settled: what is said of the first forwarding words, and how what the heap stands for
-- is kept from one to the next.
use Rattle.std.proofs.Common.{◌≡◌, ◌≢◌, ◌⊎◌, inl, inr, ℕ, zero, suc, ◌+◌, ◌*◌, ◌<◌, ◌≤◌, List, [], length}
use Rattle.std.proofs.Common.{refl, sym, ◌∙◌}
use Rattle.std.proofs.Common.{ap, subst, arith, add-one}
use Rattle.std.proofs.Math.ListN.{length-set}
use Rattle.std.proofs.lemmas.Bool.{cases_eq, cases_lt}
use Rattle.std.proofs.lemmas.Option.{same_Some}
use Rattle.std.proofs.lemmas.List.{get_or-set_same, get_or-set_other, get_or_past, take_all}
use Rattle.std.proofs.lemmas.List.Sums.{count_by_more_yes, count_by_more_no}
use Rattle.std.proofs.lemmas.Bool.Decides.{nat_tests}
use Rattle.std.specs.Prelude.{◌/◌, ◌^◌, true, false, nat_lt, take, Option, None, Some, slice_index}
use Rattle.std.specs.Option.{option_map}
use Rattle.melt_forward.specs.Forwarding.{Sends, IsForwarding}
use Rattle.melt_forward.proofs.Pairs.{one_pair, forward_word-filled}
use Rattle.melt_space.specs.Space.{word_at}
use Rattle.melt_io.specs.Outside.{counted}
use Rattle.melt_scion.specs.State.{Scion}
use Rattle.melt_scion.specs.Placed.{Maps, ForwardStands, FormedWords, Formed}
use Rattle.melt_scion.specs.Scions.{scion_at}
use Rattle.melt_scion.specs.Heaps.{OnDisk, NamesMade, TablesMade, IsSettled, scion_in, state_of, register_in}
use Rattle.melt_scion.specs.declared.registers.Registers.{Registers}
use Rattle.melt_scion.specs.declared.heap.Heap.{Heap}
use Rattle.melt_scion.proofs.Numbers.{put_length}
use Rattle.melt_copy.specs.Settling.{IsFormedTo, Keeps, HasKept, HasLiveScion, SendsBelow, SettlesBelow, SettlesAt}
use Rattle.melt_copy.specs.Settling.{RisesBy, filled, with_image}
use Rattle.melt_copy.proofs.SettlingOne.{stands, formed_more, maps_kept}

-- what a heap stands for while nothing happens
pub keeps_none : (heap : Heap) (end : ℕ) (image : Option (List ℕ)) → Keeps heap heap end image image
keeps_none heap end image maps disk held is shows names formed = record {
  image = disk.image;
  shows = shows;
  names = names;
  formed = formed;
  holds = λ a may. may;
  headers = λ a n header named starts. starts;
  tells = λ h tells. tells;
}

-- and while one thing happens after the other
pub keeps_both : {old : Heap} (now new : Heap) (end : ℕ) (before between after : Option (List ℕ))
    → Keeps old now end before between → Keeps now new end between after → Keeps old new end before after
keeps_both {old} now new end before between after first second maps disk held is shows names formed =
    let one : HasKept maps disk held old now between = first maps disk held is shows names formed in
    let two : HasKept maps (with_image disk one.image) held now new after =
    second maps (with_image disk one.image) held is one.shows one.names one.formed in
    record {
      image = two.image;
      shows = two.shows;
      names = two.names;
      formed = two.formed;
      holds = λ a may. two.holds a (one.holds a may);
      headers = λ a n header named starts. two.headers a n header named (one.headers a n header named starts);
      tells = λ h tells. two.tells h (one.tells h tells);
    }

module _ (old new : Heap) (place home address : ℕ) (settles : SettlesAt old new place home address) where
  -- the tables are for as many as they were
  pub made_more : TablesMade old → TablesMade new
  made_more made = record {
    scions = record {
      is_table = settles.is_table;
      size = settles.adds.size ∙ (made.scions.size ∙ ap (λ (n : ℕ). n / 2) (sym settles.space.size));
    };
    names = subst (NamesMade (length new.space.list)) (sym settles.names)
        (subst (λ (n : ℕ). NamesMade n old.names) (sym settles.space.size) made.names);
  }

  -- one scion more is live
  pub live_more : length new.scions.live ≡ length old.scions.live + 1
  live_more = put_length settles.scion old.scions.live new.scions.live settles.adds.order

  -- the words stay well formed over the disk
  pub formed_to : (end : ℕ) → place < length old.forward → Sends (slice_index old.forward place) home address
      → IsFormedTo old end → IsFormedTo new end
  formed_to end within sends is = record {
    maps = is.maps;
    disk = is.disk;
    ends = is.ends;
    names = maps_kept old new is.maps settles.names settles.maps is.names;
    made = made_more is.made;
    formed = formed_more is.maps old new [] is.disk place home address is.formed is.made.scions within sends settles;
  }

-- no forwarding word was settled yet
pub settles_none : (heap : Heap) → SettlesBelow heap heap 0
settles_none heap = record {
  empty = λ p below. absurd (omega (arith, below));
  settled = λ home address sends. absurd (let below = sends.below in omega (arith, below));
  forwards = refl;
  rest = λ p from. refl;
  rest_homes = λ p home address from sends. refl;
  words = λ k other. refl;
  size = refl;
  used = refl;
  live = λ k pair is. is;
  only = λ k pair is. inl is;
  tables = λ made. made;
  globals = refl;
  names = refl;
  maps = refl;
}

-- a word that sends a home is filled
pub sends_filled : (word home address : ℕ) → Sends word home address → word ≢ 0
sends_filled word home address sends none =
    forward_word-filled home address sends.home_in_range (sym sends.is ∙ none)

-- of the words below the next place one is that at the place, or below it
last_or_before : (heap : Heap) (place home address : ℕ) → SendsBelow heap (place + 1) home address
    → Sends (slice_index heap.forward place) home address ⊎ SendsBelow heap place home address
last_or_before heap place home address is = elim (cases_eq is.at place) [
  | inl same ↦ inl (subst (λ (p : ℕ). Sends (slice_index heap.forward p) home address) same is.sends)
  | inr other ↦ inr (record {
    at = is.at;
    below = let below = is.below in omega (arith, below, other);
    sends = is.sends;
  })
]

more_below : (heap : Heap) (place home address : ℕ) → SendsBelow heap place home address
    → SendsBelow heap (place + 1) home address
more_below heap place home address is =
    record { at = is.at; below = let below = is.below in omega (arith, below); sends = is.sends }

module _ (old now : Heap) (place : ℕ) (so_far : SettlesBelow old now place) where
  -- the word at the place is as it was
  here_before : (home address : ℕ) → Sends (slice_index now.forward place) home address
      → Sends (slice_index old.forward place) home address
  here_before home address = subst (λ w. Sends w home address) (so_far.rest place (omega arith))

  -- an empty word has nothing to settle
  pub settles_past : slice_index now.forward place ≡ 0 → SettlesBelow old now (place + 1)
  settles_past none =
      let was_none : slice_index old.forward place ≡ 0 = sym (so_far.rest place (omega arith)) ∙ none in
      record {
        empty = λ p below. elim (cases_eq p place) [
          | inl same ↦ ap (slice_index now.forward) same ∙ none
          | inr other ↦ so_far.empty p (omega (arith, below, other))
        ];
        settled = λ home address sends. elim (last_or_before old place home address sends) [
          | inl here ↦ absurd (sends_filled (slice_index old.forward place) home address here was_none)
          | inr earlier ↦ so_far.settled home address earlier
        ];
        forwards = so_far.forwards;
        rest = λ p from. so_far.rest p (omega (arith, from));
        rest_homes = λ p home address from sends. so_far.rest_homes p home address (omega (arith, from)) sends;
        words = λ k other. so_far.words k
            (λ home address sends. other home address (more_below old place home address sends));
        size = so_far.size;
        used = so_far.used;
        live = so_far.live;
        only = λ k pair is. elim (so_far.only k pair is) [
          | inl was ↦ inl was
          | inr sends ↦ inr (more_below old place pair.0 pair.1 sends)
        ];
        tables = so_far.tables;
        globals = so_far.globals;
        names = so_far.names;
        maps = so_far.maps;
      }

  module _ (new : Heap) (home address : ℕ) (maps : Maps) (disk : OnDisk)
      (formed : FormedWords maps (state_of now [] disk)) (within : place < length now.forward)
      (sends : Sends (slice_index now.forward place) home address)
      (settles : SettlesAt now new place home address) where
    it_stands : ForwardStands maps (state_of now [] disk) home address
    it_stands = stands maps now [] disk place home address formed within sends

    -- a scion that was live is another
    still_live : (k : ℕ) (pair : ℕ × ℕ) → scion_at now.scions k ≡ Some pair → scion_at new.scions k ≡ Some pair
    still_live k pair is = elim (cases_eq k settles.scion) [
      | inl same ↦ absurd (let none : None ≡ Some pair =
          sym settles.adds.was_unused ∙ (ap (scion_at now.scions) (sym same) ∙ is) in cc)
      | inr other ↦ settles.adds.others k other ∙ is
    ]

    -- an object that was settled before is another
    settled_elsewhere : (k a : ℕ) → HasLiveScion now k a → a ≢ address
    settled_elsewhere k a has same =
        let x : Scion = record { home = k; address = a } in
        let live : scion_in now.scions has.scion ≡ Some x =
        ap (option_map (λ (pair : ℕ × ℕ). let y : Scion = record { home = pair.0; address = pair.1 } in y)) has.live in
        let is = formed.scions has.scion x live in
        let first : 1 ≤ has.scion = is.first in
        let small : has.scion < 1073741824 = is.small in
        let word : word_at now.space (address + 1) ≡ 4294967296 * k + 4 * has.scion =
        ap (λ (b : ℕ). word_at now.space (b + 1)) (sym same) ∙ has.word in
        let also : word_at now.space (address + 1) ≡ 4294967296 * home + 4 * 0 = it_stands.home_word in
        omega (arith, word, also, first, small)

    -- and so is one that is forwarded still
    forwarded_elsewhere : (p k a : ℕ) → place < p → p < length now.forward → Sends (slice_index now.forward p) k a
        → a ≢ address
    forwarded_elsewhere p k a later below also same =
        let its : ForwardStands maps (state_of now [] disk) k a =
        stands maps now [] disk p k a formed below also in
        let word : word_at now.space (address + 1) ≡ 4294967296 * k + 4 * 0 =
        ap (λ (b : ℕ). word_at now.space (b + 1)) (sym same) ∙ its.home_word in
        let mine : word_at now.space (address + 1) ≡ 4294967296 * home + 4 * 0 = it_stands.home_word in
        let one : k ≡ home = omega (arith, word, mine) in
        let at : p ≡ place = formed.one_forward p place home a address below within
        (subst (λ (j : ℕ). Sends (slice_index now.forward p) j a) one also) sends in
        omega (arith, at, later)

    sent_here : SendsBelow old (place + 1) home address
    sent_here = record { at = place; below = omega arith; sends = here_before home address sends }

    -- the word at the place is settled
    pub settles_more : SettlesBelow old new (place + 1)
    settles_more = record {
      empty = λ p below. elim (cases_eq p place) [
        | inl same ↦ ap (slice_index new.forward) same ∙ (ap (λ (xs : List ℕ). slice_index xs place) settles.forward
            ∙ get_or-set_same now.forward place 0 0 within)
        | inr other ↦ ap (λ (xs : List ℕ). slice_index xs p) settles.forward
            ∙ (get_or-set_other now.forward place p 0 0 other ∙ so_far.empty p (omega (arith, below, other)))
      ];
      settled = λ k a sent. elim (last_or_before old place k a sent) [
        | inl here ↦
            let was = here_before home address sends in
            let same = one_pair (slice_index old.forward place) home address k a was here in
            subst (λ (j : ℕ). HasLiveScion new j a) same.0
            (subst (λ (b : ℕ). HasLiveScion new home b) same.1
            (record { scion = settles.scion; live = settles.adds.here; word = settles.space.here }))
        | inr earlier ↦
            let has : HasLiveScion now k a = so_far.settled k a earlier in
            let differ : a ≢ address = settled_elsewhere k a has in
            record {
              scion = has.scion;
              live = still_live has.scion (k, a) has.live;
              word = settles.space.others (a + 1) (omega (arith, differ)) ∙ has.word;
            }
      ];
      forwards = ap length settles.forward ∙ (length-set now.forward place 0 ∙ so_far.forwards);
      rest = λ p from. ap (λ (xs : List ℕ). slice_index xs p) settles.forward
          ∙ (get_or-set_other now.forward place p 0 0 (omega (arith, from)) ∙ so_far.rest p (omega (arith, from)));
      rest_homes = λ p k a from sent.
          let also : Sends (slice_index now.forward p) k a =
          subst (λ w. Sends w k a) (sym (so_far.rest p (omega (arith, from)))) sent in
          let below : p < length now.forward = elim (cases_lt p (length now.forward)) [
            | inl less ↦ less
            | inr past ↦ absurd (sends_filled (slice_index now.forward p) k a also (get_or_past now.forward p 0 past))
          ] in
          let differ : a ≢ address = forwarded_elsewhere p k a (omega (arith, from)) below also in
          settles.space.others (a + 1) (omega (arith, differ)) ∙ so_far.rest_homes p k a (omega (arith, from)) sent;
      words = λ k other. settles.space.others k (other home address sent_here)
          ∙ so_far.words k (λ j a sent. other j a (more_below old place j a sent));
      size = settles.space.size ∙ so_far.size;
      used = settles.space.used ∙ so_far.used;
      live = λ k pair is. still_live k pair (so_far.live k pair is);
      only = λ k pair is. elim (cases_eq k settles.scion) [
        | inl same ↦
            let one : Some pair ≡ Some (home, address) = sym is ∙ (ap (scion_at new.scions) same ∙ settles.adds.here) in
            inr (subst (λ (p : ℕ × ℕ). SendsBelow old (place + 1) p.0 p.1) (sym (same_Some pair (home, address) one))
            sent_here)
        | inr other ↦ elim (so_far.only k pair (sym (settles.adds.others k other) ∙ is)) [
          | inl was ↦ inl was
          | inr sent ↦ inr (more_below old place pair.0 pair.1 sent)
        ]
      ];
      tables = λ made. made_more now new place home address settles (so_far.tables made);
      globals = settles.globals ∙ so_far.globals;
      names = settles.names ∙ so_far.names;
      maps = settles.maps ∙ so_far.maps;
    }

-- once all are settled, none is filled
pub all_settled : (old new : Heap) → SettlesBelow old new (length old.forward) → IsSettled new
all_settled old new all p = elim (cases_lt p (length old.forward)) [
  | inl below ↦ all.empty p below
  | inr past ↦ all.rest p past ∙ get_or_past old.forward p 0 past
]

-- Of words that are all empty none is filled.
none_below : (words : List ℕ) → ((p : ℕ) → slice_index words p ≡ 0) → (k : ℕ) → k ≤ length words
    → filled (take k words) ≡ 0
none_below words empty zero within = refl
none_below words empty (suc k) within =
    let test : nat_lt 0 (slice_index words k) ≡ false = let none = empty k in grind (arith, nat_tests) in
    ap (λ (n : ℕ). filled (take n words)) (sym (add-one k))
    ∙ (count_by_more_no (λ word. nat_lt 0 word) words k 0 (omega (arith, within)) test
    ∙ none_below words empty k (omega (arith, within)))

pub none_filled : (words : List ℕ) → ((p : ℕ) → slice_index words p ≡ 0) → filled words ≡ 0
none_filled words empty =
    ap filled (sym (take_all (length words) words (omega arith))) ∙ none_below words empty (length words) (omega arith)

-- What stands when the forwarding words below the place were passed, of which so many were filled.
pub record IsSettledSoFar (old now : Heap) (end : ℕ) (before after : Option (List ℕ)) (place count : ℕ) : Type 0 where
  pub formed : IsFormedTo now end
  pub keeps : Keeps old now end before after
  pub settles : SettlesBelow old now place
  pub counts : count ≡ filled (take place old.forward)
  pub scions : length now.scions.live ≡ length old.scions.live + count

pub so_far_none : (heap : Heap) (end : ℕ) (image : Option (List ℕ)) → IsFormedTo heap end
    → IsSettledSoFar heap heap end image image 0 0
so_far_none heap end image formed = record {
  formed = formed;
  keeps = keeps_none heap end image;
  settles = settles_none heap;
  counts = refl;
  scions = omega arith;
}

-- each word is 0 or sends a home to an address
pub forwarding_word : (heap : Heap) (end p : ℕ) → IsFormedTo heap end → p < length heap.forward
    → IsForwarding (slice_index heap.forward p)
forwarding_word heap end p formed below = elim (formed.formed.forwards p below) [
  | inl none ↦ inl none
  | inr is ↦ inr (is.0, is.1, is.2)
]

module _ (old now : Heap) (end : ℕ) (before between : Option (List ℕ)) (place count : ℕ)
    (so_far : IsSettledSoFar old now end before between place count) (within : place < length now.forward) where
  same_word : slice_index now.forward place ≡ slice_index old.forward place
  same_word = so_far.settles.rest place (omega arith)

  was_within : place < length old.forward
  was_within = let same = so_far.settles.forwards in omega (arith, within, same)

  -- scions are fewer than words, and each of the objects has one
  pub so_far_few : count < 2 ^ 30
  so_far_few =
      let made = so_far.formed.made.scions in
      let all = made.is_table.all in
      let size : length now.scions.pairs ≡ length now.space.list / 2 = made.size in
      let small : length now.space.list < 1073741824 = so_far.formed.formed.small in
      let live = so_far.scions in
      omega (arith, all, size, small, live)

  -- an empty word is passed
  pub so_far_past : slice_index now.forward place ≡ 0 → IsSettledSoFar old now end before between (place + 1) count
  so_far_past none =
      let empty : slice_index old.forward place ≡ 0 = sym same_word ∙ none in
      let test : nat_lt 0 (slice_index old.forward place) ≡ false = grind (arith, nat_tests) in
      record {
        formed = so_far.formed;
        keeps = so_far.keeps;
        settles = settles_past old now place so_far.settles none;
        counts = so_far.counts ∙ sym (count_by_more_no (λ word. nat_lt 0 word) old.forward place 0 was_within test);
        scions = so_far.scions;
      }

  -- a filled one is settled
  pub so_far_more : (new : Heap) (home address : ℕ) (after : Option (List ℕ))
      → Sends (slice_index now.forward place) home address → SettlesAt now new place home address
      → Keeps now new end between after → IsSettledSoFar old new end before after (place + 1) (count + 1)
  so_far_more new home address after sends settles keeps =
      let is : IsFormedTo now end = so_far.formed in
      let some : slice_index now.forward place ≢ 0 = sends_filled (slice_index now.forward place) home address sends in
      let there : slice_index old.forward place ≢ 0 = λ none. some (same_word ∙ none) in
      let test : nat_lt 0 (slice_index old.forward place) ≡ true = grind (arith, nat_tests) in
      let more = count_by_more_yes (λ word. nat_lt 0 word) old.forward place 0 was_within test in
      let counts = so_far.counts in
      let live = so_far.scions in
      let one = live_more now new place home address settles in
      record {
        formed = formed_to now new place home address settles end within sends is;
        keeps = keeps_both now new end before between after so_far.keeps keeps;
        settles = settles_more old now place so_far.settles new home address is.maps is.disk is.formed within sends
            settles;
        counts = omega (arith, counts, more);
        scions = omega (arith, live, one);
      }

-- one more was counted
pub counted_more : (more before now after : ℕ) → RisesBy more before now → after ≡ counted now 1
    → after ≡ counted before (more + 1)
counted_more zero before now after rises one = one ∙ ap (λ (n : ℕ). counted n 1) rises
counted_more (suc more) before now after rises one = omega (arith, rises, one)

pub rises_more : (more before now after : ℕ) → RisesBy more before now → after ≡ counted now 1
    → RisesBy (more + 1) before after
rises_more more before now after rises one =
    subst (λ (n : ℕ). RisesBy n before after) (sym (add-one more))
    (counted_more more before now after rises one ∙ ap (counted before) (add-one more))

-- Heap and registers that were well formed are.
pub kept_formed : {maps : Maps} {disk : OnDisk} {held : List Registers} {old new : Heap} {after : Option (List ℕ)}
    → (kept : HasKept maps disk held old new after) → Formed maps (state_of old held disk)
    → Formed maps (state_of new held (with_image disk kept.image))
kept_formed {held} kept formed = record {
  words = kept.formed;
  registers = λ t r. kept.holds (register_in held t r) (formed.registers t r);
}
