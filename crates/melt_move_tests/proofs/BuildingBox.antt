-- Heaps that are built by hand, for tests: a stale box, which refers to a pair and to itself, and the pair, which is in a
-- register and refers to the box. A global refers to each of them. In one of the heaps the pair came back from a disk.
use Rattle.std.proofs.Common.{◌≡◌, ◌⊎◌, inl, inr, ℕ, ◌+◌, ◌<◌, ◌≤◌, zero, suc, List, [], ◌∷◌, length, replicate}
use Rattle.std.proofs.Common.{refl, true, false}
use Rattle.std.proofs.Common.{ap, sym, subst, ◌∙◌, arith, lit≤}
use Rattle.std.specs.Prelude.{◌^◌, Option, None, Some, slice_index}
use Rattle.std.proofs.lemmas.List.{length-replicate}
use Rattle.std.proofs.lemmas.Bool.Decides.{eqb_tells}
use Rattle.melt_word.specs.Words.{cost_of, header_word, home_word, ref_word}
use Rattle.melt_word.specs.declared.header.Header.{Header}
use Rattle.melt_word.specs.declared.reference.Ref.TheVariants.{Clean, Stale}
use Rattle.melt_forward.specs.Forwarding.{Sends, forward_word}
use Rattle.melt_space.specs.Space.{word_at}
use Rattle.melt_scion.specs.State.{State, HeaderAt, ObjectAt, IsFresh}
use Rattle.melt_scion.specs.Placed.{Maps, HasHome, ForwardMayStand, IsReferenceWord, FormedWords, Formed}
use Rattle.melt_scion.specs.Names.{name_at, SetsName}
use Rattle.melt_scion.specs.Scions.{Scions}
use Rattle.melt_scion.specs.Heaps.{OnDisk, no_homes_on, scion_in, register_in, state_of}
use Rattle.melt_scion.specs.declared.heap.Heap.{Heap}
use Rattle.melt_scion.proofs.Geometry.{one_header}
use Rattle.melt_scion.proofs.SameObjects.{NamesMatch}
use Rattle.melt_scion.proofs.Starting.{nothing_at, no_scion_in}
use Rattle.melt_copy_tests.specs.Built.{IsHeapOf}
use Rattle.melt_copy_tests.proofs.Built.{word_is, maps_of, heap_maps, heap_tables}
use Rattle.melt_copy_tests.proofs.Building.{none_at}
use Rattle.melt_move.specs.Collecting.{IsFormedOn}
use Rattle.melt_move_tests.specs.Held.{third_holds}

abbrev pub box_header : Header
box_header = record { shape = record { refs = 2; nums = 0 }; stale = true }

abbrev pub pair_header : Header
pair_header = record { shape = record { refs = 1; nums = 1 }; stale = false }

-- their words, with the home word of the pair
abbrev pub two_words : ℕ → List ℕ
two_words home =
    header_word box_header ∷ 0 ∷ ref_word (Clean 5) ∷ ref_word (Stale 1)
    ∷ header_word pair_header ∷ home ∷ ref_word (Stale 1) ∷ 9 ∷ []

abbrev pub two_globals : List ℕ
two_globals = ref_word (Stale 1) ∷ ref_word (Clean 5) ∷ []

pub pair_held : (t r : ℕ) → (register_in (third_holds 5) t r ≡ 0) ⊎ (register_in (third_holds 5) t r ≡ 5)
pair_held zero zero = inl refl
pair_held zero (suc zero) = inl refl
pair_held zero (suc (suc zero)) = inr refl
pair_held zero (suc (suc (suc r))) = inl (nothing_at 13 r)
pair_held (suc t) r = inl refl

-- the words of both objects, but for the home word of the pair
pub record HasWords (maps : Maps) (s : State) : Type 0 where
  pub size_is : s.base.size ≡ 8
  pub first_end : 1 ≤ s.base.end
  pub small_end : s.base.end ≤ 2 ^ 32
  pub scions : (k : ℕ) → s.base.scion k ≡ None
  pub free : s.free ≡ 9
  pub named_at : (k n : ℕ) → maps.address k ≡ Some n → (k ≡ 1) ⊎ (k ≡ 5)
  pub box_named : maps.address 1 ≡ Some 1
  pub pair_named : maps.address 5 ≡ Some 0
  pub box : s.word 1 ≡ header_word box_header
  pub box_home : s.word 2 ≡ 0
  pub first_slot : s.word 3 ≡ ref_word (Clean 5)
  pub second_slot : s.word 4 ≡ ref_word (Stale 1)
  pub pair : s.word 5 ≡ header_word pair_header
  pub pair_slot : s.word 7 ≡ ref_word (Stale 1)
  pub globals : (g : ℕ) → g < s.base.globals → (s.global g ≡ ref_word (Stale 1)) ⊎ (s.global g ≡ ref_word (Clean 5))
  pub registers : (t r : ℕ) → (s.register t r ≡ 0) ⊎ (s.register t r ≡ 5)

module _ (maps : Maps) (s : State) (has : HasWords maps s) where
  box_starts : HeaderAt s 1 box_header
  box_starts = record { in_range = record { refs = lit≤ tt; nums = lit≤ tt }; word = has.box }

  pair_starts : HeaderAt s 5 pair_header
  pair_starts = record { in_range = record { refs = lit≤ tt; nums = lit≤ tt }; word = has.pair }

  is_header : (a b : ℕ) (h k : Header) → a ≡ b → HeaderAt s b k → HeaderAt s a h → h ≡ k
  is_header a b h k at there starts = one_header s b h k (subst (λ (c : ℕ). HeaderAt s c h) at starts) there

  pair_fresh : IsFresh s 5
  pair_fresh h starts = ap (λ (x : Header). x.stale) (is_header 5 5 h pair_header refl pair_starts starts)

  to_box : (word : ℕ) → word ≡ ref_word (Stale 1) → IsReferenceWord maps s word
  to_box word is = record {
    reference = Stale 1;
    in_range = record { not_null = lit≤ tt; small = lit≤ tt };
    is = is;
    stands = (1, has.box_named);
  }

  to_pair : (word : ℕ) → word ≡ ref_word (Clean 5) → IsReferenceWord maps s word
  to_pair word is = record {
    reference = Clean 5;
    in_range = record { not_null = lit≤ tt; small = lit≤ tt };
    is = is;
    stands = ((0, has.pair_named), pair_fresh);
  }

  box_slots : (i at : ℕ) → at ≡ 3 + i → i < 2 → IsReferenceWord maps s (s.word at)
  box_slots zero at is below = to_pair (s.word at) (ap s.word is ∙ has.first_slot)
  box_slots (suc zero) at is below = to_box (s.word at) (ap s.word is ∙ has.second_slot)
  box_slots (suc (suc i)) at is below = absurd (omega (arith, below))

  box_no_home : (a : ℕ) → a ≡ 1 → s.word (a + 1) ≡ 0
  box_no_home a one = ap (λ (c : ℕ). s.word (c + 1)) one ∙ has.box_home

  -- no object has a home
  pub none_match : s.word 6 ≡ 0 → s.base.forwards ≡ 0 → NamesMatch maps s
  none_match pair_home none = record {
    home_words = λ a n header is starts. inl (elim (has.named_at a n is) [
      | inl one ↦ box_no_home a one
      | inr five ↦ ap (λ (c : ℕ). s.word (c + 1)) five ∙ pair_home
    ]);
    scions = λ k x live. absurd (let dead = has.scions k in cc);
    forwards = λ p below. absurd (omega (arith, below, none));
    one_forward = λ p q home a b below. absurd (omega (arith, below, none));
  }

  -- or the pair came back from the home 1
  module _ (pair_home : s.word 6 ≡ home_word (Some (record { home = 1; scion = 0 }))) (one : s.base.forwards ≡ 1)
      (forward : s.forward 0 ≡ forward_word 1 5) (end : s.base.end ≡ 5) where
    pair_sent : Sends (s.forward 0) 1 5
    pair_sent = record {
      home_in_range = record { not_null = lit≤ tt; small = lit≤ tt };
      address_in_range = record { not_null = lit≤ tt; small = lit≤ tt };
      is = forward;
    }

    pair_has_home : (header : Header) → HeaderAt s 5 header → HasHome s 5 (cost_of header.shape) 1 0
    pair_has_home header starts =
        let cost = ap (λ (x : Header). cost_of x.shape) (is_header 5 5 header pair_header refl pair_starts starts) in
        record {
          in_range = record { home = record { not_null = lit≤ tt; small = lit≤ tt }; scion = lit≤ tt };
          is = pair_home;
          within = omega (arith, cost, end);
          forwarded = (
            λ none. record { place = 0; within = omega (arith, one); sends = pair_sent },
            λ sends. refl,
          );
          live = λ some. absurd (some refl);
        }

    pair_stands : (p : ℕ) → p ≡ 0 → ForwardMayStand maps s (s.forward p)
    pair_stands p first = subst (λ (q : ℕ). ForwardMayStand maps s (s.forward q)) (sym first) (inr (
      1,
      5,
      pair_sent,
      record { named = (0, has.pair_named); home_word = pair_home; fresh = pair_fresh },
    ))

    pub back_match : NamesMatch maps s
    back_match = record {
      home_words = λ a n header is starts. elim (has.named_at a n is) [
        | inl box ↦ inl (box_no_home a box)
        | inr five ↦ inr (
          1,
          0,
          subst (λ (c : ℕ). HasHome s c (cost_of header.shape) 1 0) (sym five)
              (pair_has_home header (subst (λ (c : ℕ). HeaderAt s c header) five starts)),
        )
      ];
      scions = λ k x live. absurd (let dead = has.scions k in cc);
      forwards = λ p below. pair_stands p (omega (arith, below, one));
      one_forward = λ p q home a b below also first second. omega (arith, below, also, one);
    }

module _ (maps : Maps) (s : State) (has : HasWords maps s) (names : NamesMatch maps s) where
  formed_words : FormedWords maps s
  formed_words = record {
    small = omega (arith, has.size_is);
    first_end = has.first_end;
    small_end = has.small_end;
    objects = λ a n is. elim (has.named_at a n is) [
      | inl one ↦ subst (λ (c : ℕ). (h : Header) × ObjectAt s c h) (sym one) (
        box_header,
        record {
          starts = box_starts maps s has;
          first = omega arith;
          within = omega (arith, has.size_is);
          below = omega (arith, has.free);
        },
      )
      | inr five ↦ subst (λ (c : ℕ). (h : Header) × ObjectAt s c h) (sym five) (
        pair_header,
        record {
          starts = pair_starts maps s has;
          first = omega arith;
          within = omega (arith, has.size_is);
          below = omega (arith, has.free);
        },
      )
    ];
    apart = λ a b n m h is other starts less. elim (has.named_at a n is) [
      | inl one ↦
          let cost = ap (λ (x : Header). cost_of x.shape) (is_header maps s has a 1 h box_header one
          (box_starts maps s has) starts) in
          elim (has.named_at b m other) [
            | inl b_one ↦ absurd (omega (arith, one, b_one, less))
            | inr b_five ↦ omega (arith, one, b_five, cost)
          ]
      | inr five ↦ absurd (elim (has.named_at b m other) [
        | inl b_one ↦ omega (arith, five, b_one, less)
        | inr b_five ↦ omega (arith, five, b_five, less)
      ])
    ];
    slots = λ a n i h is starts below. elim (has.named_at a n is) [
      | inl one ↦
          let refs = ap (λ (x : Header). x.shape.refs) (is_header maps s has a 1 h box_header one
          (box_starts maps s has) starts) in
          box_slots maps s has i (a + 2 + i) (omega (arith, one)) (omega (arith, refs, below))
      | inr five ↦
          let refs = ap (λ (x : Header). x.shape.refs) (is_header maps s has a 5 h pair_header five
          (pair_starts maps s has) starts) in
          let at : a + 2 + i ≡ 7 = omega (arith, refs, below, five) in
          to_box maps s has (s.word (a + 2 + i)) (ap s.word at ∙ has.pair_slot)
    ];
    home_words = names.home_words;
    globals = λ g below. elim (has.globals g below) [
      | inl box ↦ to_box maps s has (s.global g) box
      | inr pair ↦ to_pair maps s has (s.global g) pair
    ];
    scions = names.scions;
    forwards = names.forwards;
    one_forward = names.one_forward;
  }

  pub two_formed_words : Formed maps s
  two_formed_words = record {
    words = formed_words;
    registers = λ t r. elim (has.registers t r) [
      | inl nothing ↦ inl nothing
      | inr five ↦ inr (subst (λ (c : ℕ). ((n : ℕ) × (maps.address c ≡ Some n)) × IsFresh s c) (sym five)
          ((0, has.pair_named), pair_fresh maps s has))
    ];
  }

-- The heap was built of the words of both objects, of which the pair has the number 0 and the box the number 1. A global
-- refers to each.
pub record HasTwo (h : Heap) (names : List (Option ℕ)) (home : ℕ) (forward : List ℕ) : Type 0 where
  pub words : List ℕ
  pub words_are : words ≡ two_words home
  pub globals : List ℕ
  pub globals_are : globals ≡ two_globals
  pub built : IsHeapOf 8 words names globals forward h
  pub unnamed : List (Option ℕ)
  pub names_one : List (Option ℕ)
  pub none : unnamed ≡ replicate 8 None
  pub pair_named : SetsName unnamed names_one 5 0
  pub box_named : SetsName names_one names 1 1

module _ (h : Heap) (names : List (Option ℕ)) (home : ℕ) (forward : List ℕ) (is : HasTwo h names home forward) where
  named_at : (k n : ℕ) → name_at names k ≡ Some n → (k ≡ 1) ⊎ (k ≡ 5)
  named_at k n named = elim (eqb_tells k 1) [
    | inl same ↦ inl same.1
    | inr not_box ↦ elim (eqb_tells k 5) [
      | inl same ↦ inr same.1
      | inr not_pair ↦ absurd (let none : name_at names k ≡ None = is.box_named.others k not_box.1
          ∙ (is.pair_named.others k not_pair.1
          ∙ (ap (λ (l : List (Option ℕ)). name_at l k) is.none ∙ none_at 8 k)) in cc)
    ]
  ]

  stands : (k : ℕ) → k < 8 → word_at h.space (suc k) ≡ slice_index (two_words home) k
  stands = word_is 8 is.words (two_words home) h.space is.built.space is.words_are

  globals_at : (g : ℕ) → g < 2
      → (slice_index two_globals g ≡ ref_word (Stale 1)) ⊎ (slice_index two_globals g ≡ ref_word (Clean 5))
  globals_at zero below = inl refl
  globals_at (suc zero) below = inr refl
  globals_at (suc (suc g)) below = absurd (omega (arith, below))

  module _ (disk : OnDisk) (first_end : 1 ≤ disk.end) (small_end : disk.end ≤ 2 ^ 32) where
    words : HasWords (maps_of names) (state_of h (third_holds 5) disk)
    words =
        let used : h.space.used ≡ 8 = is.built.space.used ∙ ap length is.words_are in
        let globals : h.globals ≡ two_globals = is.built.globals_are ∙ is.globals_are in
        record {
          size_is = is.built.space.size;
          first_end = first_end;
          small_end = small_end;
          scions = λ k. ap (λ (table : Scions). scion_in table k) is.built.scions ∙ no_scion_in 4 k;
          free = omega (arith, used);
          named_at = named_at;
          box_named = is.box_named.here;
          pair_named = is.box_named.others 5 (omega arith) ∙ is.pair_named.here;
          box = stands 0 (lit≤ tt);
          box_home = stands 1 (lit≤ tt);
          first_slot = stands 2 (lit≤ tt);
          second_slot = stands 3 (lit≤ tt);
          pair = stands 4 (lit≤ tt);
          pair_slot = stands 6 (lit≤ tt);
          globals = λ g below.
              subst (λ (gs : List ℕ). (slice_index gs g ≡ ref_word (Stale 1)) ⊎ (slice_index gs g ≡ ref_word (Clean 5)))
              (sym globals) (globals_at g (omega (arith, ap length globals, below)));
          registers = pair_held;
        }

    formed_with : (end : ℕ) → disk.end ≡ end → NamesMatch (maps_of names) (state_of h (third_holds 5) disk)
        → IsFormedOn h (third_holds 5) end
    formed_with end ends match =
        let count : length names ≡ 8 = is.box_named.size
        ∙ (is.pair_named.size ∙ (ap length is.none ∙ length-replicate {A = Option ℕ} 8 None)) in
        record {
          maps = maps_of names;
          disk = disk;
          end_is = ends;
          names = heap_maps 8 is.words names is.globals forward h is.built;
          made = heap_tables 8 is.words names is.globals forward h is.built count;
          formed = two_formed_words (maps_of names) (state_of h (third_holds 5) disk) words match;
        }

module _ (h : Heap) (names : List (Option ℕ)) (home : ℕ) (forward : List ℕ) (is : HasTwo h names home forward) where
  -- The pair has no home.
  pub alone_formed : home ≡ 0 → forward ≡ [] → IsFormedOn h (third_holds 5) 1
  alone_formed home_is forward_is =
      let has : HasWords (maps_of names) (state_of h (third_holds 5) no_homes_on) =
      words h names home forward is no_homes_on (omega arith) (omega arith) in
      formed_with h names home forward is no_homes_on (omega arith) (omega arith) 1 refl
      (none_match (maps_of names) (state_of h (third_holds 5) no_homes_on) has
      (stands h names home forward is 5 (lit≤ tt) ∙ home_is) (ap length (is.built.forward_are ∙ forward_is)))

  -- a disk with one home of four words, which no one reads
  abbrev one_home_on : OnDisk
  one_home_on = record { end = 5; homes = []; free_homes = []; image = λ k. 0 }

  -- The pair came back from the home 1.
  pub back_formed : home ≡ home_word (Some (record { home = 1; scion = 0 })) → forward ≡ forward_word 1 5 ∷ []
      → IsFormedOn h (third_holds 5) 5
  back_formed home_is forward_is =
      let are : h.forward ≡ forward_word 1 5 ∷ [] = is.built.forward_are ∙ forward_is in
      let has : HasWords (maps_of names) (state_of h (third_holds 5) one_home_on) =
      words h names home forward is one_home_on (omega arith) (omega arith) in
      formed_with h names home forward is one_home_on (omega arith) (omega arith) 5 refl
      (back_match (maps_of names) (state_of h (third_holds 5) one_home_on) has
      (stands h names home forward is 5 (lit≤ tt) ∙ home_is) (ap length are)
      (ap (λ (xs : List ℕ). slice_index xs 0) are) refl)
