-- Heaps that are built by hand, for tests: one without objects, and one with three.
use Rattle.std.proofs.Common.{◌≡◌, ℕ, ◌+◌, ◌^◌, ◌<◌, zero, suc, List, [], ◌∷◌, length, replicate, refl, sym, subst}
use Rattle.std.proofs.Common.{ap, ◌∙◌, arith, lit≤, ◌⊎◌, inl, inr}
use Rattle.std.specs.Prelude.{Bool, Option, None, Some, true, false, slice_index}
use Rattle.std.specs.FinMap.{get-empty}
use Rattle.std.specs.Ordering.{nat_cmp}
use Rattle.std.proofs.lemmas.List.{length-replicate, get_or-replicate, get_or_past}
use Rattle.std.proofs.lemmas.Bool.{cases_lt}
use Rattle.std.proofs.lemmas.Bool.Decides.{eqb_tells}
use Rattle.melt_word.specs.Words.{cost_of, header_word, ref_word}
use Rattle.melt_word.specs.declared.header.Header.{Header}
use Rattle.melt_word.specs.declared.reference.Ref.TheVariants.{Clean, Stale}
use Rattle.melt_space.specs.Space.{word_at}
use Rattle.melt_scion.specs.State.{State, HeaderAt, ObjectAt, IsFresh}
use Rattle.melt_scion.specs.Placed.{Maps, FormedWords, Formed}
use Rattle.melt_scion.specs.Names.{name_at, SetsName}
use Rattle.melt_scion.specs.Scions.{Scions}
use Rattle.melt_scion.specs.Heaps.{no_homes_on, scion_in, register_in, state_of, IsFormed, IsSettled, IsNewHeap}
use Rattle.melt_scion.specs.Heaps.{AreScionsFor, HasNames, NamesMade}
use Rattle.melt_scion.specs.declared.registers.Registers.{Registers}
use Rattle.melt_scion.specs.declared.heap.Names as heap
use Rattle.melt_scion.specs.declared.heap.Heap.{Heap}
use Rattle.melt_copy.specs.Settling.{IsFormedTo}
use Rattle.melt_scion.proofs.Geometry.{one_header}
use Rattle.melt_scion.proofs.Tables.{scions_made}
use Rattle.melt_scion.proofs.Starting.{Formed_start, new_heap_empty, nothing_at, no_scion_in}
use Rattle.melt_copy_tests.specs.Built.{IsHeapOf}
use Rattle.melt_copy_tests.proofs.Built.{word_is, maps_of, heap_maps, heap_tables}

-- no address has a name, and no scion is live
pub none_at : (n k : ℕ) → name_at (replicate n None) k ≡ None
none_at n zero = refl
none_at n (suc k) = elim (cases_lt k n) [
  | inl below ↦ get_or-replicate n k None None below
  | inr above ↦
      get_or_past (replicate n None) k None (omega (arith, length-replicate {A = Option ℕ} n None, above))
]

-- a new heap with names, and registers that hold nothing
pub new_formed : (words globals forward : ℕ) (h : Heap) (held : List Registers) → words < 2 ^ 30
    → IsNewHeap words globals forward true h
    → ((t r : ℕ) → register_in held t r ≡ 0) → IsFormed h held
new_formed words globals forward h held small new registers =
    let maps : Maps = record { address = λ k. None; home = λ k. None } in
    record {
      maps = maps;
      disk = no_homes_on;
      names = subst (λ (o : Option heap.Names). HasNames o h.maps maps) (sym new.names)
          (λ k. sym (none_at words k), λ k. sym (get-empty {X = ℕ} nat_cmp k));
      made = record {
        scions = subst (λ (n : ℕ). AreScionsFor n h.scions) (sym new.space.size)
            (scions_made words h.scions new.scions);
        names = subst (NamesMade (length h.space.list)) (sym new.names)
            (length-replicate {A = Option ℕ} words None ∙ sym new.space.size);
      };
      formed = Formed_start maps (state_of h held no_homes_on) (record { address = λ k. refl; home = λ k. refl })
          (new_heap_empty h held words globals forward true small new) registers;
    }

-- and over a disk without homes
pub new_formed_to : (words globals forward : ℕ) (h : Heap) → words < 2 ^ 30 → IsNewHeap words globals forward true h
    → IsFormedTo h 1
unfolding new_formed
new_formed_to words globals forward h small new =
    let is : IsFormed h [] = new_formed words globals forward h [] small new (λ t r. refl) in
    record {
      maps = is.maps;
      disk = is.disk;
      ends = refl;
      names = is.names;
      made = is.made;
      formed = is.formed.words;
    }

pub new_settled : (words globals forward : ℕ) (named : Bool) (h : Heap) → IsNewHeap words globals forward named h
    → IsSettled h
new_settled words globals forward named h new p =
    ap (λ (xs : List ℕ). slice_index xs p) new.nothing_forwarded ∙ nothing_at forward p

abbrev pub no_registers : Registers
no_registers = record { regs = replicate 16 0 }

-- registers that hold nothing
pub none_held : (t r : ℕ) → register_in (no_registers ∷ []) t r ≡ 0
none_held zero r = nothing_at 16 r
none_held (suc t) r = refl

-- one register of the second thread holds an address
abbrev pub second_holds : ℕ → List Registers
second_holds address =
    no_registers ∷ record { regs = 0 ∷ 0 ∷ 0 ∷ address ∷ 0 ∷ 0 ∷ 0 ∷ 0 ∷ 0 ∷ 0 ∷ 0 ∷ 0 ∷ 0 ∷ 0 ∷ 0 ∷ 0 ∷ [] } ∷ []

pub fourth_held : (address t r : ℕ) → (register_in (second_holds address) t r ≡ 0)
    ⊎ (register_in (second_holds address) t r ≡ address)
fourth_held address zero r = inl (nothing_at 16 r)
fourth_held address (suc zero) zero = inl refl
fourth_held address (suc zero) (suc zero) = inl refl
fourth_held address (suc zero) (suc (suc zero)) = inl refl
fourth_held address (suc zero) (suc (suc (suc zero))) = inr refl
fourth_held address (suc zero) (suc (suc (suc (suc r)))) = inl (nothing_at 12 r)
fourth_held address (suc (suc t)) r = inl refl

-- the object in front has one number word, the next one a slot besides, and the last one has no parts
abbrev pub number_header : Header
number_header = record { shape = record { refs = 0; nums = 1 }; stale = false }

abbrev pub pair_header : Header
pair_header = record { shape = record { refs = 1; nums = 1 }; stale = false }

abbrev pub leaf_header : Header
leaf_header = record { shape = record { refs = 0; nums = 0 }; stale = false }

-- the words of these objects, of which the second refers to the third, as do the globals
pub record HasWords (maps : Maps) (s : State) : Type 0 where
  pub size : s.base.size ≡ 10
  pub end : s.base.end ≡ 1
  pub scions : (k : ℕ) → s.base.scion k ≡ None
  pub forwards : s.base.forwards ≡ 0
  pub free : s.free ≡ 10
  pub named_at : (k n : ℕ) → maps.address k ≡ Some n → (k ≡ 1) ⊎ ((k ≡ 4) ⊎ (k ≡ 8))
  pub pair_named : maps.address 4 ≡ Some 1
  pub leaf_named : maps.address 8 ≡ Some 2
  pub number : s.word 1 ≡ header_word number_header
  pub number_home : s.word 2 ≡ 0
  pub pair : s.word 4 ≡ header_word pair_header
  pub pair_home : s.word 5 ≡ 0
  pub slot : s.word 6 ≡ ref_word (Stale 8)
  pub leaf : s.word 8 ≡ header_word leaf_header
  pub leaf_home : s.word 9 ≡ 0
  pub globals : (g : ℕ) → g < s.base.globals → s.global g ≡ ref_word (Clean 8)
  pub registers : (t r : ℕ) → (s.register t r ≡ 0) ⊎ (s.register t r ≡ 4)

module _ (maps : Maps) (s : State) (has : HasWords maps s) where
  number_starts : HeaderAt s 1 number_header
  number_starts = record { in_range = record { refs = lit≤ tt; nums = lit≤ tt }; word = has.number }

  pair_starts : HeaderAt s 4 pair_header
  pair_starts = record { in_range = record { refs = lit≤ tt; nums = lit≤ tt }; word = has.pair }

  leaf_starts : HeaderAt s 8 leaf_header
  leaf_starts = record { in_range = record { refs = lit≤ tt; nums = lit≤ tt }; word = has.leaf }

  is_header : (a b : ℕ) (h k : Header) → a ≡ b → HeaderAt s b k → HeaderAt s a h → h ≡ k
  is_header a b h k at there starts = one_header s b h k (subst (λ (c : ℕ). HeaderAt s c h) at starts) there

  costs : (a b : ℕ) (h k : Header) → a ≡ b → HeaderAt s b k → HeaderAt s a h → cost_of h.shape ≡ cost_of k.shape
  costs a b h k at there starts = ap (λ (x : Header). cost_of x.shape) (is_header a b h k at there starts)

  slots_in : (a b : ℕ) (h k : Header) → a ≡ b → HeaderAt s b k → HeaderAt s a h → h.shape.refs ≡ k.shape.refs
  slots_in a b h k at there starts = ap (λ (x : Header). x.shape.refs) (is_header a b h k at there starts)

  fresh_at : (b : ℕ) (k : Header) → HeaderAt s b k → k.stale ≡ false → IsFresh s b
  fresh_at b k there fresh h starts = ap (λ (x : Header). x.stale) (is_header b b h k refl there starts) ∙ fresh

  formed_words : FormedWords maps s
  formed_words = record {
    small = omega (arith, has.size);
    first_end = omega (arith, has.end);
    small_end = omega (arith, has.end);
    objects = λ a n is. elim (has.named_at a n is) [
      | inl one ↦ subst (λ (c : ℕ). (h : Header) × ObjectAt s c h) (sym one) (
        number_header,
        record {
          starts = number_starts;
          first = omega arith;
          within = omega (arith, has.size);
          below = omega (arith, has.free);
        },
      )
      | inr more ↦ elim more [
        | inl four ↦ subst (λ (c : ℕ). (h : Header) × ObjectAt s c h) (sym four) (
          pair_header,
          record {
            starts = pair_starts;
            first = omega arith;
            within = omega (arith, has.size);
            below = omega (arith, has.free);
          },
        )
        | inr eight ↦ subst (λ (c : ℕ). (h : Header) × ObjectAt s c h) (sym eight) (
          leaf_header,
          record {
            starts = leaf_starts;
            first = omega arith;
            within = omega (arith, has.size);
            below = omega (arith, has.free);
          },
        )
      ]
    ];
    apart = λ a b n m h is other starts less. elim (has.named_at a n is) [
      | inl one ↦
          let cost = costs a 1 h number_header one number_starts starts in
          elim (has.named_at b m other) [
            | inl b_one ↦ omega (arith, one, b_one, cost, less)
            | inr b_more ↦ elim b_more [
              | inl b_four ↦ omega (arith, one, b_four, cost, less)
              | inr b_eight ↦ omega (arith, one, b_eight, cost, less)
            ]
          ]
      | inr more ↦ elim more [
        | inl four ↦
            let cost = costs a 4 h pair_header four pair_starts starts in
            elim (has.named_at b m other) [
              | inl b_one ↦ omega (arith, four, b_one, cost, less)
              | inr b_more ↦ elim b_more [
                | inl b_four ↦ omega (arith, four, b_four, cost, less)
                | inr b_eight ↦ omega (arith, four, b_eight, cost, less)
              ]
            ]
        | inr eight ↦ elim (has.named_at b m other) [
          | inl b_one ↦ omega (arith, eight, b_one, less)
          | inr b_more ↦ elim b_more [
            | inl b_four ↦ omega (arith, eight, b_four, less)
            | inr b_eight ↦ omega (arith, eight, b_eight, less)
          ]
        ]
      ]
    ];
    slots = λ a n i h is starts below. elim (has.named_at a n is) [
      | inl one ↦ absurd (let refs = slots_in a 1 h number_header one number_starts starts in
          omega (arith, refs, below))
      | inr more ↦ elim more [
        | inl four ↦
            let refs = slots_in a 4 h pair_header four pair_starts starts in
            let at : a + 2 + i ≡ 6 = omega (arith, refs, below, four) in
            record {
              reference = Stale 8;
              in_range = record { not_null = lit≤ tt; small = lit≤ tt };
              is = ap s.word at
                  ∙ has.slot;
              stands = (2, has.leaf_named);
            }
        | inr eight ↦ absurd (let refs = slots_in a 8 h leaf_header eight leaf_starts starts in
            omega (arith, refs, below))
      ]
    ];
    home_words = λ a n header is starts. inl (elim (has.named_at a n is) [
      | inl one ↦ ap (λ (c : ℕ). s.word (c + 1)) one ∙ has.number_home
      | inr more ↦ elim more [
        | inl four ↦ ap (λ (c : ℕ). s.word (c + 1)) four ∙ has.pair_home
        | inr eight ↦ ap (λ (c : ℕ). s.word (c + 1)) eight ∙ has.leaf_home
      ]
    ]);
    globals =
        λ g below. record {
          reference = Clean 8;
          in_range = record { not_null = lit≤ tt; small = lit≤ tt };
          is = has.globals g below;
          stands = ((2, has.leaf_named), fresh_at 8 leaf_header leaf_starts refl);
        };
    scions = λ k x live. absurd (let dead = has.scions k in cc);
    forwards = λ p below. absurd (omega (arith, below, has.forwards));
    one_forward = λ p q home a b below. absurd (omega (arith, below, has.forwards));
  }

  pub words_formed : Formed maps s
  words_formed = record {
    words = formed_words;
    registers = λ t r. elim (has.registers t r) [
      | inl nothing ↦ inl nothing
      | inr four ↦ inr (subst (λ (c : ℕ). ((n : ℕ) × (maps.address c ≡ Some n)) × IsFresh s c) (sym four)
          ((1, has.pair_named), fresh_at 4 pair_header pair_starts refl))
    ];
  }

abbrev pub three_words : List ℕ
three_words =
    header_word number_header ∷ 0 ∷ 0 ∷ header_word pair_header ∷ 0 ∷ ref_word (Stale 8) ∷ 9 ∷ header_word leaf_header
    ∷ 0 ∷ []

-- The heap was built of the words of three objects, which are numbered in their order. The second has a stale reference
-- to the third, and the number 9; a global refers to the third. The second is in some registers, and all others hold
-- nothing.
pub record HasThree (h : Heap) (held : List Registers) (names : List (Option ℕ)) : Type 0 where
  pub words : List ℕ
  pub words_are : words ≡ three_words
  pub globals : List ℕ
  pub globals_are : globals ≡ ref_word (Clean 8) ∷ []
  pub built : IsHeapOf 10 words names globals [] h
  pub unnamed : List (Option ℕ)
  pub names_one : List (Option ℕ)
  pub names_two : List (Option ℕ)
  pub none : unnamed ≡ replicate 10 None
  pub one_named : SetsName unnamed names_one 1 0
  pub two_named : SetsName names_one names_two 4 1
  pub three_named : SetsName names_two names 8 2
  pub registers : (t r : ℕ) → (register_in held t r ≡ 0) ⊎ (register_in held t r ≡ 4)

pub three_formed : (h : Heap) (held : List Registers) (names : List (Option ℕ)) → HasThree h held names → IsFormed h held
three_formed h held names is =
    let stands : (k : ℕ) → k < 9 → word_at h.space (suc k) ≡ slice_index three_words k =
    word_is 10 is.words three_words h.space is.built.space is.words_are in
    let used : h.space.used ≡ 9 = is.built.space.used ∙ ap length is.words_are in
    let count : length names ≡ 10 = is.three_named.size
    ∙ (is.two_named.size ∙ (is.one_named.size ∙ (ap length is.none ∙ length-replicate {A = Option ℕ} 10 None))) in
    let named_at : (k n : ℕ) → name_at names k ≡ Some n → (k ≡ 1) ⊎ ((k ≡ 4) ⊎ (k ≡ 8)) =
    λ k n named. elim (eqb_tells k 8) [
      | inl same ↦ inr (inr same.1)
      | inr not_third ↦ elim (eqb_tells k 4) [
        | inl same ↦ inr (inl same.1)
        | inr not_second ↦ elim (eqb_tells k 1) [
          | inl same ↦ inl same.1
          | inr not_first ↦ absurd (let none : name_at names k ≡ None = is.three_named.others k not_third.1
              ∙ (is.two_named.others k not_second.1
              ∙ (is.one_named.others k not_first.1
              ∙ (ap (λ (l : List (Option ℕ)). name_at l k) is.none ∙ none_at 10 k))) in cc)
        ]
      ]
    ] in
    record {
      maps = maps_of names;
      disk = no_homes_on;
      names = heap_maps 10 is.words names is.globals [] h is.built;
      made = heap_tables 10 is.words names is.globals [] h is.built count;
      formed = words_formed (maps_of names) (state_of h held no_homes_on) (record {
        size = is.built.space.size;
        end = refl;
        scions = λ k. ap (λ (table : Scions). scion_in table k) is.built.scions ∙ no_scion_in 5 k;
        forwards = ap length is.built.forward_are;
        free = omega (arith, used);
        named_at = named_at;
        pair_named = is.three_named.others 4 (omega arith) ∙ is.two_named.here;
        leaf_named = is.three_named.here;
        number = stands 0 (lit≤ tt);
        number_home = stands 1 (lit≤ tt);
        pair = stands 3 (lit≤ tt);
        pair_home = stands 4 (lit≤ tt);
        slot = stands 5 (lit≤ tt);
        leaf = stands 7 (lit≤ tt);
        leaf_home = stands 8 (lit≤ tt);
        globals = λ g below.
            let are = is.built.globals_are ∙ is.globals_are in
            let first : g ≡ 0 = omega (arith, ap length are, below) in
            ap (λ (gs : List ℕ). slice_index gs g) are ∙ ap (slice_index (ref_word (Clean 8) ∷ [])) first;
        registers = is.registers;
      });
    }
