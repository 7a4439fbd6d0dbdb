-- A heap that is built by hand, for a test: two leaves that came back from a disk, with an empty forwarding word
-- between theirs.
use Rattle.std.proofs.Common.{◌≡◌, ◌⊎◌, ℕ, zero, suc, ◌+◌, ◌<◌, ◌≤◌, List, [], ◌∷◌, length, replicate}
use Rattle.std.proofs.Common.{refl, sym, subst, ap, ◌∙◌, arith, lit≤, inl, inr}
use Rattle.std.specs.Prelude.{Option, None, Some, slice_index}
use Rattle.std.proofs.lemmas.List.{length-replicate}
use Rattle.std.proofs.lemmas.Bool.Decides.{eqb_tells}
use Rattle.melt_word.specs.Words.{cost_of, header_word, home_word}
use Rattle.melt_word.specs.declared.home.HomeWord.{HomeWord}
use Rattle.melt_word.specs.declared.header.Header.{Header}
use Rattle.melt_forward.specs.Forwarding.{Sends, forward_word}
use Rattle.melt_forward.proofs.Pairs.{one_pair, forward_word-filled}
use Rattle.melt_space.specs.Space.{word_at}
use Rattle.melt_scion.specs.State.{State, HeaderAt, Forwards}
use Rattle.melt_scion.specs.Placed.{Maps, ForwardMayStand, FormedWords}
use Rattle.melt_scion.specs.Names.{name_at, SetsName}
use Rattle.melt_scion.specs.Scions.{Scions}
use Rattle.melt_scion.specs.Heaps.{OnDisk, scion_in, state_of}
use Rattle.melt_scion.specs.declared.heap.Heap.{Heap}
use Rattle.melt_scion.proofs.Geometry.{one_header}
use Rattle.melt_scion.proofs.Starting.{no_scion_in}
use Rattle.melt_copy.specs.Settling.{IsFormedTo}
use Rattle.melt_copy_tests.specs.Built.{IsHeapOf}
use Rattle.melt_copy_tests.proofs.Built.{word_is, maps_of, heap_maps, heap_tables}
use Rattle.melt_copy_tests.proofs.Building.{leaf_header, none_at}

-- a home with no stub yet
abbrev pub home_only : ℕ → HomeWord
home_only home = record { home = home; scion = 0 }

-- two homes of two words each, which no one reads
abbrev two_homes_on : OnDisk
two_homes_on = record { end = 5; homes = []; free_homes = []; image = λ k. 0 }

-- each of the two leaves stands at the address that is its home, too
abbrev IsLeaf : ℕ → Type 0
IsLeaf a = (a ≡ 1) ⊎ (a ≡ 3)

-- the words of the two leaves
record HasWords (maps : Maps) (s : State) : Type 0 where
  pub size : s.base.size ≡ 4
  pub end : s.base.end ≡ 5
  pub globals : s.base.globals ≡ 0
  pub forwards : s.base.forwards ≡ 3
  pub free : s.free ≡ 5
  pub named_at : (k n : ℕ) → maps.address k ≡ Some n → IsLeaf k
  pub named : (k : ℕ) → IsLeaf k → (n : ℕ) × (maps.address k ≡ Some n)
  pub leaf : (k : ℕ) → IsLeaf k → s.word k ≡ header_word leaf_header
  pub leaf_home : (k : ℕ) → IsLeaf k → s.word (k + 1) ≡ home_word (Some (home_only k))
  pub no_scion : (k : ℕ) → s.base.scion k ≡ None
  pub first : s.forward 0 ≡ forward_word 1 1
  pub between : s.forward 1 ≡ 0
  pub last : s.forward 2 ≡ forward_word 3 3

module _ (maps : Maps) (s : State) (has : HasWords maps s) where
  leaf_starts : (a : ℕ) → IsLeaf a → HeaderAt s a leaf_header
  leaf_starts a is = record { in_range = record { refs = lit≤ tt; nums = lit≤ tt }; word = has.leaf a is }

  is_leaf : (a : ℕ) (h : Header) → IsLeaf a → HeaderAt s a h → h ≡ leaf_header
  is_leaf a h is starts = one_header s a h leaf_header starts (leaf_starts a is)

  costs : (a : ℕ) (h : Header) → IsLeaf a → HeaderAt s a h → cost_of h.shape ≡ 2
  costs a h is starts = ap (λ (x : Header). cost_of x.shape) (is_leaf a h is starts)

  -- the two filled words
  first_sends : Sends (s.forward 0) 1 1
  first_sends = record {
    home_in_range = record { not_null = lit≤ tt; small = lit≤ tt };
    address_in_range = record { not_null = lit≤ tt; small = lit≤ tt };
    is = has.first;
  }

  last_sends : Sends (s.forward 2) 3 3
  last_sends = record {
    home_in_range = record { not_null = lit≤ tt; small = lit≤ tt };
    address_in_range = record { not_null = lit≤ tt; small = lit≤ tt };
    is = has.last;
  }

  sends_at : (a : ℕ) → IsLeaf a → Forwards s a a
  sends_at a (inl is) = subst (λ (k : ℕ). Forwards s k k) (sym is)
      (record { place = 0; within = omega (arith, has.forwards); sends = first_sends })
  sends_at a (inr is) = subst (λ (k : ℕ). Forwards s k k) (sym is)
      (record { place = 2; within = omega (arith, has.forwards); sends = last_sends })

  -- a place of a word, and what it sends
  place_is : (p home a : ℕ) → p < s.base.forwards → Sends (s.forward p) home a
      → ((p ≡ 0) × (home ≡ 1)) ⊎ ((p ≡ 2) × (home ≡ 3))
  place_is zero home a below sends =
      inl (refl, (one_pair (s.forward 0) home a 1 1 sends first_sends).0)
  place_is (suc zero) home a below sends =
      absurd (forward_word-filled home a sends.home_in_range (sym sends.is ∙ has.between))
  place_is (suc (suc zero)) home a below sends =
      inr (refl, (one_pair (s.forward 2) home a 3 3 sends last_sends).0)
  place_is (suc (suc (suc p))) home a below sends = absurd (omega (arith, below, has.forwards))

  may_stand : (p a : ℕ) → IsLeaf a → Sends (s.forward p) a a → ForwardMayStand maps s (s.forward p)
  may_stand p a is sends = inr (
    a,
    a,
    sends,
    record {
      named = has.named a is;
      home_word = has.leaf_home a is;
      fresh = λ h starts. ap (λ (x : Header). x.stale) (is_leaf a h is starts);
    },
  )

  forwards_stand : (p : ℕ) → p < s.base.forwards → ForwardMayStand maps s (s.forward p)
  forwards_stand zero below = may_stand 0 1 (inl refl) first_sends
  forwards_stand (suc zero) below = inl has.between
  forwards_stand (suc (suc zero)) below = may_stand 2 3 (inr refl) last_sends
  forwards_stand (suc (suc (suc p))) below = absurd (omega (arith, below, has.forwards))

  home_range : (a : ℕ) → IsLeaf a → (1 ≤ a) × (a ≤ 3)
  home_range a (inl is) = (omega (arith, is), omega (arith, is))
  home_range a (inr is) = (omega (arith, is), omega (arith, is))

  formed_words : FormedWords maps s
  formed_words = record {
    small = omega (arith, has.size);
    first_end = omega (arith, has.end);
    small_end = omega (arith, has.end);
    objects = λ a n is.
        let leaf = has.named_at a n is in
        let range = home_range a leaf in
        let first = range.0 in
        let last = range.1 in (
          leaf_header,
          record {
            starts = leaf_starts a leaf;
            first = first;
            within = omega (arith, last, has.size);
            below = omega (arith, last, has.free);
          },
        );
    apart = λ a b n m h is other starts less.
        let cost = costs a h (has.named_at a n is) starts in
        elim (has.named_at a n is) [
          | inl one ↦ elim (has.named_at b m other) [
            | inl also ↦ absurd (omega (arith, one, also, less))
            | inr three ↦ omega (arith, one, three, cost)
          ]
          | inr three ↦ elim (has.named_at b m other) [
            | inl also ↦ absurd (omega (arith, three, also, less))
            | inr also ↦ absurd (omega (arith, three, also, less))
          ]
        ];
    slots = λ a n i h is starts below.
        let none : h.shape.refs ≡ 0 = ap (λ (x : Header). x.shape.refs) (is_leaf a h (has.named_at a n is) starts) in
        absurd (omega (arith, none, below));
    home_words = λ a n h is starts.
        let leaf = has.named_at a n is in
        let range = home_range a leaf in
        let first = range.0 in
        let last = range.1 in
        let cost = costs a h leaf starts in
        inr (
          a,
          0,
          record {
            in_range = record {
              home = record { not_null = omega (arith, first); small = omega (arith, last) };
              scion = lit≤ tt;
            };
            is = has.leaf_home a leaf;
            within = omega (arith, last, cost, has.end);
            forwarded = (λ none. sends_at a leaf, λ sends. refl);
            live = λ some. absurd (some refl);
          },
        );
    globals = λ g below. absurd (omega (arith, below, has.globals));
    scions = λ k x live. absurd (let none = has.no_scion k in cc);
    forwards = forwards_stand;
    one_forward = λ p q home a b below also first second. elim (place_is p home a below first) [
      | inl one ↦ elim (place_is q home b also second) [
        | inl same ↦ one.0 ∙ sym same.0
        | inr other ↦ absurd (let e = one.1 in let f = other.1 in omega (arith, e, f))
      ]
      | inr one ↦ elim (place_is q home b also second) [
        | inl other ↦ absurd (let e = one.1 in let f = other.1 in omega (arith, e, f))
        | inr same ↦ one.0 ∙ sym same.0
      ]
    ];
  }

abbrev pub leaf_words : List ℕ
leaf_words =
    header_word leaf_header ∷ home_word (Some (home_only 1)) ∷ header_word leaf_header
    ∷ home_word (Some (home_only 3)) ∷ []

abbrev pub leaf_forwards : List ℕ
leaf_forwards = forward_word 1 1 ∷ 0 ∷ forward_word 3 3 ∷ []

-- A heap was built of the words of two leaves, each of which has a number and a home, and a forwarding word sends its
-- home to it.
pub record HasForwarded (h : Heap) (names : List (Option ℕ)) : Type 0 where
  pub words : List ℕ
  pub words_are : words ≡ leaf_words
  pub forward : List ℕ
  pub forward_are : forward ≡ leaf_forwards
  pub built : IsHeapOf 4 words names [] forward h
  pub unnamed : List (Option ℕ)
  pub names_one : List (Option ℕ)
  pub none : unnamed ≡ replicate 4 None
  pub one_named : SetsName unnamed names_one 1 0
  pub two_named : SetsName names_one names 3 1

pub forwarded_formed : (h : Heap) (names : List (Option ℕ)) → HasForwarded h names → IsFormedTo h 5
forwarded_formed h names is =
    let stands : (k : ℕ) → k < 4 → word_at h.space (suc k) ≡ slice_index leaf_words k =
    word_is 4 is.words leaf_words h.space is.built.space is.words_are in
    let used : h.space.used ≡ 4 = is.built.space.used ∙ ap length is.words_are in
    let forwards : h.forward ≡ leaf_forwards = is.built.forward_are ∙ is.forward_are in
    let count : length names ≡ 4 = is.two_named.size ∙ (is.one_named.size
    ∙ (ap length is.none ∙ length-replicate {A = Option ℕ} 4 None)) in
    let at_first : name_at names 1 ≡ Some 0 = is.two_named.others 1 (omega arith) ∙ is.one_named.here in
    record {
      maps = maps_of names;
      disk = two_homes_on;
      ends = refl;
      names = heap_maps 4 is.words names [] is.forward h is.built;
      made = heap_tables 4 is.words names [] is.forward h is.built count;
      formed = formed_words (maps_of names) (state_of h [] two_homes_on) (record {
        size = is.built.space.size;
        end = refl;
        globals = ap length is.built.globals_are;
        forwards = ap length forwards;
        free = omega (arith, used);
        named_at = λ k n named. elim (eqb_tells k 3) [
          | inl same ↦ inr same.1
          | inr not_second ↦ elim (eqb_tells k 1) [
            | inl same ↦ inl same.1
            | inr not_first ↦ absurd (let none : name_at names k ≡ None = is.two_named.others k not_second.1
                ∙ (is.one_named.others k not_first.1
                ∙ (ap (λ (l : List (Option ℕ)). name_at l k) is.none ∙ none_at 4 k)) in cc)
          ]
        ];
        named = λ k leaf. elim leaf [
          | inl one ↦ (0, ap (name_at names) one ∙ at_first)
          | inr three ↦ (1, ap (name_at names) three ∙ is.two_named.here)
        ];
        leaf = λ k leaf. elim leaf [
          | inl one ↦ ap (word_at h.space) one ∙ stands 0 (lit≤ tt)
          | inr three ↦ ap (word_at h.space) three ∙ stands 2 (lit≤ tt)
        ];
        leaf_home = λ k leaf. elim leaf [
          | inl one ↦ ap (λ (c : ℕ). word_at h.space (c + 1)) one
              ∙ (stands 1 (lit≤ tt) ∙ ap (λ (c : ℕ). home_word (Some (home_only c))) (sym one))
          | inr three ↦ ap (λ (c : ℕ). word_at h.space (c + 1)) three
              ∙ (stands 3 (lit≤ tt) ∙ ap (λ (c : ℕ). home_word (Some (home_only c))) (sym three))
        ];
        no_scion = λ k. ap (λ (table : Scions). scion_in table k) is.built.scions ∙ no_scion_in 2 k;
        first = ap (λ (xs : List ℕ). slice_index xs 0) forwards;
        between = ap (λ (xs : List ℕ). slice_index xs 1) forwards;
        last = ap (λ (xs : List ℕ). slice_index xs 2) forwards;
      });
    }
