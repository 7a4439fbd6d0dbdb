-- A heap that is built by hand, for a test: two leaves, of which a live scion names the second.
use Rattle.std.proofs.Common.{◌≡◌, ℕ, suc, ◌+◌, ◌<◌, List, [], ◌∷◌, length, replicate, refl, sym, subst, ap, ◌∙◌}
use Rattle.std.proofs.Common.{arith, lit≤, inl, inr}
use Rattle.std.specs.Prelude.{Option, None, Some, slice_index}
use Rattle.std.specs.Option.{option_map}
use Rattle.std.proofs.lemmas.List.{length-replicate}
use Rattle.std.proofs.lemmas.Bool.Decides.{eqb_tells}
use Rattle.melt_word.specs.Words.{cost_of, header_word, home_word}
use Rattle.melt_word.specs.declared.home.HomeWord.{HomeWord}
use Rattle.melt_word.specs.declared.header.Header.{Header}
use Rattle.melt_space.specs.Space.{word_at}
use Rattle.melt_scion.specs.State.{Scion, State, HeaderAt, ObjectAt}
use Rattle.melt_scion.specs.Placed.{Maps, ScionStands, FormedWords, Formed}
use Rattle.melt_scion.specs.Names.{name_at, SetsName}
use Rattle.melt_scion.specs.Scions.{Scions, Adds, IsTable, scion_at}
use Rattle.melt_scion.specs.Heaps.{OnDisk, scion_in, register_in, state_of, IsFormed}
use Rattle.melt_scion.specs.declared.registers.Registers.{Registers}
use Rattle.melt_scion.specs.declared.heap.Heap.{Heap}
use Rattle.melt_scion.proofs.Geometry.{one_header}
use Rattle.melt_scion.proofs.Tables.{scions_made, scions_kept}
use Rattle.melt_scion.proofs.Starting.{no_scion_in}
use Rattle.melt_copy_tests.specs.Built.{IsHeapOf}
use Rattle.melt_copy_tests.proofs.Built.{word_is, maps_of, heap_maps, heap_tables}
use Rattle.melt_copy_tests.proofs.Building.{leaf_header, none_at}

-- the home word of the second leaf, and what its scion names
abbrev pub first_home : HomeWord
first_home = record { home = 1; scion = 1 }

abbrev first_scion : ℕ → Scion
first_scion address = record { home = 1; address = address }

-- one home of two words, which no one reads
abbrev one_home_on : OnDisk
one_home_on = record { end = 3; homes = []; free_homes = []; image = λ k. 0 }

-- the words of the second leaf, and its scion
record HasWords (maps : Maps) (s : State) : Type 0 where
  pub size : s.base.size ≡ 4
  pub end : s.base.end ≡ 3
  pub globals : s.base.globals ≡ 0
  pub forwards : s.base.forwards ≡ 0
  pub free : s.free ≡ 5
  pub named_at : (k n : ℕ) → maps.address k ≡ Some n → k ≡ 3
  pub leaf_named : maps.address 3 ≡ Some 0
  pub leaf : s.word 3 ≡ header_word leaf_header
  pub leaf_home : s.word 4 ≡ home_word (Some first_home)
  pub scion : s.base.scion 1 ≡ Some (first_scion 3)
  pub one_scion : (k : ℕ) (x : Scion) → s.base.scion k ≡ Some x → k ≡ 1
  pub registers : (t r : ℕ) → s.register t r ≡ 0

module _ (maps : Maps) (s : State) (has : HasWords maps s) where
  leaf_starts : HeaderAt s 3 leaf_header
  leaf_starts = record { in_range = record { refs = lit≤ tt; nums = lit≤ tt }; word = has.leaf }

  is_leaf : (a : ℕ) (h : Header) → a ≡ 3 → HeaderAt s a h → h ≡ leaf_header
  is_leaf a h at starts = one_header s 3 h leaf_header (subst (λ (c : ℕ). HeaderAt s c h) at starts) leaf_starts

  costs : (a : ℕ) (h : Header) → a ≡ 3 → HeaderAt s a h → cost_of h.shape ≡ 2
  costs a h at starts = ap (λ (x : Header). cost_of x.shape) (is_leaf a h at starts)

  no_slots : (a : ℕ) (h : Header) → a ≡ 3 → HeaderAt s a h → h.shape.refs ≡ 0
  no_slots a h at starts = ap (λ (x : Header). x.shape.refs) (is_leaf a h at starts)

  first_stands : ScionStands maps s 1 (first_scion 3)
  first_stands = record { first = lit≤ tt; small = lit≤ tt; named = (0, has.leaf_named); home_word = has.leaf_home }

  scion_stands : (k : ℕ) (x : Scion) → s.base.scion k ≡ Some x → ScionStands maps s k x
  scion_stands k x live =
      let at : k ≡ 1 = has.one_scion k x live in
      let there : s.base.scion 1 ≡ Some x = subst (λ (c : ℕ). s.base.scion c ≡ Some x) at live in
      let both : Some (first_scion 3) ≡ Some x = sym has.scion ∙ there in
      let same : first_scion 3 ≡ x = cc in
      subst (λ (c : ℕ). ScionStands maps s c x) (sym at)
      (subst (λ (y : Scion). ScionStands maps s 1 y) same first_stands)

  formed_words : FormedWords maps s
  formed_words = record {
    small = omega (arith, has.size);
    first_end = omega (arith, has.end);
    small_end = omega (arith, has.end);
    objects = λ a n is. subst (λ (c : ℕ). (h : Header) × ObjectAt s c h) (sym (has.named_at a n is)) (
      leaf_header,
      record {
        starts = leaf_starts;
        first = omega arith;
        within = omega (arith, has.size);
        below = omega (arith, has.free);
      },
    );
    apart = λ a b n m h is other starts less.
        absurd (omega (arith, has.named_at a n is, has.named_at b m other, less));
    slots = λ a n i h is starts below. absurd (omega (arith, no_slots a h (has.named_at a n is) starts, below));
    home_words = λ a n h is starts.
        let at : a ≡ 3 = has.named_at a n is in
        inr (
          1,
          1,
          record {
            in_range = record { home = record { not_null = lit≤ tt; small = lit≤ tt }; scion = lit≤ tt };
            is = ap (λ (c : ℕ). s.word (c + 1)) at ∙ has.leaf_home;
            within = omega (arith, costs a h at starts, has.end);
            forwarded = (
              λ none. absurd (omega (arith, none)),
              λ sends. absurd (omega (arith, sends.within, has.forwards)),
            );
            live = λ some. has.scion ∙ ap (λ (c : ℕ). Some (first_scion c)) (sym at);
          },
        );
    globals = λ g below. absurd (omega (arith, below, has.globals));
    scions = scion_stands;
    forwards = λ p below. absurd (omega (arith, below, has.forwards));
    one_forward = λ p q home a b below. absurd (omega (arith, below, has.forwards));
  }

  words_formed : Formed maps s
  words_formed = record { words = formed_words; registers = λ t r. inl (has.registers t r) }

abbrev pub two_words : List ℕ
two_words = header_word leaf_header ∷ 0 ∷ header_word leaf_header ∷ home_word (Some first_home) ∷ []

-- A heap was built of the words of two leaves, of which the second got a number and a live scion, and its home word
-- names that scion. All registers hold nothing.
pub record HasScion (start : Heap) (table : Scions) (held : List Registers) (names : List (Option ℕ))
    (scion : ℕ) : Type 0 where
  pub words : List ℕ
  pub words_are : words ≡ two_words
  pub built : IsHeapOf 4 words names [] [] start
  pub unnamed : List (Option ℕ)
  pub none : unnamed ≡ replicate 4 None
  pub named : SetsName unnamed names 3 0
  pub adds : Adds start.scions table 1 3 scion
  pub is_table : IsTable table
  pub registers : (t r : ℕ) → register_in held t r ≡ 0

pub scion_formed : (start : Heap) (table : Scions) (held : List Registers) (names : List (Option ℕ)) (scion : ℕ)
    → HasScion start table held names scion → IsFormed (record start { scions = table }) held
scion_formed start table held names scion is =
    let h : Heap = record start { scions = table } in
    let stands : (k : ℕ) → k < 4 → word_at start.space (suc k) ≡ slice_index two_words k =
    word_is 4 is.words two_words start.space is.built.space is.words_are in
    let used : start.space.used ≡ 4 = is.built.space.used ∙ ap length is.words_are in
    let count : length names ≡ 4 =
    is.named.size ∙ (ap length is.none ∙ length-replicate {A = Option ℕ} 4 None) in
    let given : 1 ∷ 2 ∷ [] ≡ scion ∷ table.unused =
    sym (ap (λ (table : Scions). table.unused) is.built.scions) ∙ is.adds.given in
    let number : scion ≡ 1 = cc in
    let here : scion_at table 1 ≡ Some (1, 3) =
    subst (λ (c : ℕ). scion_at table c ≡ Some (1, 3)) number is.adds.here in
    record {
      maps = maps_of names;
      disk = one_home_on;
      names = heap_maps 4 is.words names [] [] start is.built;
      made = record {
        scions = scions_kept 4 (length start.space.list) start.scions table
            (record { is_table = is.is_table; size = is.adds.size }) is.built.space.size
            (scions_made 4 start.scions is.built.scions);
        names = (heap_tables 4 is.words names [] [] start is.built count).names;
      };
      formed = words_formed (maps_of names) (state_of h held one_home_on) (record {
        size = is.built.space.size;
        end = refl;
        globals = ap length is.built.globals_are;
        forwards = ap length is.built.forward_are;
        free = omega (arith, used);
        named_at = λ k n named. elim (eqb_tells k 3) [
          | inl same ↦ same.1
          | inr other ↦ absurd (let none : name_at names k ≡ None = is.named.others k other.1
              ∙ (ap (λ (l : List (Option ℕ)). name_at l k) is.none ∙ none_at 4 k) in cc)
        ];
        leaf_named = is.named.here;
        leaf = stands 2 (lit≤ tt);
        leaf_home = stands 3 (lit≤ tt);
        scion = ap (option_map (λ (pair : ℕ × ℕ). record { home = pair.0; address = pair.1 })) here;
        one_scion = λ k x live. elim (eqb_tells k scion) [
          | inl same ↦ same.1 ∙ number
          | inr other ↦ absurd (let none : scion_in table k ≡ None =
              ap (option_map (λ (pair : ℕ × ℕ). record { home = pair.0; address = pair.1 }))
              (is.adds.others k other.1 ∙ ap (λ (table : Scions). scion_at table k) is.built.scions)
              ∙ no_scion_in 2 k in cc)
        ];
        registers = is.registers;
      });
    }
