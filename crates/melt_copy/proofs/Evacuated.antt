-- An object more is copied, and a reference to the copy put into the place of its header.
use Rattle.std.proofs.Common.{◌≡◌, ◌≢◌, ℕ, zero, suc, ◌+◌, ◌<◌, ◌≤◌, ◌^◌, List, [], ◌∷◌, ◌++◌, length, refl, sym}
use Rattle.std.proofs.Common.{ap, ◌∙◌, subst, arith, ◌⊎◌, inl, inr, length-append, length-drop, take, drop}
use Rattle.std.specs.Prelude.{◌==◌, Bool, Option, None, Some, slice_get, slice_index}
use Rattle.std.proofs.lemmas.Bool.{cases_eq, eq-eqb, ne_eqb, cond-true, cond-false}
use Rattle.std.proofs.lemmas.Bool.Decides.{eqb_tells}
use Rattle.std.proofs.lemmas.List.{get_or_append_left, get_or-append-add, get_or-take, length-take-le}
use Rattle.melt_model.proofs.Histories.{last_place}
use Rattle.melt_word.specs.Words.{IsHeader, header_word, ref_word, cost_of}
use Rattle.melt_word.specs.declared.reference.Ref.TheVariants.{Clean}
use Rattle.melt_word.specs.declared.header.Header.{Header}
use Rattle.melt_word.specs.declared.header.Shape.{Shape}
use Rattle.melt_space.specs.Space.{SpaceWords, word_at, AreWords, SetsWord}
use Rattle.melt_scion.specs.State.{State, ObjectAt, Reached}
use Rattle.melt_scion.specs.Names.{name_at}
use Rattle.melt_scion.specs.Heaps.{NamesMade}
use Rattle.melt_scion.specs.declared.heap.Names.{Names}
use Rattle.melt_copy.specs.declared.forwarding.Relocation.{Relocation}
use Rattle.melt_copy.specs.declared.names.Renaming.{Renaming}
use Rattle.melt_copy.specs.declared.to_space.ToSpace.{ToSpace}
use Rattle.melt_copy.specs.Moving.{Relocates, WordMoves, name_after}
use Rattle.melt_copy.specs.Tracking.{word_numbered}
use Rattle.melt_copy.specs.Evacuating.{AreCarried, CarriesName, Collection, Evacuates, EvacuatesAt, FindsMore, HasPlace}
use Rattle.melt_copy.specs.Evacuating.{PartMoves, place_of}
use Rattle.melt_copy.proofs.Committing.{name_after-none, name_after-here, name_after-other}
use Rattle.melt_copy.proofs.Copies.{word_in_at}
use Rattle.melt_copy.proofs.Finding.{relocates_push}
use Rattle.melt_copy.proofs.Growing.{word_more}
use Rattle.melt_copy.proofs.Places.{place_below, place_found}
use Rattle.melt_copy.proofs.Sources.{found_words}

-- a further move is that of its object, if no earlier one is
place-here : (ms : List Relocation) (m : Relocation)
    → ((j : ℕ) (x : Relocation) → slice_get ms j ≡ Some x → x.from ≢ m.from) → place_of (ms ++ m ∷ []) m.from ≡ m.to
place-here [] m free = cond-true (m.from == m.from) m.to 0 (eq-eqb m.from m.from refl)
place-here (x ∷ ms) m free =
    cond-false (x.from == m.from) x.to (place_of (ms ++ m ∷ []) m.from) (ne_eqb x.from m.from (free 0 x refl))
    ∙ place-here ms m (λ j y there. free (suc j) y there)

-- and changes no other place
place-other : (ms : List Relocation) (m : Relocation) (a : ℕ) → a ≢ m.from
    → place_of (ms ++ m ∷ []) a ≡ place_of ms a
place-other [] m a other = cond-false (m.from == a) m.to 0 (ne_eqb m.from a (λ e. other (sym e)))
place-other (x ∷ ms) m a other = elim (cases_eq x.from a) [
  | inl same ↦
      cond-true (x.from == a) x.to (place_of (ms ++ m ∷ []) a) (eq-eqb x.from a same)
      ∙ sym (cond-true (x.from == a) x.to (place_of ms a) (eq-eqb x.from a same))
  | inr apart ↦
      cond-false (x.from == a) x.to (place_of (ms ++ m ∷ []) a) (ne_eqb x.from a apart)
      ∙ (place-other ms m a other ∙ sym (cond-false (x.from == a) x.to (place_of ms a) (ne_eqb x.from a apart)))
]

-- words put after the first ones, so many of them, in the place of others
abbrev pub put_after : ℕ → List ℕ → List ℕ → List ℕ
put_after next words items = take next items ++ words ++ drop (next + length words) items

front_size : (next : ℕ) (words items : List ℕ) → next ≤ length items
    → length (take next items ++ words) ≡ next + length words
front_size next words items within =
    length-append (take next items) words ∙ ap (λ (n : ℕ). n + length words) (length-take-le next items within)

put_size : (next : ℕ) (words items : List ℕ) → next + length words ≤ length items
    → length (put_after next words items) ≡ length items
put_size next words items fits =
    length-append (take next items ++ words) (drop (next + length words) items)
    ∙ omega (arith, fits, front_size next words items (omega (arith, fits)), length-drop (next + length words) items)

-- the first ones are as they were
put_before : (next : ℕ) (words items : List ℕ) (k : ℕ) → next ≤ length items → k ≤ next
    → word_numbered (put_after next words items) k ≡ word_numbered items k
put_before next words items zero within below = refl
put_before next words items (suc k) within below =
    get_or_append_left (take next items ++ words) (drop (next + length words) items) 0 k
    (omega (arith, below, front_size next words items within))
    ∙ (get_or_append_left (take next items) words 0 k (omega (arith, below, length-take-le next items within))
    ∙ get_or-take next items k 0 (omega (arith, below)))

-- and those after them are these
put_there : (next : ℕ) (words items : List ℕ) (i : ℕ) → next ≤ length items → i < length words
    → word_numbered (put_after next words items) (next + 1 + i) ≡ slice_index words i
put_there next words items i within below =
    word_in_at (put_after next words items) (length (take next items)) i (next + 1 + i)
    (omega (arith, length-take-le next items within))
    ∙ (get_or_append_left (take next items ++ words) (drop (next + length words) items) 0 (length (take next items) + i)
    (omega (arith, below, front_size next words items within, length-take-le next items within))
    ∙ get_or-append-add (take next items) words i 0)

-- a part that moved stays right while more is found, where its word does
pub part_more : {c : Collection} {held : Bool} (old new : List Relocation) {m : Relocation} {i was is : ℕ}
    → FindsMore old new → is ≡ was → PartMoves c held (place_of old) m i was → PartMoves c held (place_of new) m i is
part_more {c} {held} old new {m} {i} {was} {is} more same part = record {
  header = λ first header starts. same ∙ part.header first header starts;
  home = λ second. same ∙ part.home second;
  slot = λ from to. subst (WordMoves c.phase (place_of new) (c.state.word (m.from + i))) (sym same)
      (word_more old new _ _ more (part.slot from to));
  number = λ after. same ∙ part.number after;
}

-- the number of the object goes with it
names_carried : (s : State) (f : ℕ → ℕ) (names : Option Names) (old new : Option Renaming) (moves : List Relocation)
    (free : ℕ) (m : Relocation) → Relocates s f moves free → m.to ≡ free → AreCarried names old moves
    → CarriesName old new m.from m.to → AreCarried names new (moves ++ m ∷ [])
names_carried s f None None None moves free m holds to are carries = tt
names_carried s f (Some names) (Some old) (Some new) moves free m holds to are carries =
    let before : (j : ℕ) (x : Relocation) → slice_get moves j ≡ Some x → x.to ≢ m.to = λ j x there same.
    (let place = place_below s f moves free j x holds there in omega (arith, place.1, same, to)) in
    let none : name_at old.moved m.to ≡ None = are.0 m.to ∙ name_after-none (name_at names.addresses) moves m.to before in (
      λ k. elim (cases_eq k m.to) [
        | inl same ↦
            subst (λ (a : ℕ). name_at new.moved a ≡ name_after (name_at names.addresses) (moves ++ m ∷ []) a) (sym same)
            (carries.here none ∙ (ap (λ (n : Names). name_at n.addresses m.from) are.2
            ∙ sym (name_after-here (name_at names.addresses) moves m before)))
        | inr other ↦ carries.others k other
            ∙ (are.0 k ∙ sym (name_after-other (name_at names.addresses) moves m k other))
      ],
      carries.size ∙ are.1,
      carries.names ∙ are.2,
    )
names_carried s f None (Some old) new moves free m holds to are carries = absurd are
names_carried s f None None (Some new) moves free m holds to are carries = absurd carries
names_carried s f (Some names) None new moves free m holds to are carries = absurd are
names_carried s f (Some names) (Some old) None moves free m holds to are carries = absurd carries

-- there is a place for it
place_for : (names : Option Names) (now : Option Renaming) (moves : List Relocation) (size to : ℕ)
    → AreCarried names now moves → NamesMade size names → 1 ≤ to → to ≤ size → HasPlace now to
place_for None None moves size to are made first last = tt
place_for (Some names) (Some now) moves size to are made first last = (first, omega (arith, are.1, made, last))
place_for None (Some now) moves size to are made first last = absurd are
place_for (Some names) None moves size to are made first last = absurd are

-- fewer than 2^30 words are in use
pub used_below : {c : Collection} {space : SpaceWords} {to : ToSpace} {done : ℕ} → Evacuates c space to done
    → (space.used < 2 ^ 30) × (space.used ≤ length space.list)
used_below it = (omega (arith, it.whole.small, it.whole.inside, it.free), omega (arith, it.whole.inside, it.free, it.size))

-- the copies take no more words than are in use
pub words_fit : {c : Collection} {space : SpaceWords} (to : ToSpace) {done : ℕ} → Evacuates c space to done
    → to.next ≤ space.used
words_fit {c} to it =
    let words = found_words c.state (place_of to.moves) to.moves (to.next + 1) it.whole it.holds in
    omega (arith, words, it.holds.after, it.free)

-- the move of an object that is found next
abbrev pub next_move : ToSpace → ℕ → Shape → Relocation
next_move to address shape = record { from = address; to = to.next + 1; shape = shape }

module _ {c : Collection} {space : SpaceWords} {to : ToSpace} {done address : ℕ}
    (at : EvacuatesAt c space to done address) (new : place_of to.moves address ≡ 0) where
  -- the object
  pub object : (header : Header) × ObjectAt c.state address header
  object = at.evacuates.whole.objects address at.reached

  fresh : (j : ℕ) (x : Relocation) → slice_get to.moves j ≡ Some x → x.from ≢ address
  fresh j x there same =
      place_found c.state (place_of to.moves) to.moves (to.next + 1) j x at.evacuates.holds there
      (ap (place_of to.moves) same ∙ new)

  -- none begins inside it
  none_inside : (i : ℕ) → 0 < i → i < cost_of object.0.shape → place_of to.moves (address + i) ≡ 0
  none_inside i first last = elim (eqb_tells (place_of to.moves (address + i)) 0) [
    | inl none ↦ none.1
    | inr known ↦
        let move = at.evacuates.holds.only (address + i) known.1 in
        let there = subst (Reached c.state) move.3 (at.evacuates.holds.whole move.0 move.1 move.2).reached in
        absurd (omega (
          arith,
          last,
          at.evacuates.whole.apart address (address + i) object.0 at.reached there object.1.starts
              (omega (arith, first)),
        ))
  ]

  -- so its words are as they were
  pub object_words : (i : ℕ) → i < cost_of object.0.shape → word_at space (address + i) ≡ c.state.word (address + i)
  object_words zero last = at.evacuates.kept (address + 0) (ap (place_of to.moves) (omega arith) ∙ new)
  object_words (suc i) last = at.evacuates.kept (address + suc i) (none_inside (suc i) (omega arith) last)

  module _ {shape : Shape} (told : (h : Header) → IsHeader h → word_at space address ≡ header_word h → shape ≡ h.shape)
    where
      same_shape : shape ≡ object.0.shape
      same_shape = told object.0 object.1.starts.in_range (at.evacuates.kept address new ∙ object.1.starts.word)

      -- where it goes
      pub place_then : place_of (to.moves ++ next_move to address shape ∷ []) address ≡ to.next + 1
      place_then = place-here to.moves (next_move to address shape) fresh

      holds_then : Relocates c.state (place_of (to.moves ++ next_move to address shape ∷ []))
          (to.moves ++ next_move to address shape ∷ []) (to.next + 1 + cost_of shape)
      holds_then =
          relocates_push (place_of (to.moves ++ next_move to address shape ∷ [])) (next_move to address shape)
          at.evacuates.holds at.reached object.1.starts (sym same_shape) refl new place_then
          (λ a other. place-other to.moves (next_move to address shape) a other)

      -- it fits
      pub fits_then : to.next + cost_of shape ≤ space.used
      fits_then =
          let words = found_words c.state _ _ (to.next + 1 + cost_of shape) at.evacuates.whole holds_then in
          omega (arith, words, holds_then.after, at.evacuates.free)

      pub place_free : HasPlace to.names (to.next + 1)
      place_free =
          place_for c.names to.names to.moves (length space.list) (to.next + 1) at.evacuates.names
          at.evacuates.made (omega arith) (omega (arith, fits_then, (used_below at.evacuates).1))

      module _ {space' : SpaceWords} (to' : ToSpace) {words : List ℕ}
          (are : AreWords space address (cost_of shape) words)
          (words_then : to'.words.items ≡ put_after to.next words to.words.items)
          (next : to'.next ≡ to.next + length words)
          (moves_then : to'.moves ≡ to.moves ++ next_move to address shape ∷ [])
          (names : CarriesName to.names to'.names address (to.next + 1))
          (sets : SetsWord space space' address (ref_word (Clean (to.next + 1)))) where
        longer : to'.next ≡ to.next + cost_of shape
        longer = omega (arith, next, are.count_is)

        fits : to.next + length words ≤ length to.words.items
        fits = omega (arith, fits_then, at.evacuates.room, are.count_is)

        more : FindsMore to.moves to'.moves
        more = record { rest = next_move to address shape ∷ []; is = moves_then }

        here : place_of to'.moves address ≡ to.next + 1
        here = ap (λ (ms : List Relocation). place_of ms address) moves_then ∙ place_then

        others : (a : ℕ) → a ≢ address → place_of to'.moves a ≡ place_of to.moves a
        others a other = ap (λ (ms : List Relocation). place_of ms a) moves_then
            ∙ place-other to.moves (next_move to address shape) a other

        -- which move it is
        which : (k : ℕ) (m : Relocation) → slice_get to'.moves k ≡ Some m → (slice_get to.moves k ≡ Some m)
            ⊎ ((k ≡ length to.moves) × (next_move to address shape ≡ m))
        which k m there = elim (last_place to.moves (next_move to address shape) k m
            (ap (λ (ms : List Relocation). slice_get ms k) (sym moves_then) ∙ there)) [
              | inl old ↦ inl old.1
              | inr last ↦ inr last
            ]

        word_before : (k : ℕ) (m : Relocation) (i : ℕ) → slice_get to.moves k ≡ Some m → i < cost_of m.shape
            → word_numbered to'.words.items (m.to + i) ≡ word_numbered to.words.items (m.to + i)
        word_before k m i there below =
            let place = place_below c.state (place_of to.moves) to.moves (to.next + 1) k m
            at.evacuates.holds there in
            ap (λ (ws : List ℕ). word_numbered ws (m.to + i)) words_then
            ∙ put_before to.next words to.words.items (m.to + i) (omega (arith, fits)) (omega (arith, place.1, below))

        word_new : (i : ℕ) → i < cost_of shape
            → word_numbered to'.words.items (to.next + 1 + i) ≡ c.state.word (address + i)
        word_new i below =
            ap (λ (ws : List ℕ). word_numbered ws (to.next + 1 + i)) words_then
            ∙ (put_there to.next words to.words.items i (omega (arith, fits)) (omega (arith, below, are.count_is))
            ∙ (are.each i below ∙ object_words i (subst (λ (x : Shape). i < cost_of x) same_shape below)))

        pub evacuates_then : Evacuates c space' to' done
        evacuates_then = record {
          whole = at.evacuates.whole;
          holds = subst (λ (ms : List Relocation). Relocates c.state (place_of ms) ms (to'.next + 1))
              (sym moves_then)
              (subst (Relocates c.state (place_of (to.moves ++ next_move to address shape ∷ []))
              (to.moves ++ next_move to address shape ∷ [])) (omega (arith, longer)) holds_then);
          size = at.evacuates.size ∙ sym sets.size;
          free = at.evacuates.free ∙ ap (λ (n : ℕ). n + 1) (sym sets.used);
          room = omega (arith, ap length words_then, put_size to.next words to.words.items fits, at.evacuates.room, sets.used);
          within = omega (arith, at.evacuates.within, longer);
          forwarded = λ a known. elim (cases_eq a address) [
            | inl same ↦ subst (λ (b : ℕ). word_at space' b ≡ ref_word (Clean (place_of to'.moves b))) (sym same)
                (sets.here ∙ ap (λ (n : ℕ). ref_word (Clean n)) (sym here))
            | inr other ↦ sets.others a other ∙ (at.evacuates.forwarded a (λ none. known (others a other ∙ none))
                ∙ ap (λ (n : ℕ). ref_word (Clean n)) (sym (others a other)))
          ];
          kept = λ a none. elim (cases_eq a address) [
            | inl same ↦ absurd (let nought = sym here ∙ (ap (place_of to'.moves) (sym same) ∙ none) in
                omega (arith, nought))
            | inr other ↦ sets.others a other ∙ at.evacuates.kept a (sym (others a other) ∙ none)
          ];
          moved = λ k m i there below under. elim (which k m there) [
            | inl old ↦ part_more to.moves to'.moves more (word_before k m i old below)
                (at.evacuates.moved k m i old below under)
            | inr last ↦ absurd (let to_is = ap (λ (x : Relocation). x.to) last.1 in
                omega (arith, to_is, under, at.evacuates.within))
          ];
          waiting = λ k m i there below over. elim (which k m there) [
            | inl old ↦ word_before k m i old below ∙ at.evacuates.waiting k m i old below over
            | inr last ↦
                subst (λ (x : Relocation). i < cost_of x.shape
                → word_numbered to'.words.items (x.to + i) ≡ c.state.word (x.from + i)) last.1 (word_new i) below
          ];
          names = subst (AreCarried c.names to'.names) (sym moves_then)
              (names_carried c.state (place_of to.moves) c.names to.names to'.names to.moves (to.next + 1)
              (next_move to address shape) at.evacuates.holds refl at.evacuates.names names);
          made = subst (λ (n : ℕ). NamesMade n c.names) (sym sets.size) at.evacuates.made;
        }
