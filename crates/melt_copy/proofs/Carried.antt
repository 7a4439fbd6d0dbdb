-- Where the objects that a collection carried are, with which headers and under which names.
use Rattle.std.proofs.Common.{◌≡◌, ◌≢◌, ◌↔◌, ℕ, ◌+◌, ◌-◌, ◌<◌, ◌≤◌, List, refl, sym, ◌∙◌, ap, subst, arith, inl, inr}
use Rattle.std.specs.Prelude.{◌^◌, Bool, true, false, if◌then◌else◌, nat_lt, slice_get, Some}
use Rattle.std.proofs.lemmas.Bool.{cases_eq, cases_lt, cases_order, le-ltb, lt-ltb}
use Rattle.std.proofs.lemmas.Option.{same_Some}
use Rattle.melt_model.specs.declared.reports.Phase.{Phase}
use Rattle.melt_model.specs.declared.reports.Phase.TheVariants.{Inactive, Mark, Move}
use Rattle.melt_word.specs.Words.{cost_of}
use Rattle.melt_word.specs.declared.header.Header.{Header}
use Rattle.melt_word.proofs.OneToOne.{same_header}
use Rattle.melt_scion.specs.State.{State, HeaderAt, HoldsAt, IsFresh, ObjectAt}
use Rattle.melt_scion.specs.Placed.{Maps, Formed}
use Rattle.melt_scion.specs.Moves.{BitGoes, MovesNames}
use Rattle.melt_scion.specs.Collected.{Taken}
use Rattle.melt_scion.proofs.Reaching.{reached_named}
use Rattle.melt_copy.specs.declared.forwarding.Relocation.{Relocation}
use Rattle.melt_copy.specs.Moving.{Carries, header_after, maps_after, name_after, stale_after}
use Rattle.melt_copy.proofs.Places.{place_after, place_below, place_found, same_place, same_source, takes_word}
use Rattle.melt_copy.proofs.Sources.{source_object, source_cost, source_shape, found_fits, found_words, goes}
use Rattle.melt_copy.proofs.Renaming.{comes, name_after-at}

-- the stale bit after the move, by whether a register holds the object
bit_set : (held : Bool) (s : State) (a : ℕ) (old new : Bool) → new ≡ (if held then old else true)
    → (held ≡ true → HoldsAt s a)
    → (HoldsAt s a → (held ≡ true) × (old ≡ false)) → (new ≡ false) ↔ HoldsAt s a
bit_set true s a old new is holds back = (λ fresh. holds refl, λ held. is ∙ (back held).1)
bit_set false s a old new is holds back =
    (λ fresh. absurd (let set : new ≡ true = is in cc), λ held. absurd (let both = (back held).0 in cc))

bit_goes : (phase : Phase) (held : Bool) (s : State) (a : ℕ) (old later : Header)
    → later.stale ≡ stale_after phase held old.stale
    → (held ≡ true → HoldsAt s a) → (HoldsAt s a → (held ≡ true) × (old.stale ≡ false)) → BitGoes phase s a old later
bit_goes Inactive held s a old later is holds back = is
bit_goes Mark held s a old later is holds back = bit_set held s a old.stale later.stale is holds back
bit_goes Move held s a old later is holds back = bit_set held s a old.stale later.stale is holds back

in_front : (k held_count : ℕ) → nat_lt k held_count ≡ true → k < held_count
in_front k held_count is =
    elim (cases_lt k held_count) [ inl below ↦ below | inr above ↦ absurd (let not = le-ltb k held_count above in cc) ]

module _ (phase : Phase) (maps : Maps) (s t : State) (f : ℕ → ℕ) (moves : List Relocation) (held_count : ℕ)
    (carries : Carries phase s t f moves held_count) where
  -- a place is a number of 30 bits
  pub place_small : (k : ℕ) (m : Relocation) → slice_get moves k ≡ Some m → m.to < 2 ^ 30
  place_small k m at =
      let place = (place_below s f moves t.free k m carries.found at).1 in
      let whole = carries.whole in
      omega (arith, place, found_fits s f moves t.free k m whole carries.found at, whole.inside, whole.small)

  pub zero_stays : f 0 ≡ 0
  zero_stays = elim (cases_eq (f 0) 0) [
    | inl none ↦ none
    | inr found ↦
        let g = goes s f moves t.free 0 carries.found found in
        let first = (source_object s g.move carries.whole (carries.found.whole g.index g.move g.is)).first in
        absurd (omega (arith, g.from, first))
  ]

  -- the words of what was carried are those of the heap
  pub free_within : t.free ≤ t.base.size + 1
  free_within =
      let words = found_words s f moves t.free carries.whole carries.found in
      omega (arith, words, carries.found.after, carries.size, carries.whole.inside)

  -- the number at a place
  pub carried_name : (k : ℕ) (m : Relocation) → slice_get moves k ≡ Some m
      → name_after maps.address moves m.to ≡ maps.address m.from
  carried_name k m at =
      name_after-at maps.address moves k m at
      (λ j x there same. (same_place j k carries.found there at same).1)

  -- names go with their objects
  pub carried_names : MovesNames maps (maps_after maps moves) f
  carried_names = record {
    names = λ a some.
        let g = goes s f moves t.free a carries.found some in
        ap (maps_after maps moves).address g.to
        ∙ (carried_name g.index g.move g.is ∙ ap maps.address g.from);
    only = λ b n named.
        let c = comes maps.address moves b n named in
        let to : f c.move.from ≡ b = carries.found.found c.index c.move c.is ∙ c.to in
        (c.move.from, place_found s f moves t.free c.index c.move carries.found c.is, to, c.named);
  }

  -- the header at a place
  pub header_there : (k : ℕ) (m : Relocation) (b : ℕ) (header : Header) → (at : slice_get moves k ≡ Some m) → m.to ≡ b
      → HeaderAt t b header → header ≡ header_after phase (nat_lt k held_count) (carries.found.whole k m at).header
  header_there k m b header at to starts =
      let is = carries.found.whole k m at in
      same_header header (header_after phase (nat_lt k held_count) is.header) starts.in_range is.starts.in_range
      (sym starts.word ∙ (ap t.word (sym to) ∙ carries.header k m is.header at is.starts))

  -- and its shape that of the move
  pub shape_before : (k : ℕ) (m : Relocation) (b : ℕ) (header : Header) → slice_get moves k ≡ Some m → m.to ≡ b
      → HeaderAt t b header → header.shape ≡ m.shape
  shape_before k m b header at to starts =
      ap (λ (h : Header). h.shape) (header_there k m b header at to starts) ∙ (carries.found.whole k m at).shape

  -- the object at a place
  pub object_there : (k : ℕ) (m : Relocation) → slice_get moves k ≡ Some m → (header : Header) × ObjectAt t m.to header
  object_there k m at =
      let is = carries.found.whole k m at in
      let place = place_below s f moves t.free k m carries.found at in
      let cost = source_cost s m is in (
        header_after phase (nat_lt k held_count) is.header,
        record {
          starts = record { in_range = is.starts.in_range; word = carries.header k m is.header at is.starts };
          first = place.0;
          within = let size = carries.size in
              omega (
                arith,
                place.1,
                cost,
                found_fits s f moves t.free k m carries.whole carries.found at,
                carries.whole.inside,
                size,
              );
          below = omega (arith, place.1, cost);
        },
      )

  objects_apart : (i j : ℕ) (x y : Relocation) (cost : ℕ) → slice_get moves i ≡ Some x → slice_get moves j ≡ Some y
      → cost ≡ cost_of x.shape → x.to < y.to → x.to + cost ≤ y.to
  objects_apart i j x y cost first second same before = elim (cases_order i j) [
    | inl is ↦
        let one : x ≡ y = same_Some x y (sym first ∙ (ap (slice_get moves) is ∙ second)) in
        absurd (let to : x.to ≡ y.to = ap (λ (m : Relocation). m.to) one in omega arith)
    | inr other ↦ elim other [
      | inl below ↦ omega (arith, place_after i j carries.found first second below)
      | inr above ↦ absurd (omega (arith, place_after j i carries.found second first above))
    ]
  ]

  -- the object that was found at an address, and its header before and after
  pub record FoundAt (a : ℕ) (header : Header) : Type 0 where
    pub index : ℕ
    pub move : Relocation
    pub is : slice_get moves index ≡ Some move
    pub from : move.from ≡ a
    pub to : move.to ≡ f a
    pub shape : header.shape ≡ move.shape
    pub starts : HeaderAt s move.from header
    pub there : HeaderAt t (f a) (header_after phase (nat_lt index held_count) header)

  pub found_at : (a : ℕ) (header : Header) → f a ≢ 0 → HeaderAt s a header → FoundAt a header
  found_at a header some starts =
      let g = goes s f moves t.free a carries.found some in
      let at : HeaderAt s g.move.from header = subst (λ (b : ℕ). HeaderAt s b header) (sym g.from) starts in
      record {
        index = g.index;
        move = g.move;
        is = g.is;
        from = g.from;
        to = sym g.to;
        shape = source_shape s g.move header (carries.found.whole g.index g.move g.is) at;
        starts = at;
        there = record {
          in_range = starts.in_range;
          word = ap t.word g.to ∙ carries.header g.index g.move header g.is at;
        };
      }

  -- each word up to the end belongs to an object
  pub word_taken : Formed maps s → (at : ℕ) → 1 ≤ at → at < t.free → Taken (maps_after maps moves) t at
  word_taken formed at first below =
      let w = takes_word moves (at - 1) (omega (arith, carries.found.after)) in
      let is = carries.found.whole w.index w.move w.is in
      let place = carries.found.places w.index w.move w.is in
      let n = reached_named maps s w.move.from formed is.reached in
      record {
        address = w.move.to;
        header = header_after phase (nat_lt w.index held_count) is.header;
        named = (n.0, carried_name w.index w.move w.is ∙ n.1);
        starts = record {
          in_range = is.starts.in_range;
          word = carries.header w.index w.move is.header w.is is.starts;
        };
        from = omega (arith, place, w.from);
        to = omega (arith, place, w.to, source_cost s w.move is);
      }

  pub found_once : (a b : ℕ) → f a ≢ 0 → f a ≡ f b → a ≡ b
  found_once a b some same =
      let x = goes s f moves t.free a carries.found some in
      let y = goes s f moves t.free b carries.found (λ nought. some (same ∙ nought)) in
      let one = (same_place x.index y.index carries.found x.is y.is (sym x.to ∙ (same ∙ y.to))).1 in
      sym x.from ∙ (ap (λ (m : Relocation). m.from) one ∙ y.from)

  -- the first objects are those in registers, none of which has the stale bit
  held_bit : Formed maps s → (a : ℕ) (header : Header) (x : FoundAt a header) → HeaderAt s a header → HoldsAt s a
      → (nat_lt x.index held_count ≡ true) × (header.stale ≡ false)
  held_bit formed a header x starts holds =
      let first = (source_object s x.move carries.whole (carries.found.whole x.index x.move x.is)).first in
      let full : s.register holds.thread holds.register ≢ 0 =
      λ nought. omega (arith, nought, holds.holds, first, x.from) in
      let m = carries.held.all holds.thread holds.register full in
      let from : m.1.from ≡ x.move.from = m.4 ∙ (holds.holds ∙ sym x.from) in
      let one = (same_source m.0 x.index carries.found m.2 x.is from).0 in
      let fresh : IsFresh s a = elim (formed.registers holds.thread holds.register) [
        | inl nought ↦ absurd (full nought)
        | inr held ↦ subst (IsFresh s) holds.holds held.1
      ] in
      (lt-ltb x.index held_count (omega (arith, one, m.3)), fresh header starts)

  -- so the stale bit is as the phase leaves it
  pub marked : Formed maps s → (a : ℕ) (header : Header) (x : FoundAt a header) → HeaderAt s a header
      → BitGoes phase s a header (header_after phase (nat_lt x.index held_count) header)
  marked formed a header x starts =
      bit_goes phase (nat_lt x.index held_count) s a header (header_after phase (nat_lt x.index held_count) header) refl
      (λ held.
      let h = carries.held.each x.index x.move x.is (in_front x.index held_count held) in
      record { thread = h.0; register = h.1; holds = h.2 ∙ x.from })
      (held_bit formed a header x starts)

  pub place_within : (a : ℕ) (header : Header) → f a ≢ 0 → HeaderAt s a header → f a + cost_of header.shape ≤ t.free
  place_within a header some starts =
      let x = found_at a header some starts in
      let place = (place_below s f moves t.free x.index x.move carries.found x.is).1 in
      let cost : cost_of header.shape ≡ cost_of x.move.shape = ap cost_of x.shape in
      omega (arith, place, cost, x.to)

  -- the places of two objects are apart
  pub in_order : (a b : ℕ) (header : Header) → f a ≢ 0 → f b ≢ 0 → HeaderAt s a header → f a < f b
      → f a + cost_of header.shape ≤ f b
  in_order a b header first second starts less =
      let x = found_at a header first starts in
      let y = goes s f moves t.free b carries.found second in
      let cost : cost_of header.shape ≡ cost_of x.move.shape = ap cost_of x.shape in
      let apart = objects_apart x.index y.index x.move y.move (cost_of header.shape) x.is y.is cost
      (let to = y.to in omega (arith, less, x.to, to)) in
      let to = y.to in omega (arith, apart, x.to, to)
