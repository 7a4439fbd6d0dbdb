-- Words of the copy are done, one after the other.
use Rattle.std.proofs.Common.{◌≡◌, ◌≢◌, ℕ, zero, suc, ◌+◌, ◌-◌, ◌<◌, ◌≤◌, List, length, refl, sym, ap, ◌∙◌, subst}
use Rattle.std.proofs.Common.{arith, inl, inr, length-set, get_or, get_or-set_same, get_or-set_other}
use Rattle.std.specs.Prelude.{nat_lt, Option, Some, slice_get, slice_index, slice_set}
use Rattle.std.proofs.lemmas.Bool.{cases_eq, cases_order}
use Rattle.std.proofs.lemmas.List.{get_or_default}
use Rattle.std.proofs.lemmas.Option.{same_Some}
use Rattle.melt_model.specs.declared.reports.Phase.{Phase}
use Rattle.melt_word.specs.Words.{ref_word, cost_of}
use Rattle.melt_word.specs.declared.reference.Ref.TheVariants.{Clean}
use Rattle.melt_word.specs.declared.header.Shape.{Shape}
use Rattle.melt_space.specs.Space.{SpaceWords, word_at}
use Rattle.melt_scion.specs.State.{State, RefersTo}
use Rattle.melt_scion.specs.State.Reached.{in_slot}
use Rattle.melt_copy.specs.declared.forwarding.Relocation.{Relocation}
use Rattle.melt_copy.specs.declared.names.Renaming.{Renaming}
use Rattle.melt_copy.specs.declared.to_space.ToSpace.{ToSpace}
use Rattle.melt_copy.specs.Moving.{IsRefWord, Relocates, WordMoves}
use Rattle.melt_copy.specs.Tracking.{word_numbered}
use Rattle.melt_copy.specs.Evacuating.{AreCarried, Collection, Evacuates, EvacuatesFor, EvacuatesSlots, FindsMore}
use Rattle.melt_copy.specs.Evacuating.{PartMoves, place_of}
use Rattle.melt_copy.proofs.Growing.{more-start, stays_at}
use Rattle.melt_copy.proofs.Evacuated.{part_more, words_fit}
use Rattle.melt_copy.proofs.Places.{place_below, place_after}

-- a word by its number
numbered : (words : List ℕ) (k at : ℕ) → at ≡ k + 1 → word_numbered words at ≡ slice_index words k
numbered words k zero is = absurd (omega (arith, is))
numbered words k (suc at) is = ap (slice_index words) (omega (arith, is))

-- a word that was read
pub word_is : (words : List ℕ) (place word : ℕ) → place < length words → word ≡ get_or words place word
    → slice_index words place ≡ word
word_is words place word below is = get_or_default words place 0 word below ∙ sym is

-- the object that takes a word is one
same_object : {s : State} {f : ℕ → ℕ} {moves : List Relocation} {free : ℕ} (k j : ℕ) {a b : Relocation}
    → Relocates s f moves free → slice_get moves k ≡ Some a → slice_get moves j ≡ Some b → (at : ℕ) → a.to ≤ at
    → at < a.to + cost_of a.shape → b.to ≤ at → at < b.to + cost_of b.shape → (k ≡ j) × (a ≡ b)
same_object {moves} k j {a} {b} holds first second at a_from a_to b_from b_to = elim (cases_order k j) [
  | inl same ↦ (same, same_Some a b (sym first ∙ (ap (slice_get moves) same ∙ second)))
  | inr other ↦ absurd (elim other [
    | inl before ↦ omega (arith, place_after k j holds first second before, a_to, b_from)
    | inr after ↦ omega (arith, place_after j k holds second first after, b_to, a_from)
  ])
]

-- The copy in which one word more is done, that of a part of an object, and no other word has changed.
module _ {c : Collection} {space : SpaceWords} (to : ToSpace) {done : ℕ} (k : ℕ) {i : ℕ} {m : Relocation}
    (it : Evacuates c space to done) (there : slice_get to.moves k ≡ Some m) (below : i < cost_of m.shape)
    (is : m.to + i ≡ done + 1) where
  -- the word is one of the copy
  pub part_within : done < to.next
  part_within =
      let place = place_below c.state (place_of to.moves) to.moves (to.next + 1) k m it.holds there in
      omega (arith, place.1, below, is)

  pub part_inside : done < length to.words.items
  part_inside = omega (arith, part_within, words_fit to it, it.room)

  -- it is as it was
  pub part_waits : slice_index to.words.items done ≡ c.state.word (m.from + i)
  part_waits = sym (numbered to.words.items done (m.to + i) is) ∙ it.waiting k m i there below (omega (arith, is))

  module _ (now : ToSpace) (moves : now.moves ≡ to.moves) (names : now.names ≡ to.names)
      (next : now.next ≡ to.next) (size : length now.words.items ≡ length to.words.items)
      (others : (a : ℕ) → a ≢ done + 1 → word_numbered now.words.items a ≡ word_numbered to.words.items a)
      (part : PartMoves c (nat_lt k c.held_count) (place_of to.moves) m i (word_numbered now.words.items (m.to + i)))
    where
      same_moves : FindsMore to.moves now.moves
      same_moves = subst (FindsMore to.moves) (sym moves) (more-start to.moves)

      was_there : (j : ℕ) (x : Relocation) → slice_get now.moves j ≡ Some x → slice_get to.moves j ≡ Some x
      was_there j x at = ap (λ (ms : List Relocation). slice_get ms j) (sym moves) ∙ at

      part_there : (j : ℕ) (x : Relocation) (l : ℕ) → slice_get to.moves j ≡ Some x → l < cost_of x.shape
          → x.to + l ≡ done + 1
          → PartMoves c (nat_lt j c.held_count) (place_of to.moves) x l (word_numbered now.words.items (x.to + l))
      part_there j x l at under here =
          let one = same_object k j it.holds there at (done + 1) (omega (arith, is)) (omega (arith, is, below))
          (omega (arith, here)) (omega (arith, here, under)) in
          let to_is : m.to ≡ x.to = ap (λ (y : Relocation). y.to) one.1 in
          let same : i ≡ l = omega (arith, is, here, to_is) in
          subst (λ (n : ℕ). PartMoves c (nat_lt n c.held_count) (place_of to.moves) x l
          (word_numbered now.words.items (x.to + l))) one.0
          (subst (λ (n : ℕ). PartMoves c (nat_lt k c.held_count) (place_of to.moves) x n
          (word_numbered now.words.items (x.to + n))) same
          (subst (λ (y : Relocation). PartMoves c (nat_lt k c.held_count) (place_of to.moves) y i
          (word_numbered now.words.items (y.to + i))) one.1 part))

      pub one_more : Evacuates c space now (done + 1)
      one_more = record {
        whole = it.whole;
        holds = subst (λ (n : ℕ). Relocates c.state (place_of now.moves) now.moves (n + 1)) (sym next)
            (subst (λ (ms : List Relocation). Relocates c.state (place_of ms) ms (to.next + 1)) (sym moves)
            it.holds);
        size = it.size;
        free = it.free;
        room = omega (arith, it.room, size);
        within = omega (arith, part_within, next);
        forwarded = subst (λ (ms : List Relocation). (a : ℕ) → place_of ms a ≢ 0
            → word_at space a ≡ ref_word (Clean (place_of ms a))) (sym moves) it.forwarded;
        kept = subst (λ (ms : List Relocation). (a : ℕ) → place_of ms a ≡ 0 → word_at space a ≡ c.state.word a)
            (sym moves) it.kept;
        moved = λ j x l at under up. elim (cases_eq (x.to + l) (done + 1)) [
          | inl here ↦ part_more to.moves now.moves same_moves refl (part_there j x l (was_there j x at) under here)
          | inr other ↦ part_more to.moves now.moves same_moves (others (x.to + l) other)
              (it.moved j x l (was_there j x at) under (omega (arith, up, other)))
        ];
        waiting = λ j x l at under over.
            others (x.to + l) (omega (arith, over)) ∙ it.waiting j x l (was_there j x at) under (omega (arith, over));
        names = subst (λ (ms : List Relocation). AreCarried c.names now.names ms) (sym moves)
            (subst (λ (r : Option Renaming). AreCarried c.names r to.moves) (sym names) it.names);
        made = it.made;
      }

  -- the same where the word stays
  module _ (part : PartMoves c (nat_lt k c.held_count) (place_of to.moves) m i (c.state.word (m.from + i))) where
    pub one_stays : Evacuates c space to (done + 1)
    one_stays =
        one_more to refl refl refl refl (λ a other. refl)
        (subst (PartMoves c (nat_lt k c.held_count) (place_of to.moves) m i)
        (sym (it.waiting k m i there below (omega (arith, is)))) part)

-- a word that is set, and no other
pub set_others : (words : List ℕ) (done w a : ℕ) → a ≢ done + 1
    → word_numbered (slice_set words done w) a ≡ word_numbered words a
set_others words done w zero other = refl
set_others words done w (suc a) other = get_or-set_other words done a w 0 (omega (arith, other))

pub set_here : (words : List ℕ) (done w at : ℕ) → done < length words → at ≡ done + 1
    → word_numbered (slice_set words done w) at ≡ w
set_here words done w at within is =
    numbered (slice_set words done w) done at is ∙ get_or-set_same words done w 0 within

module _ {c : Collection} {space : SpaceWords} (to : ToSpace) (k : ℕ) {m : Relocation}
    (there : slice_get to.moves k ≡ Some m) where
  -- numbers stay, so many of them
  pub numbers_stay : (done i count : ℕ) → Evacuates c space to done → m.to + i ≡ done + 1
      → 2 + m.shape.refs ≤ i → i + count ≤ cost_of m.shape → Evacuates c space to (done + count)
  numbers_stay done i zero it is after fits = subst (Evacuates c space to) (omega arith) it
  numbers_stay done i (suc count) it is after fits =
      subst (Evacuates c space to) (omega arith)
      (numbers_stay (done + 1) (i + 1) count
      (one_stays to k it there (omega (arith, fits)) is (record {
        header = λ first. absurd (omega (arith, first, after));
        home = λ second. absurd (omega (arith, second, after));
        slot = λ from under. absurd (omega (arith, under, after));
        number = λ _. refl;
      })) (omega (arith, is)) (omega (arith, after)) (omega (arith, fits)))

-- the next word of the copy is a slot of an object
pub record SlotNext (c : Collection) (space : SpaceWords) (to : ToSpace) (place : ℕ) : Type 0 where
  pub evacuates : Evacuates c space to place
  pub index : ℕ
  pub move : Relocation
  pub there : slice_get to.moves index ≡ Some move
  pub slot : ℕ
  pub below : slot < move.shape.refs
  pub place_is : move.to + (2 + slot) ≡ place + 1

-- one of the slots of an object is, when more was found since they began
pub slot_next : {c : Collection} {phase : Phase} {before space : SpaceWords} {to now : ToSpace} {first refs place : ℕ}
    → EvacuatesSlots c phase before to first refs → Evacuates c space now place → FindsMore to.moves now.moves
    → first ≤ place → place < first + refs → SlotNext c space now place
slot_next {to} {now} {first} {place} slots evacuates more from under = record {
  evacuates = evacuates;
  index = slots.index;
  move = slots.move;
  there = stays_at to.moves now.moves slots.index slots.move more slots.at;
  slot = place - first;
  below = omega (arith, slots.refs_are, from, under);
  place_is = omega (arith, slots.place, from);
}

module _ {c : Collection} {space : SpaceWords} {to : ToSpace} {place : ℕ} (next : SlotNext c space to place) where
  its_word : 2 + next.slot < cost_of next.move.shape
  its_word = omega (arith, next.below)

  pub slot_within : place < length to.words.items
  slot_within = part_inside to next.index next.evacuates next.there its_word next.place_is

  pub slot_word : {word : ℕ} → word ≡ get_or to.words.items place word → slice_index to.words.items place ≡ word
  slot_word {word} read = word_is to.words.items place word slot_within read

  slot_was : slice_index to.words.items place ≡ c.state.word (next.move.from + 2 + next.slot)
  slot_was =
      part_waits to next.index next.evacuates next.there its_word next.place_is
      ∙ ap c.state.word (let sum : next.move.from + (2 + next.slot) ≡ next.move.from + 2 + next.slot = omega arith in sum)

  slot_of : next.slot < (next.evacuates.holds.whole next.index next.move next.there).header.shape.refs
  slot_of =
      subst (λ (x : Shape). next.slot < x.refs)
      (sym (next.evacuates.holds.whole next.index next.move next.there).shape) next.below

  -- it is still one of the copy when more was found
  pub still_within : (now : ToSpace) {space' : SpaceWords} → Evacuates c space' now place
      → FindsMore to.moves now.moves → place < length now.words.items
  still_within now then_ more =
      part_inside now next.index then_ (stays_at to.moves now.moves next.index next.move more next.there) its_word
      next.place_is

  -- what it refers to can be found
  pub slot_for : EvacuatesFor c space to place (slice_index to.words.items place)
  slot_for =
      let move = next.evacuates.holds.whole next.index next.move next.there in
      record {
        evacuates = next.evacuates;
        reference = subst IsRefWord (sym slot_was)
            (next.evacuates.whole.slots next.move.from next.slot move.header move.reached move.starts slot_of);
        reached = λ address refers.
            in_slot next.move.from next.slot address move.header move.reached move.starts slot_of
            (subst (λ (w : ℕ). RefersTo w address) slot_was refers);
      }

  -- and it is done when it was moved
  pub slot_done : (now : ToSpace) {space' : SpaceWords} {word : ℕ} (last : ToSpace)
      → Evacuates c space' now place → FindsMore to.moves now.moves
      → WordMoves c.phase (place_of now.moves) (slice_index to.words.items place) word
      → last.words.items ≡ slice_set now.words.items place word → last.next ≡ now.next
      → last.moves ≡ now.moves → last.names ≡ now.names → Evacuates c space' last (place + 1)
  slot_done now {word} last then_ more moves words next_is moves_are names_are =
      let at = stays_at to.moves now.moves next.index next.move more next.there in
      let word_at_place = next.move.to + (2 + next.slot) in
      one_more now next.index then_ at its_word next.place_is last moves_are names_are next_is
      (ap length words ∙ length-set now.words.items place word)
      (λ a other. ap (λ (ws : List ℕ). word_numbered ws a) words ∙ set_others now.words.items place word a other)
      (record {
        header = λ first. absurd (omega (arith, first));
        home = λ second. absurd (omega (arith, second));
        slot = λ _ _.
            subst (WordMoves c.phase (place_of now.moves) (c.state.word (next.move.from + (2 + next.slot))))
            (sym (ap (λ (ws : List ℕ). word_numbered ws word_at_place) words
            ∙ set_here now.words.items place word word_at_place (still_within now then_ more) next.place_is))
            (subst (λ (w : ℕ). WordMoves c.phase (place_of now.moves) w word)
            (part_waits to next.index next.evacuates next.there its_word next.place_is) moves);
        number = λ after. absurd (omega (arith, after, next.below));
      })
