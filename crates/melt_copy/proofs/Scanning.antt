-- Objects are done, one after the other, in the order in which they were found.
use Rattle.std.proofs.Common.{◌≡◌, ℕ, ◌+◌, ◌<◌, ◌≤◌, List, length, take, get_or, refl, sym, ap, ◌∙◌, subst, arith}
use Rattle.std.proofs.Common.{inl, inr, length-append, length-set}
use Rattle.std.specs.Prelude.{Bool, nat_lt, Some, slice_get, slice_set}
use Rattle.std.proofs.lemmas.Bool.{cases_eq, cases_lt, lt-ltb, le-ltb}
use Rattle.std.proofs.lemmas.List.{take-append-le, take_all}
use Rattle.std.proofs.lemmas.Option.{slice_get_cases, slice_get_within}
use Rattle.melt_model.specs.declared.reports.Phase.{Phase}
use Rattle.melt_word.specs.Words.{IsHeader, IsShape, header_word, cost_of}
use Rattle.melt_word.specs.declared.header.Header.{Header}
use Rattle.melt_word.specs.declared.header.Shape.{Shape}
use Rattle.melt_space.specs.Space.{SpaceWords}
use Rattle.melt_copy.specs.declared.forwarding.Relocation.{Relocation}
use Rattle.melt_copy.specs.declared.to_space.ToSpace.{ToSpace}
use Rattle.melt_copy.specs.Moving.{header_after, words_in}
use Rattle.melt_copy.specs.Tracking.{word_numbered}
use Rattle.melt_copy.specs.Evacuating.{Collection, Evacuates, EvacuatesNext, EvacuatesQueue, EvacuatesSlots, FindsMore}
use Rattle.melt_copy.specs.Evacuating.{ScansOne}
use Rattle.melt_copy.proofs.Growing.{stays_at}
use Rattle.melt_copy.proofs.Places.{words_in-before}
use Rattle.melt_copy.proofs.Queue.{words_in-next}
use Rattle.melt_copy.proofs.Scanned.{part_inside, part_waits, one_more, one_stays, numbers_stay, set_others, set_here}
use Rattle.melt_copy.proofs.Scanned.{word_is}
use Rattle.melt_copy.proofs.Sources.{source_shape}

module _ {c : Collection} {phase : Phase} {held : Bool} {space : SpaceWords} (to : ToSpace) {done : ℕ}
    (next : EvacuatesNext c phase held space to done) where
  starts_here : next.move.to + 0 ≡ done + 1
  starts_here = omega (arith, next.place)

  -- its header is a word of the copy
  pub header_within : done < length to.words.items
  header_within = part_inside to next.index next.evacuates next.at (omega arith) starts_here

  module _ {word : ℕ} (read : word ≡ get_or to.words.items done word) where
    word_was : word ≡ c.state.word next.move.from
    word_was =
        sym (word_is to.words.items done word header_within read)
        ∙ (part_waits to next.index next.evacuates next.at (omega arith) starts_here
        ∙ ap c.state.word (let sum : next.move.from + 0 ≡ next.move.from = omega arith in sum))

    pub is_header : (h : Header) × IsHeader h × (word ≡ header_word h)
    is_header =
        let move = next.evacuates.holds.whole next.index next.move next.at in
        (move.header, move.starts.in_range, word_was ∙ move.starts.word)

    module _ {shape : Shape} (told : (h : Header) → IsHeader h → word ≡ header_word h → shape ≡ h.shape) where
      pub shape_is : shape ≡ next.move.shape
      unfolding is_header
      shape_is = told is_header.0 is_header.1 is_header.2
          ∙ (next.evacuates.holds.whole next.index next.move next.at).shape

      pub shape_small : IsShape shape
      shape_small = subst IsShape (sym (told is_header.0 is_header.1 is_header.2)) is_header.1

      module _ {header : ℕ} (after : (h : Header) → IsHeader h → h.shape ≡ shape → word ≡ header_word h
          → header ≡ header_word (header_after phase held h))
          (now : ToSpace) (words : now.words.items ≡ slice_set to.words.items done header)
          (same_next : now.next ≡ to.next) (moves : now.moves ≡ to.moves)
          (names : now.names ≡ to.names) where
        size : length now.words.items ≡ length to.words.items
        size = ap length words ∙ length-set to.words.items done header

        header_done : Evacuates c space now (done + 1)
        header_done =
            one_more to next.index next.evacuates next.at (omega arith) starts_here now moves names same_next size
            (λ a other. ap (λ (ws : List ℕ). word_numbered ws a) words ∙ set_others to.words.items done header a other)
            (record {
              header = λ _ h starts.
                  ap (λ (ws : List ℕ). word_numbered ws (next.move.to + 0)) words
                  ∙ (set_here to.words.items done header (next.move.to + 0) header_within starts_here
                  ∙ (after h starts.in_range
                  (source_shape c.state next.move h (next.evacuates.holds.whole next.index next.move next.at) starts
                  ∙ sym shape_is) (word_was ∙ starts.word)
                  ∙ (ap (λ (p : Phase). header_word (header_after p held h)) (sym next.phase_is)
                  ∙ ap (λ (b : Bool). header_word (header_after c.phase b h)) next.held_is)));
              home = λ second. absurd (omega (arith, second));
              slot = λ from _. absurd (omega (arith, from));
              number = λ later. absurd (omega (arith, later));
            })

        still_at : slice_get now.moves next.index ≡ Some next.move
        still_at = ap (λ (ms : List Relocation). slice_get ms next.index) moves ∙ next.at

        home_done : Evacuates c space now (done + 2)
        home_done =
            subst (Evacuates c space now) (omega arith)
            (one_stays now next.index header_done still_at (omega arith) (omega (arith, next.place)) (record {
              header = λ first. absurd (omega (arith, first));
              home = λ _. refl;
              slot = λ from _. absurd (omega (arith, from));
              number = λ later. absurd (omega (arith, later));
            }))

        -- its slots are next
        pub slots_next : EvacuatesSlots c phase space now (done + 2) shape.refs
        slots_next = record {
          evacuates = home_done;
          phase_is = next.phase_is;
          index = next.index;
          move = next.move;
          at = still_at;
          place = omega (arith, next.place);
          refs_are = ap (λ (x : Shape). x.refs) (sym shape_is);
        }

        -- and it is done after them
        pub object_done : {space' : SpaceWords} (last : ToSpace) → Evacuates c space' last (done + 2 + shape.refs)
            → FindsMore now.moves last.moves → {cost : ℕ} → cost ≡ cost_of shape
            → ScansOne c space' last done (done + cost) next.move
        object_done {space'} last it more {cost} cost_is =
            let refs : shape.refs ≡ next.move.shape.refs = ap (λ (x : Shape). x.refs) shape_is in
            let all : cost ≡ cost_of next.move.shape = cost_is ∙ ap cost_of shape_is in
            record {
              evacuates = subst (Evacuates c space' last) (omega (arith, refs, all))
                  (numbers_stay last next.index (stays_at now.moves last.moves next.index next.move more still_at)
                  (done + 2 + shape.refs) (2 + shape.refs) next.move.shape.nums it (omega (arith, next.place))
                  (omega (arith, refs)) (omega (arith, refs)));
              next_is = omega (arith, all);
            }

-- the first ones stay the first ones
pub front_stays : (old new : List Relocation) (k : ℕ) → FindsMore old new → k ≤ length old
    → words_in (take k new) ≡ words_in (take k old)
front_stays old new k more within = ap (λ (ms : List Relocation). words_in (take k ms)) more.is
    ∙ ap words_in (take-append-le k old more.rest within)

pub longer : (old new : List Relocation) → FindsMore old new → length old ≤ length new
longer old new more = let sum = ap length more.is ∙ length-append old more.rest in omega (arith, sum)

-- fewer objects take no more words
fewer_words : (moves : List Relocation) (j k : ℕ) → j ≤ k → words_in (take j moves) ≤ words_in (take k moves)
fewer_words moves j k below = elim (cases_eq j k) [
  | inl same ↦ let words = ap (λ (n : ℕ). words_in (take n moves)) same in omega (arith, words)
  | inr other ↦ elim (slice_get_cases moves j).1 [
    | inl there ↦ omega (arith, words_in-before moves j k there.0 there.2 (omega (arith, below, other)))
    | inr past ↦
        let first : take j moves ≡ moves = take_all j moves past.0 in
        let second : take k moves ≡ moves = take_all k moves (omega (arith, past.0, below)) in
        let words = ap words_in (first ∙ sym second) in
        omega (arith, words)
  ]
]

module _ {c : Collection} {phase : Phase} {held_words : ℕ} {space : SpaceWords} (to : ToSpace) {done : ℕ}
    (queue : EvacuatesQueue c phase held_words space to done) where
  -- an object is left, where words are
  left : done < to.next → queue.count < length to.moves
  left below = elim (cases_lt queue.count (length to.moves)) [
    | inl there ↦ there
    | inr past ↦
        let all = ap words_in (take_all queue.count to.moves past) in
        absurd (omega (arith, below, queue.done_is, all, queue.evacuates.holds.after))
  ]

  -- registers hold it where its words are among those of the objects in registers
  held_by : (m : Relocation) → slice_get to.moves queue.count ≡ Some m
      → nat_lt done held_words ≡ nat_lt queue.count c.held_count
  held_by m at = elim (cases_lt queue.count c.held_count) [
    | inl below ↦
        let words = words_in-before to.moves queue.count c.held_count m at below in
        lt-ltb done held_words (omega (arith, words, queue.done_is, queue.held_is))
        ∙ sym (lt-ltb queue.count c.held_count below)
    | inr above ↦
        let words = fewer_words to.moves c.held_count queue.count above in
        le-ltb done held_words (omega (arith, words, queue.done_is, queue.held_is))
        ∙ sym (le-ltb queue.count c.held_count above)
  ]

  -- it is next
  pub next_object : done < to.next → EvacuatesNext c phase (nat_lt done held_words) space to done
  next_object below = elim (slice_get_cases to.moves queue.count).1 [
    | inl there ↦
        record {
          evacuates = queue.evacuates;
          phase_is = queue.phase_is;
          index = queue.count;
          move = there.0;
          at = there.2;
          place =
              let place = queue.evacuates.holds.places queue.count there.0 there.2 in
              omega (arith, place, queue.done_is);
          held_is = held_by there.0 there.2;
        }
    | inr past ↦ absurd (omega (arith, left below, past.0))
  ]

  -- and then the one after it is
  pub queue_more : {held : Bool} (next : EvacuatesNext c phase held space to done) {space' : SpaceWords} (now : ToSpace)
      {then_ : ℕ} → ScansOne c space' now done then_ next.move → FindsMore to.moves now.moves
      → EvacuatesQueue c phase held_words space' now then_
  queue_more next now scans more =
      let within = slice_get_within to.moves next.index next.move next.at in
      let place = next.evacuates.holds.places next.index next.move next.at in
      let more_moves = longer to.moves now.moves more in
      record {
        evacuates = scans.evacuates;
        phase_is = queue.phase_is;
        count = next.index + 1;
        count_within = omega (arith, within, more_moves);
        done_is = omega (
          arith,
          scans.next_is,
          place,
          next.place,
          words_in-next to.moves next.index next.move next.at,
          front_stays to.moves now.moves (next.index + 1) more (omega (arith, within)),
        );
        held_within = omega (arith, queue.held_within, more_moves);
        held_is = queue.held_is ∙ sym (front_stays to.moves now.moves c.held_count more queue.held_within);
      }
