-- The words of one object that stays, and of those before it.
use Rattle.std.proofs.Common.{◌≡◌, ℕ, ◌+◌, ◌-◌, ◌<◌, ◌≤◌, List, [], ◌∷◌, ◌++◌, length, take, drop, sym, subst, ap}
use Rattle.std.proofs.Common.{◌∙◌, arith, length-append, get_or, inl, inr}
use Rattle.std.specs.Prelude.{Bool, nat_lt, slice_get, slice_index, Some}
use Rattle.std.proofs.lemmas.Bool.Decides.{eqb_tells}
use Rattle.std.proofs.lemmas.List.{get_or_append_left, get_or-append-add, get_or-drop, take_all}
use Rattle.std.proofs.lemmas.Option.{same_Some, slice_get-get_or, slice_get_within}
use Rattle.melt_model.specs.declared.reports.Phase.TheVariants.{Move}
use Rattle.melt_word.specs.Words.{IsHeader, header_word, cost_of}
use Rattle.melt_word.specs.declared.header.Header.{Header}
use Rattle.melt_space.specs.Space.{SpaceWords, AreWords}
use Rattle.melt_scion.specs.State.{State, RefersTo}
use Rattle.melt_scion.specs.State.Reached.{in_slot}
use Rattle.melt_copy.specs.declared.forwarding.Relocation.{Relocation}
use Rattle.melt_copy.specs.Moving.{IsRefWord, words_in, header_after}
use Rattle.melt_copy.specs.Tracking.{word_numbered, Extends, goes}
use Rattle.melt_copy.proofs.Copies.{slots_length, object_slot, word_in_at}
use Rattle.melt_copy.proofs.Growth.{word_in_before}
use Rattle.melt_copy.proofs.Places.{words_in-before}
use Rattle.melt_copy.proofs.Queue.{words_in-next}
use Rattle.melt_copy.proofs.Sources.{source_shape, found_words}
use Rattle.melt_copy.proofs.Visited.{first_words}
use Rattle.melt_move.specs.declared.decision.Decision.{Decision}
use Rattle.melt_move.specs.Staying.{AreSources, ObjectStays, StandIn, Stays, StaysAs}
use Rattle.melt_move.specs.Plans.{IsDecision, HasRoom}

-- the slots of an object that stays are references that can be reached
pub object_sources : (space : SpaceWords) (s : State) (decision : Decision) (m : Relocation) (object : List ℕ)
    → AreWords space m.from (cost_of m.shape) object → Stays space s decision m
    → AreSources space s decision (take (2 + m.shape.refs - 2) (drop 2 object))
object_sources space s decision m object are of =
    let move = of.move in
    let seen = of.decided.seen in
    let count : length (take (2 + m.shape.refs - 2) (drop 2 object)) ≡ m.shape.refs =
    slots_length m.shape.refs m.shape.nums object are.count_is in
    let within : (i : ℕ) → i < length (take (2 + m.shape.refs - 2) (drop 2 object)) → i < m.shape.refs =
    λ i below. omega (arith, below, count) in
    let in_header : (i : ℕ) → i < m.shape.refs → i < move.header.shape.refs =
    λ i below. subst (λ shape. i < shape.refs) (sym move.shape) below in
    record {
      decided = of.decided;
      room = of.room;
      references = λ i below. subst IsRefWord
          (sym (object_slot s m.shape.refs m.shape.nums i seen.word are (within i below)))
          (seen.whole.slots m.from i move.header move.reached move.starts (in_header i (within i below)));
      reached = λ i at below refers. in_slot m.from i at move.header move.reached move.starts
          (in_header i (within i below))
          (subst (λ (w : ℕ). RefersTo w at)
          (object_slot s m.shape.refs m.shape.nums i seen.word are (within i below)) refers);
    }

-- an object whose words were put after those that were there
pub object_stays : (held : Bool) {space : SpaceWords} {s : State} {decision : Decision} {m : Relocation}
    {object : List ℕ} (out : List ℕ) {first then_ last : List ℕ} {before : ℕ} (header : ℕ) {home : ℕ}
    → AreWords space m.from (cost_of m.shape) object → Stays space s decision m → m.to ≡ length out + 1
    → before ≡ slice_index object 0 → ((h : Header) → IsHeader h → h.shape ≡ m.shape → before ≡ header_word h → header ≡
    header_word (header_after Move held h)) → home ≡ slice_index object 1 → first ≡ out ++ header ∷ home ∷ []
    → Extends first then_ (length (take (2 + m.shape.refs - 2) (drop 2 object))) → ((i : ℕ) → i < length (take (2 +
    m.shape.refs - 2) (drop 2 object)) → StaysAs s decision (slice_index (take (2 + m.shape.refs - 2) (drop 2 object))
    i) (slice_index then_ (length first + i))) → last ≡ then_ ++ drop (2 + m.shape.refs) object
    → ObjectStays s decision held (word_numbered last) m
object_stays held {s} {decision} {m} {object} out {first} {then_} {last} {before} header {home} are of to before_is
    header_is home_is first_is extends stay last_is =
    let refs : ℕ = m.shape.refs in
    let nums : ℕ = m.shape.nums in
    let word = of.decided.seen.word in
    let size : length object ≡ 2 + refs + nums = are.count_is in
    let first_size : length first ≡ length out + 2 = ap length first_is ∙ length-append out (header ∷ home ∷ []) in
    let slots : length (take (2 + refs - 2) (drop 2 object)) ≡ refs = slots_length refs nums object size in
    let then_size : length then_ ≡ length out + 2 + refs = omega (arith, extends.size, first_size, slots) in
    let as_was : (k : ℕ) → k < 2 + refs + nums → slice_index object k ≡ s.word (m.from + k) =
    λ k below. are.each k below ∙ sym (word (m.from + k)) in
    let in_then : (k : ℕ) → k < length then_ → slice_index last k ≡ slice_index then_ k =
    λ k below. ap (λ (l : List ℕ). slice_index l k) last_is
    ∙ get_or_append_left then_ (drop (2 + refs) object) 0 k below in
    let front : (j : ℕ) → j < 2 → slice_index last (length out + j) ≡ slice_index (header ∷ home ∷ []) j = λ j below.
    in_then (length out + j) (omega (arith, below, then_size))
    ∙ (extends.before (length out + j) (omega (arith, below, first_size))
    ∙ (ap (λ (l : List ℕ). slice_index l (length out + j)) first_is
    ∙ get_or-append-add out (header ∷ home ∷ []) j 0)) in
    record {
      header = λ h starts.
          let same : before ≡ header_word h =
          before_is ∙ (as_was 0 (omega arith)
          ∙ (ap s.word (let sum : m.from + 0 ≡ m.from = omega arith in sum) ∙ starts.word)) in
          word_in_at last (length out) 0 m.to (omega (arith, to))
          ∙ (front 0 (omega arith) ∙ header_is h starts.in_range (source_shape s m h of.move starts) same);
      home = word_in_at last (length out) 1 (m.to + 1) (omega (arith, to))
          ∙ (front 1 (omega arith) ∙ (home_is ∙ as_was 1 (omega arith)));
      slots = λ i below.
          let place : word_numbered last (m.to + 2 + i) ≡ slice_index then_ (length first + i) =
          word_in_at last (length out) (2 + i) (m.to + 2 + i) (omega (arith, to))
          ∙ (in_then (length out + (2 + i)) (omega (arith, below, then_size))
          ∙ ap (slice_index then_) (let sum : length out + (2 + i) ≡ length first + i = omega (arith, first_size) in
          sum)) in
          subst (StaysAs s decision (s.word (m.from + 2 + i))) (sym place)
          (subst (λ (w : ℕ). StaysAs s decision w (slice_index then_ (length first + i)))
          (object_slot s refs nums i word are below) (stay i (omega (arith, below, slots))));
      numbers = λ j below.
          word_in_at last (length out) (2 + refs + j) (m.to + 2 + refs + j) (omega (arith, to))
          ∙ (ap (slice_index last) (let sum : length out + (2 + refs + j) ≡ length then_
          + j = omega (arith, then_size) in sum)
          ∙ (ap (λ (l : List ℕ). slice_index l (length then_ + j)) last_is
          ∙ (get_or-append-add then_ (drop (2 + refs) object) j 0
          ∙ (get_or-drop (2 + refs) object j 0
          ∙ (as_was (2 + refs + j) (omega (arith, below))
          ∙ ap s.word (let sum : m.from + (2 + refs + j) ≡ m.from + 2 + refs + j = omega arith in sum))))));
    }

-- an object that was put there stands where more words are put after it
stands_on : {s : State} {decision : Decision} {held : Bool} {words more : List ℕ} {n : ℕ} {m : Relocation}
    → Extends words more n → m.to + cost_of m.shape ≤ length words + 1
    → ObjectStays s decision held (word_numbered words) m → ObjectStays s decision held (word_numbered more) m
stands_on {s} {decision} {words} {more} {n} {m} extends within object = record {
  header = λ header starts. word_in_before words more n m.to extends (omega (arith, within))
      ∙ object.header header starts;
  home = word_in_before words more n (m.to + 1) extends (omega (arith, within)) ∙ object.home;
  slots = λ i below.
      subst (StaysAs s decision (s.word (m.from + 2 + i)))
      (sym (word_in_before words more n (m.to + 2 + i) extends (omega (arith, within, below)))) (object.slots i below);
  numbers = λ j below. word_in_before words more n (m.to + 2 + m.shape.refs + j) extends (omega (arith, within, below))
      ∙ object.numbers j below;
}

-- the first objects that stay, so many of them, stand in these words
pub record StandSoFar (s : State) (decision : Decision) (words : List ℕ) (count : ℕ) : Type 0 where
  pub size : length words ≡ words_in (take count decision.choice.stay.moves.items)
  pub objects : (k : ℕ) (m : Relocation) → k < count → slice_get decision.choice.stay.moves.items k ≡ Some m
      → ObjectStays s decision (nat_lt k decision.held_count) (word_numbered words) m

-- one object more
pub stand_more : {space : SpaceWords} {s : State} {decision : Decision} {words more : List ℕ} {count : ℕ}
    {m : Relocation} → Stays space s decision m → StandSoFar s decision words count
    → slice_get decision.choice.stay.moves.items count ≡ Some m → Extends words more (cost_of m.shape)
    → (m.to ≡ length words + 1 → ObjectStays s decision (nat_lt count decision.held_count) (word_numbered more) m)
    → StandSoFar s decision more (count + 1)
stand_more {s} {decision} {more} {count} {m} stays before at extends object =
    let moves : List Relocation = decision.choice.stay.moves.items in
    let stay = stays.decided.choice.stay in
    record {
      size = omega (arith, extends.size, before.size, words_in-next moves count m at);
      objects = λ k x under there. elim (eqb_tells k count) [
        | inl same ↦
            let one : x ≡ m = same_Some x m (sym there ∙ (ap (slice_get moves) same.1 ∙ at)) in
            subst (λ (i : ℕ). ObjectStays s decision (nat_lt i decision.held_count) (word_numbered more) x) (sym same.1)
            (subst (ObjectStays s decision (nat_lt count decision.held_count) (word_numbered more)) (sym one)
            (object (let place = stay.places count m at in omega (arith, place, before.size))))
        | inr other ↦
            let lower : k < count = omega (arith, under, other.1) in
            let place = stay.places k x there in
            let fits = words_in-before moves k count x there lower in
            stands_on extends (omega (arith, place, fits, before.size)) (before.objects k x lower there)
      ];
    }

-- none stand in no words
pub stand_none : (s : State) (decision : Decision) (words : List ℕ) → words ≡ [] → StandSoFar s decision words 0
stand_none s decision words empty =
    record { size = ap length empty; objects = λ k m below at. absurd (omega (arith, below)) }

-- all stand
pub stand_all : (s : State) (decision : Decision) (words : List ℕ) (count : ℕ) → StandSoFar s decision words count
    → length decision.choice.stay.moves.items ≤ count → StandIn s decision words
stand_all s decision words count stand all =
    let moves : List Relocation = decision.choice.stay.moves.items in
    record {
      size = stand.size ∙ ap words_in (take_all count moves all);
      objects = λ k m at. stand.objects k m (omega (arith, all, slice_get_within moves k m at)) at;
    }

-- an object of the list stays
pub stays_in : (space : SpaceWords) (s : State) (decision : Decision) (k : ℕ) (m : Relocation)
    → IsDecision space s decision → HasRoom decision → slice_get decision.choice.stay.moves.items k ≡ Some m
    → Stays space s decision m
stays_in space s decision k m decided room at =
    record { decided = decided; room = room; move = decided.choice.stay.whole k m at }

-- the next object fits after those that stand there
pub next_stays_in : (space : SpaceWords) (s : State) (decision : Decision) (k : ℕ) (m : Relocation)
    → IsDecision space s decision → slice_get decision.choice.stay.moves.items k ≡ Some m
    → words_in (take k decision.choice.stay.moves.items) + cost_of m.shape ≤ space.used
next_stays_in space s decision k m decided at =
    let moves = decision.choice.stay.moves.items in
    let words = found_words s (goes decision.choice.stay) moves decision.choice.stay.next decided.seen.whole
    decided.choice.stay in
    omega (arith, words_in-next moves k m at, first_words moves (k + 1), words, decided.seen.free)

-- the object at a place of a list, as a loop over it reads it
pub in_order : (moves list : List Relocation) (k : ℕ) (d : Relocation) → list ≡ moves → k < length list
    → slice_get moves k ≡ Some (get_or list k d)
in_order moves list k d same below = ap (λ (l : List Relocation). slice_get l k) (sym same)
    ∙ slice_get-get_or list k d below
