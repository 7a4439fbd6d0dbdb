-- The slots of an object that leaves, as the Body has them.
use Rattle.std.proofs.Common.{◌≡◌, ◌≢◌, ℕ, ◌+◌, ◌-◌, ◌<◌, ◌≤◌, ◌^◌, List, ◌++◌, length, take, drop, sym, subst, ap}
use Rattle.std.proofs.Common.{◌∙◌, arith, below_more, inr, get_or-set_same, get_or-set_other, length-drop}
use Rattle.std.specs.Prelude.{slice_index, slice_set, Some}
use Rattle.std.proofs.lemmas.List.{get_or_append_left, get_or-append-add, get_or-take, get_or-drop, length-take-le}
use Rattle.std.proofs.lemmas.List.{take_rest}
use Rattle.melt_word.specs.Words.{IsDiskHome, IsRef, ref_word, cost_of}
use Rattle.melt_word.specs.declared.header.Shape.{Shape}
use Rattle.melt_word.specs.declared.reference.Ref.{Ref}
use Rattle.melt_record.specs.Records.{IsSlotWord, AreSlots}
use Rattle.melt_space.specs.Space.{SpaceWords, word_at, AreWords}
use Rattle.melt_scion.specs.State.{State, RefersTo, Reached, address_in}
use Rattle.melt_scion.specs.State.Reached.{in_slot}
use Rattle.melt_scion.specs.Moves.{IsNamedByLeaving}
use Rattle.melt_copy.specs.Moving.{IsRefWord}
use Rattle.melt_model.specs.declared.reports.Phase.TheVariants.{Move}
use Rattle.melt_move.specs.declared.choice.Departure.{Departure}
use Rattle.melt_move.specs.declared.decision.Decision.{Decision}
use Rattle.melt_move.specs.Plans.{home_by}
use Rattle.melt_move.specs.Bodies.{AreLeavingRefs, BecomesHome, Departs, EncodesSlots, IsLeavingRef, IsNamed}
use Rattle.melt_move.proofs.HomeBy.{home_lies}
use Rattle.melt_move.proofs.KeptWords.{home_by_seen}

-- an object to which one that leaves refers can be reached
pub named_reached : (s : State) (address : ℕ) → IsNamedByLeaving Move s address → Reached s address
named_reached s address named =
    in_slot named.object named.slot address named.header named.leaves.0 named.starts named.below named.refers

-- and has a home
pub named_home : (space : SpaceWords) (s : State) (decision : Decision) (address : ℕ)
    → IsNamed space s decision address → IsDiskHome (home_by (word_at space) decision address)
named_home space s decision address named =
    let lies = home_lies space s decision address named.decided named.room (named_reached s address named.named)
    (λ had_none. record { why = inr named.named; had_none = had_none }) in
    subst IsDiskHome (home_by_seen space s decision address named.decided)
    (record { not_null = lies.first; small = lies.small })

-- one of the words
pub leaving_ref_at : (space : SpaceWords) (s : State) (decision : Decision) (words now : List ℕ) (i : ℕ)
    → AreLeavingRefs space s decision words → i < length words → slice_index now i ≡ slice_index words i
    → IsLeavingRef space s decision (slice_index now i)
leaving_ref_at space s decision words now i are below same =
    subst (IsLeavingRef space s decision) (sym same) (record {
      decided = are.decided;
      room = are.room;
      reference = are.references i below;
      named = λ address refers. are.named i address below refers;
    })

-- one word more is what it is to be
pub one_more : (P : ℕ → ℕ → Type 0) (words : List ℕ) (n v : ℕ) → n < length words
    → ((i : ℕ) → i < n → P i (slice_index words i)) → P n v
    → (i : ℕ) → i < n + 1 → P i (slice_index (slice_set words n v) i)
one_more P words n v below before here =
    below_more _ _
    (λ i lower. let other : i ≢ n = omega (arith, lower) in
    subst (P i) (sym (get_or-set_other words n i v 0 other)) (before i lower))
    (subst (P n) (sym (get_or-set_same words n v 0 below)) here)

-- and those after it are as before
pub rest_stays : (words : List ℕ) (n v i : ℕ) → n + 1 ≤ i → slice_index (slice_set words n v) i ≡ slice_index words i
rest_stays words n v i after = let other : i ≢ n = omega (arith, after) in get_or-set_other words n i v 0 other

-- these words are those of an object that leaves without its header and its home word
pub record IsCut (space : SpaceWords) (d : Departure) (object slots : List ℕ) : Type 0 where
  pub are : AreWords space d.from (cost_of d.shape) object
  pub is : slots ≡ drop 2 object

pub slots_cut : (space : SpaceWords) (d : Departure) (count : ℕ) (object slots : List ℕ)
    → AreWords space d.from count object → count ≡ cost_of d.shape
    → slots ≡ take (length object - 2) (drop 2 object) → IsCut space d object slots
slots_cut space d count object slots are same is = record {
  are = subst (λ (n : ℕ). AreWords space d.from n object) same are;
  is = is ∙ take_rest object 2;
}

-- a slot of an object, of which the header and the home word were left out
slot_was : (space : SpaceWords) (s : State) (d : Departure) (object slots : List ℕ) (i : ℕ)
    → ((k : ℕ) → s.word k ≡ word_at space k) → IsCut space d object slots → i < d.shape.refs + d.shape.nums
    → slice_index slots i ≡ s.word (d.from + 2 + i)
slot_was space s d object slots i word cut below =
    ap (λ (l : List ℕ). slice_index l i) cut.is
    ∙ (get_or-drop 2 object i 0
    ∙ (cut.are.each (2 + i) (omega (arith, below))
    ∙ (ap (word_at space) (let sum : d.from + (2 + i) ≡ d.from + 2 + i = omega arith in sum)
    ∙ sym (word (d.from + 2 + i)))))

slots_size : (space : SpaceWords) (d : Departure) (object slots : List ℕ)
    → IsCut space d object slots
    → length slots ≡ d.shape.refs + d.shape.nums
slots_size space d object slots cut =
    let count : length object ≡ 2 + d.shape.refs + d.shape.nums = cut.are.count_is in
    ap length cut.is ∙ (length-drop 2 object ∙ omega (arith, count))

refs_size : (space : SpaceWords) (d : Departure) (object slots : List ℕ)
    → IsCut space d object slots
    → length (take d.shape.refs slots) ≡ d.shape.refs
refs_size space d object slots cut =
    length-take-le d.shape.refs slots (omega (arith, slots_size space d object slots cut))

-- the references of an object that leaves
pub leaving_refs : (space : SpaceWords) (s : State) (decision : Decision) (d : Departure) (object slots : List ℕ)
    → IsCut space d object slots → Departs space s decision d
    → AreLeavingRefs space s decision (take d.shape.refs slots)
leaving_refs space s decision d object slots cut departs =
    let refs : ℕ = d.shape.refs in
    let seen = departs.decided.seen in
    let header = departs.shaped.header in
    let size : length (take refs slots) ≡ refs = refs_size space d object slots cut in
    let in_header : (i : ℕ) → i < length (take refs slots) → i < header.shape.refs =
    λ i below. let same : header.shape.refs ≡ refs = ap (λ (z : Shape). z.refs) departs.shaped.is in
    omega (arith, below, size, same) in
    let was : (i : ℕ) → i < length (take refs slots) → slice_index (take refs slots) i ≡ s.word (d.from + 2 + i) =
    λ i below. get_or-take refs slots i 0 (omega (arith, below, size))
    ∙ slot_was space s d object slots i seen.word cut (omega (arith, below, size)) in
    record {
      decided = departs.decided;
      room = departs.room;
      references = λ i below. subst IsRefWord (sym (was i below))
          (seen.whole.slots d.from i header departs.leaves.0 departs.shaped.starts (in_header i below));
      named = λ i address below refers. record {
        object = d.from;
        header = header;
        slot = i;
        leaves = departs.leaves;
        starts = departs.shaped.starts;
        below = in_header i below;
        refers = subst (λ (w : ℕ). RefersTo w address) (was i below) refers;
      };
    }

-- the references are slot words
pub slots_are : (space : SpaceWords) (d : Departure) (object slots refs rest : List ℕ)
    → IsCut space d object slots
    → length refs ≡ length (take d.shape.refs slots)
    → AreSlots (2 ^ 32) (length (take d.shape.refs slots)) refs → AreSlots (2 ^ 32) d.shape.refs (refs ++ rest)
slots_are space d object slots refs rest cut same slot = λ i below.
    let size = refs_size space d object slots cut in
    subst (IsSlotWord (2 ^ 32)) (sym (get_or_append_left refs rest 0 i (omega (arith, below, size, same))))
    (slot i (omega (arith, below, size)))

-- the slots as the Body has them
pub slots_encode : {space : SpaceWords} {s : State} {decision : Decision} {d : Departure} {object slots : List ℕ}
    (refs : List ℕ) → IsCut space d object slots → Departs space s decision d
    → length refs ≡ length (take d.shape.refs slots) → ((i : ℕ) → i < length (take d.shape.refs slots) → BecomesHome s
    decision (slice_index (take d.shape.refs slots) i) (slice_index refs i))
    → EncodesSlots s decision d (refs ++ drop d.shape.refs slots)
slots_encode {space} {s} {decision} {d} {object} {slots} refs cut departs same becomes =
    let n : ℕ = d.shape.refs in
    let size = refs_size space d object slots cut in
    let all = slots_size space d object slots cut in
    let word = departs.decided.seen.word in
    record {
      references = λ i below.
          let was : slice_index (take n slots) i ≡ s.word (d.from + 2 + i) =
          get_or-take n slots i 0 below ∙ slot_was space s d object slots i word cut (omega (arith, below)) in
          subst (BecomesHome s decision (s.word (d.from + 2 + i)))
          (sym (get_or_append_left refs (drop n slots) 0 i (omega (arith, below, size, same))))
          (subst (λ (w : ℕ). BecomesHome s decision w (slice_index refs i)) was
          (becomes i (omega (arith, below, size))));
      numbers = λ j below.
          let front : length refs ≡ n = same ∙ size in
          ap (λ (k : ℕ). slice_index (refs ++ drop n slots) (k + j)) (sym front)
          ∙ (get_or-append-add refs (drop n slots) j 0
          ∙ (get_or-drop n slots j 0
          ∙ (slot_was space s d object slots (n + j) word cut (omega (arith, below))
          ∙ ap s.word (let sum : d.from + 2 + (n + j) ≡ d.from + 2 + n + j = omega arith in sum))));
    }

-- an object to which a reference in one that leaves refers
pub named_by : (space : SpaceWords) (s : State) (decision : Decision) (word address : ℕ) (r : Ref)
    → IsLeavingRef space s decision word → IsRef r → word ≡ ref_word r → address_in r ≡ Some address
    → IsNamed space s decision address
named_by space s decision word address r source in_range is at = record {
  decided = source.decided;
  room = source.room;
  named = source.named address (record { reference = r; in_range = in_range; is = is; at = at });
}
