-- The words of the slots of an object, among all of its words.
use Rattle.std.proofs.Common.{◌≡◌, ℕ, ◌+◌, ◌-◌, ◌<◌, zero, suc, List, length, take, drop, ap}
use Rattle.std.proofs.Common.{◌∙◌, arith, length-drop}
use Rattle.std.specs.Prelude.{slice_index}
use Rattle.std.proofs.lemmas.List.{get_or-take, get_or-drop, length-take-le}
use Rattle.melt_space.specs.Space.{SpaceWords, word_at, AreWords}
use Rattle.melt_scion.specs.State.{State}
use Rattle.melt_copy.specs.Tracking.{word_numbered}
use Rattle.melt_copy.proofs.Following.{slot_word}

pub slots_length : (refs nums : ℕ) (object : List ℕ) → length object ≡ 2 + refs + nums
    → length (take (2 + refs - 2) (drop 2 object)) ≡ refs
slots_length refs nums object size =
    length-take-le (2 + refs - 2) (drop 2 object) (omega (arith, length-drop 2 object, size)) ∙ omega arith

slot_in : (refs : ℕ) (object : List ℕ) (i : ℕ) → i < refs
    → slice_index (take (2 + refs - 2) (drop 2 object)) i ≡ slice_index object (2 + i)
slot_in refs object i below = get_or-take (2 + refs - 2) (drop 2 object) i 0 (omega (arith, below))
    ∙ get_or-drop 2 object i 0

-- the words of the slots are those from the third on
pub slots_are : (space : SpaceWords) (from refs nums : ℕ) (object : List ℕ)
    → AreWords space from (2 + refs + nums) object
    → AreWords space (from + 2) refs (take (2 + refs - 2) (drop 2 object))
slots_are space from refs nums object are = record {
  count_is = slots_length refs nums object are.count_is;
  each = λ i below.
      slot_in refs object i below
      ∙ (are.each (2 + i) (omega (arith, below))
      ∙ ap (word_at space) (let sum : from + (2 + i) ≡ from + 2 + i = omega arith in sum));
}

-- the word of a slot, as a state has it
pub object_slot : {space : SpaceWords} (s : State) {from : ℕ} (refs nums : ℕ) {object : List ℕ} (i : ℕ)
    → ((k : ℕ) → s.word k ≡ word_at space k) → AreWords space from (2 + refs + nums) object → i < refs
    → slice_index (take (2 + refs - 2) (drop 2 object)) i ≡ s.word (from + 2 + i)
object_slot {space} s {from} refs nums {object} i word are below =
    slot_word space s from refs (take (2 + refs - 2) (drop 2 object)) i word (slots_are space from refs nums object are)
    below

pub word_in_at : (words : List ℕ) (n j at : ℕ) → at ≡ n + 1 + j → word_numbered words at ≡ slice_index words (n + j)
word_in_at words n j zero is = absurd (omega (arith, is))
word_in_at words n j (suc k) is = ap (slice_index words) (omega (arith, is))
