-- What words of references refer to is found, word by word and object by object.
use Rattle.std.proofs.Common.{◌≡◌, ◌≢◌, ℕ, ◌+◌, ◌<◌, List, length, sym, subst, ◌∙◌, arith, below_more}
use Rattle.std.specs.Prelude.{slice_get, slice_index, Some}
use Rattle.std.proofs.lemmas.Option.{same_Some, slice_get_within}
use Rattle.melt_word.specs.declared.header.Shape.{Shape}
use Rattle.melt_space.specs.Space.{SpaceWords, word_at, AreWords}
use Rattle.melt_scion.specs.State.{State, RefersTo}
use Rattle.melt_scion.specs.State.Reached.{in_slot}
use Rattle.melt_copy.specs.declared.forwarding.Relocation.{Relocation}
use Rattle.melt_copy.specs.declared.forwarding.Forwarding.{Forwarding}
use Rattle.melt_copy.specs.Moving.{IsRefWord}
use Rattle.melt_copy.specs.Tracking.{goes, Grows, TracksIn, TracksOf}
use Rattle.melt_copy.specs.Reaching.{FindsWords, FindsSlots}
use Rattle.melt_copy.proofs.Growth.{stays_there}
use Rattle.melt_copy.proofs.Held.{still_known}
use Rattle.melt_copy.proofs.Queue.{was_there}

-- what one word more refers to was found
pub words_more : (a b : Forwarding) (words : List ℕ) (n : ℕ) → Grows a b
    → ((i address : ℕ) → i < n → RefersTo (slice_index words i) address → goes a address ≢ 0)
    → ((address : ℕ) → RefersTo (slice_index words n) address → goes b address ≢ 0) → (i address : ℕ) → i < n + 1
    → RefersTo (slice_index words i) address → goes b address ≢ 0
words_more a b words n grows before here i address =
    below_more (λ (i : ℕ). RefersTo (slice_index words i) address → goes b address ≢ 0) n
    (λ i below refers. still_known a b address grows (before i address below refers)) (here address) i

-- a word of the slots
pub slot_word : (space : SpaceWords) (s : State) (from refs : ℕ) (slots : List ℕ) (i : ℕ)
    → ((k : ℕ) → s.word k ≡ word_at space k) → AreWords space (from + 2) refs slots → i < refs
    → slice_index slots i ≡ s.word (from + 2 + i)
slot_word space s from refs slots i word are below = are.each i below ∙ sym (word (from + 2 + i))

module _ (space : SpaceWords) (s : State) (forwarding : Forwarding) (m : Relocation) (slots : List ℕ)
    (are : AreWords space (m.from + 2) m.shape.refs slots) (of : TracksOf space s forwarding m) where
  within : (i : ℕ) → i < length slots → i < m.shape.refs
  within i below = let count = are.count_is in omega (arith, below, count)

  in_header : (i : ℕ) → i < length slots → i < of.move.header.shape.refs
  in_header i below = subst (λ (shape : Shape). i < shape.refs) (sym of.move.shape) (within i below)

  is_word : (i : ℕ) → i < m.shape.refs → slice_index slots i ≡ s.word (m.from + 2 + i)
  is_word i below = slot_word space s m.from m.shape.refs slots i of.tracks.word are below

  -- the slots of an object have words of references, to objects that can be reached
  pub slots_tracked : TracksIn space s forwarding slots
  slots_tracked = record {
    tracks = of.tracks;
    references = λ i below. subst IsRefWord (sym (is_word i (within i below)))
        (of.tracks.whole.slots m.from i of.move.header of.move.reached of.move.starts (in_header i below));
    reached = λ i at below refers. in_slot m.from i at of.move.header of.move.reached of.move.starts
        (in_header i below) (subst (λ (w : ℕ). RefersTo w at) (is_word i (within i below)) refers);
  }

  -- what the words of the slots refer to is what the slots refer to
  pub slots_found : (f : ℕ → ℕ) → FindsWords f slots → FindsSlots s f m
  slots_found f finds i address below refers =
      finds i address (let count = are.count_is in omega (arith, below, count))
      (subst (λ (w : ℕ). RefersTo w address) (sym (is_word i below)) refers)

-- what the slots of one object more refer to was found
pub objects_more : (s : State) {a b : Forwarding} (n : ℕ) {m : Relocation} → Grows a b
    → slice_get a.moves.items n ≡ Some m
    → ((k : ℕ) (x : Relocation) → k < n → slice_get a.moves.items k ≡ Some x → FindsSlots s (goes a) x)
    → FindsSlots s (goes b) m → (k : ℕ) (x : Relocation) → k < n + 1 → slice_get b.moves.items k ≡ Some x
    → FindsSlots s (goes b) x
objects_more s {a} {b} n {m} grows at before here k x =
    below_more (λ (k : ℕ). slice_get b.moves.items k ≡ Some x → FindsSlots s (goes b) x) n
    (λ k below there i address slot refers.
    let length_is = slice_get_within a.moves.items n m at in
    still_known a b address grows
    (before k x below (was_there a b k x grows (omega (arith, below, length_is)) there) i address slot refers))
    (λ there. subst (FindsSlots s (goes b)) (same_Some m x (sym (stays_there a b n m grows at) ∙ there)) here) k
