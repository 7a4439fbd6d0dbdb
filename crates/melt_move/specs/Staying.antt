-- The words of the objects that stay, at their new places.
use Rattle.std.specs.Prelude.{◌≡◌, ℕ, ◌+◌, ◌<◌, nat_lt, Bool, List, length, slice_get, slice_index, Some}
use Rattle.melt_model.specs.declared.reports.Phase.TheVariants.{Move}
use Rattle.melt_word.specs.Words.{header_word}
use Rattle.melt_word.specs.declared.header.Header.{Header}
use Rattle.melt_space.specs.Space.{SpaceWords}
use Rattle.melt_scion.specs.State.{State, HeaderAt, RefersTo, Reached}
use Rattle.melt_scion.specs.Moves.{WordBecomes, moved_ref}
use Rattle.melt_copy.specs.declared.forwarding.Relocation.{Relocation}
use Rattle.melt_copy.specs.Moving.{IsRefWord, IsRelocation, words_in, header_after}
use Rattle.melt_copy.specs.Tracking.{goes, word_numbered}
use Rattle.melt_move.specs.declared.decision.Decision.{Decision}
use Rattle.melt_move.specs.Plans.{IsDecision, HasRoom, home_by}

-- an object that can be reached, where all was decided
pub record Follows (space : SpaceWords) (s : State) (decision : Decision) (address : ℕ) : Type 0 where
  pub decided : IsDecision space s decision
  pub room : HasRoom decision
  pub reached : Reached s address

-- a reference that can be reached, where all was decided
pub record IsSource (space : SpaceWords) (s : State) (decision : Decision) (word : ℕ) : Type 0 where
  pub decided : IsDecision space s decision
  pub room : HasRoom decision
  pub reference : IsRefWord word
  pub reached : (address : ℕ) → RefersTo word address → Reached s address

-- these words are those of such references
pub record AreSources (space : SpaceWords) (s : State) (decision : Decision) (words : List ℕ) : Type 0 where
  pub decided : IsDecision space s decision
  pub room : HasRoom decision
  pub references : (i : ℕ) → i < length words → IsRefWord (slice_index words i)
  pub reached : (i address : ℕ) → i < length words → RefersTo (slice_index words i) address → Reached s address

-- an object that stays, where all was decided
pub record Stays (space : SpaceWords) (s : State) (decision : Decision) (m : Relocation) : Type 0 where
  pub decided : IsDecision space s decision
  pub room : HasRoom decision
  pub move : IsRelocation s m

-- the word of a reference in what stays
abbrev pub StaysAs : State → Decision → ℕ → ℕ → Type 0
StaysAs s decision = WordBecomes (moved_ref Move (goes decision.choice.stay) (home_by s.word decision))

-- An object that stays is at its new place in these words: its header with the mark that the phase leaves, its home
-- word as it was, its references to what stays stale and those to what leaves homes, and its number words.
pub record ObjectStays (s : State) (decision : Decision) (held : Bool) (word : ℕ → ℕ) (m : Relocation) : Type 0 where
  pub header : (header : Header) → HeaderAt s m.from header → word m.to ≡ header_word (header_after Move held header)
  pub home : word (m.to + 1) ≡ s.word (m.from + 1)
  pub slots : (i : ℕ) → i < m.shape.refs → StaysAs s decision (s.word (m.from + 2 + i)) (word (m.to + 2 + i))
  pub numbers : (j : ℕ) → j < m.shape.nums → word (m.to + 2 + m.shape.refs + j) ≡ s.word (m.from + 2 + m.shape.refs + j)

-- all objects that stay stand in these words, which begin at address 1
pub record StandIn (s : State) (decision : Decision) (words : List ℕ) : Type 0 where
  pub size : length words ≡ words_in decision.choice.stay.moves.items
  pub objects : (k : ℕ) (m : Relocation) → slice_get decision.choice.stay.moves.items k ≡ Some m
      → ObjectStays s decision (nat_lt k decision.held_count) (word_numbered words) m

-- these are the words of references, each as it stays
pub record WordsStay (s : State) (decision : Decision) (old new : List ℕ) : Type 0 where
  pub size : length new ≡ length old
  pub each : (i : ℕ) → i < length old → StaysAs s decision (slice_index old i) (slice_index new i)
